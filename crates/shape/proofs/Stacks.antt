-- The stack that a shape number is worked out with: one removal, the end of an arrival, one arrival more.
-- Assumes nothing.
use Rattle.std.proofs.Common.{◌≡◌, ℕ, zero, suc, ◌+◌, ◌-◌, ◌<◌, ◌≤◌, Bool, List, [], ◌∷◌, length, get_or, take, set, sym, refl, ap, subst, ⊎_elim, arith, length-take, get_or-set_other, get_or-set_same}
use Rattle.std.proofs.lemmas.Grind.{common_steps}
use Rattle.std.proofs.lemmas.Bool.{cases_lt}
use Rattle.std.specs.List.{slice_get}
use Rattle.reading.specs.Coldest.{places}
use Rattle.paths.specs.Stack.{stacked, Below}
use Rattle.paths.proofs.Moves.{Agree}

pub length_stacked : (xs : List ℕ) (h : ℕ) → length (stacked xs h) ≡ h
length_stacked xs zero = refl
length_stacked xs (suc h) = ap suc (length_stacked xs h)

pub stacked_top : (xs : List ℕ) (h : ℕ) → 0 < h → stacked xs h ≡ get_or xs (h - 1) 0 ∷ stacked xs (h - 1)
stacked_top xs h pos = grind (arith, common_steps)

pub stacked_set : (xs : List ℕ) (h k x : ℕ) → h ≤ k → stacked (set xs k x) h ≡ stacked xs h
stacked_set xs zero k x le = refl
stacked_set xs (suc h) k x le = grind (arith, common_steps, get_or-set_other, stacked_set xs h k x (omega arith))

pub stacked_push : (xs : List ℕ) (h x : ℕ) → h < length xs → stacked (set xs h x) (h + 1) ≡ x ∷ stacked xs h
stacked_push xs h x lt = grind (arith, common_steps, get_or-set_same, stacked_set)

pub below_at : (c : ℕ) (xs : List ℕ) (n h : ℕ) → Below c (stacked xs n) → h < n → get_or xs h 0 < c
below_at c xs zero h below lt = absurd (omega arith)
below_at c xs (suc n) h below lt =
    ⊎_elim (λ (e : h < n). below_at c xs n h below.1 e)
    (λ (e : n ≤ h). let same : h ≡ n = omega arith in subst (λ (k : ℕ). get_or xs k 0 < c) (sym same) below.0)
    (cases_lt h n)

nth_take : {K : Type 0} (n i : ℕ) (xs : List K) → i < n → slice_get (take n xs) i ≡ slice_get xs i
nth_take zero i xs h = absurd (omega arith)
nth_take (suc n) i [] h = refl
nth_take (suc n) zero (x ∷ xs) h = refl
nth_take (suc n) (suc i) (x ∷ xs) h = nth_take n i xs (omega arith)

-- the front of a list compares as the list does
pub places_front : {K : Type 0} (colder : K → K → Bool) (n : ℕ) (xs : List K) → Agree (length (take n xs)) (places colder xs) (places colder (take n xs))
places_front colder n xs i j hi hj = grind (arith, common_steps, length-take, nth_take)
