-- Blocks of a log as lists: the last block, as the code has it in hand.
-- Assumes nothing.
use Rattle.std.proofs.Common.{◌≡◌, ℕ, zero, suc, ◌+◌, ◌-◌, ◌*◌, ◌/◌, ◌%◌, ◌<◌, ◌≤◌, List, [], ◌∷◌, ◌++◌, length, take, drop, set, Some, sym, refl, ap, ◌∙◌, arith, length-take}
use Rattle.std.specs.List.{slice_get}
use Rattle.std.proofs.lemmas.List.{take_all, take_more_set, drop-append-le, drop-take, length_push}
use Rattle.firing_log.specs.State.{block}

-- where the block of the last of n readings begins
pub last_begins : (n : ℕ) → 0 < n % 8 → (n - 1) / 8 ≡ n / 8
last_begins n h = omega arith

-- the readings of the last block of the first n, by a part of the slice
pub last_part : {K : Type 0} (xs : List K) (n : ℕ) → n ≤ length xs → 0 < n % 8 → take 8 (take (n - 8 * (n / 8)) (drop (8 * (n / 8)) xs)) ≡ block ((n - 1) / 8) (take n xs)
last_part xs n within some =
    let at : (n - 1) / 8 ≡ n / 8 = last_begins n some in
    let split : n ≡ 8 * (n / 8) + (n - 8 * (n / 8)) = omega arith in
    ap (take 8) (sym (drop-take (8 * (n / 8)) (n - 8 * (n / 8)) xs) ∙ ap (λ k. drop (8 * (n / 8)) (take k xs)) (sym split))
    ∙ ap (λ b. block b (take n xs)) (sym at)

-- the last block of one reading more, by a part of the slice and that reading
pub last_with : {K : Type 0} (xs : List K) (n : ℕ) (x : K) → n < length xs
    → take 7 (take (n - 8 * (n / 8)) (drop (8 * (n / 8)) xs)) ++ (x ∷ []) ≡ block ((n + 1 - 1) / 8) (take (n + 1) (set xs n x))
last_with xs n x within =
    let b : ℕ = n / 8 in
    let at : (n + 1 - 1) / 8 ≡ b = omega arith in
    let split : n ≡ 8 * b + (n - 8 * b) = omega arith in
    let front : drop (8 * b) (take n xs) ≡ take (n - 8 * b) (drop (8 * b) xs) = ap (λ k. drop (8 * b) (take k xs)) split ∙ drop-take (8 * b) (n - 8 * b) xs in
    let short : length (take (n - 8 * b) (drop (8 * b) xs)) ≤ 7 = omega (arith, length-take (n - 8 * b) (drop (8 * b) xs)) in
    let all : length (take (n - 8 * b) (drop (8 * b) xs) ++ (x ∷ [])) ≤ 8 = omega (arith, length_push (take (n - 8 * b) (drop (8 * b) xs)) x) in
    let long : 8 * b ≤ length (take n xs) = omega (arith, length-take n xs) in
    ap (λ f. f ++ (x ∷ [])) (take_all 7 (take (n - 8 * b) (drop (8 * b) xs)) short)
    ∙ sym (take_all 8 (take (n - 8 * b) (drop (8 * b) xs) ++ (x ∷ [])) all)
    ∙ ap (λ f. take 8 (f ++ (x ∷ []))) (sym front)
    ∙ ap (take 8) (sym (drop-append-le (8 * b) (take n xs) (x ∷ []) long))
    ∙ ap (λ l. take 8 (drop (8 * b) l)) (sym (take_more_set xs n x within))
    ∙ ap (λ k. block k (take (n + 1) (set xs n x))) (sym at)

-- ---- one reading written

pub nth_set_same : {K : Type 0} (xs : List K) (i : ℕ) (x : K) → i < length xs → slice_get (set xs i x) i ≡ Some x
nth_set_same [] i x h = absurd (omega arith)
nth_set_same (y ∷ xs) zero x h = refl
nth_set_same (y ∷ xs) (suc i) x h = nth_set_same xs i x (omega arith)

pub nth_set_other : {K : Type 0} (xs : List K) (i j : ℕ) (x : K) → (j ≡ i → ⊥) → slice_get (set xs i x) j ≡ slice_get xs j
nth_set_other [] i j x h = refl
nth_set_other (y ∷ xs) zero zero x h = absurd (h refl)
nth_set_other (y ∷ xs) zero (suc j) x h = refl
nth_set_other (y ∷ xs) (suc i) zero x h = refl
nth_set_other (y ∷ xs) (suc i) (suc j) x h = nth_set_other xs i j x (λ e. h (ap suc e))
