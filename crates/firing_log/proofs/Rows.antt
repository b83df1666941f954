-- One block's row of entries: each level joined with the one before, and the row written.
-- Assumes nothing.
use Rattle.std.proofs.Common.{◌≡◌, ℕ, suc, ◌+◌, ◌-◌, ◌*◌, ◌%◌, ◌^◌, ◌<◌, ◌≤◌, Bool, cond, ltb, leb, List, [], ◌∷◌, ◌++◌, length, get_or, take, drop, set, Some, None, Ok, Err, Option, sym, refl, ap, ◌∙◌, append_assoc, arith, pow_pos, pow_mono}
use native.Mathlib.Nat.{pow-succ'}
use Rattle.std.proofs.lemmas.Nat.{one_shl}
use Rattle.std.proofs.lemmas.List.{take_more_set, take-append-drop, drop-drop, drop-set-lt, length-set}
use Rattle.std.proofs.lemmas.Bool.{and_parts, ltb-true}
use Rattle.reading.specs.Coldest.{places}
use Rattle.firing_log.specs.Of.{Stands, Chosen, SameBelow, row_in}
use Rattle.firing_log.specs.Steps.{join, in_blocks, entry_at, joined, more_entries, entries_of, level, written}
use Rattle.firing_log.specs.declared.candidate.Candidate.{Candidate}
use Rattle.firing_log.specs.declared.fault.LogFault.{LogFault}
use Rattle.firing_log.specs.declared.fault.LogFault.TheVariants.{Index}
use Rattle.firing_log.proofs.Founds.{Held, colder_held, found_ok, found_err}
use Rattle.firing_log.proofs.Levels.{Level, level_right, few_levels}

-- ---- one level, where w is 2 ^ k as the code has it

module _ {K : Type 0} (colder : K → K → Bool) (old : List K) (entries : List ℕ) (b k w : ℕ) (within : 2 ^ suc k ≤ b + 1) (power : w ≡ 2 ^ k) where
  abbrev left_entry : ℕ
  left_entry = get_or entries (entry_at (b - w) k) 0

  abbrev left_inside : Bool
  left_inside = in_blocks (b - w + 1 - 2 ^ k) (b - w + 1) left_entry

  joined_is : (o : ℕ → ℕ → Bool) (n p : ℕ)
      → joined o entries b (suc n) (suc k) p ≡ cond left_inside (more_entries (join o left_entry p) (joined o entries b n (suc (suc k)) (join o left_entry p))) None
  joined_is o n p =
      let low : suc k - 1 ≡ k = omega arith in
      let double = pow-succ' 2 k in
      let from : b + 1 - 2 ^ suc k ≡ b - 2 ^ k + 1 - 2 ^ k = omega (arith, double, within) in
      let to : b + 1 - 2 ^ k ≡ b - 2 ^ k + 1 = omega (arith, double, within, pow_pos k) in
      rw (power, low, from, to)

  pub level_refused : (e : LogFault) → Chosen old (cond left_inside (Ok left_entry) (Err Index)) (Err e)
      → (e ≡ Index) × ((o : ℕ → ℕ → Bool) (n p : ℕ) → joined o entries b (suc n) (suc k) p ≡ None)
  level_refused e f = let t = found_err old left_inside left_entry e f in (t.1, λ o n p. joined_is o n p ∙ rw t.0)

  -- the candidate of one level more
  pub record Joined (o : ℕ → ℕ → Bool) (rs : List K) (best z : Candidate K) : Type 0 where
    pub holds : Stands rs z
    pub more : (n : ℕ) → joined o entries b (suc n) (suc k) best.place ≡ more_entries z.place (joined o entries b n (suc (suc k)) z.place)

  pub level_joined : (x best z : Candidate K) → Chosen old (cond left_inside (Ok left_entry) (Err Index)) (Ok x) → z ≡ cond (colder best.reading x.reading) best x
      → (rs : List K) → Stands rs best → SameBelow (8 * b) old rs → Joined (places colder rs) rs best z
  level_joined x best z f e rs holds same =
      let t = found_ok old left_inside left_entry x f in
      let inside = and_parts (leb (8 * (b - w + 1 - 2 ^ k)) left_entry) (ltb left_entry (8 * (b - w + 1))) t.0 in
      let at : x.place < 8 * b = omega (arith, ltb-true left_entry (8 * (b - w + 1)) inside.1, t.1.place, power, pow_pos k, pow-succ' 2 k, within) in
      let left : Held rs left_entry x = record { place = t.1.place; holds = same x.place at ∙ t.1.holds } in
      let right : Held rs best.place best = record { place = refl; holds = holds } in
      let h = colder_held rs colder left_entry best.place x best z left right e in
      record { holds = h.holds; more = λ n. joined_is (places colder rs) n best.place ∙ rw (t.0, h.place) }

-- ---- all levels

-- entries in front of others that are worked out, if they are
abbrev pub prefixed : List ℕ → Option (List ℕ) → Option (List ℕ)
prefixed [] rest = rest
prefixed (e ∷ es) rest = more_entries e (prefixed es rest)

prefixed_push : (es : List ℕ) (e : ℕ) (rest : Option (List ℕ)) → prefixed (es ++ (e ∷ [])) rest ≡ prefixed es (more_entries e rest)
prefixed_push [] e rest = refl
prefixed_push (x ∷ es) e rest = ap (more_entries x) (prefixed_push es e rest)

prefixed_all : (es : List ℕ) → prefixed es (Some []) ≡ Some es
prefixed_all [] = refl
prefixed_all (e ∷ es) = ap (more_entries e) (prefixed_all es)

prefixed_none : (es : List ℕ) → prefixed es None ≡ None
prefixed_none [] = refl
prefixed_none (e ∷ es) = ap (more_entries e) (prefixed_none es)

-- the row of block b has its entries up to level k, of which the last is that of best
pub record Rising {K : Type 0} (colder : K → K → Bool) (entries : List ℕ) (b levels k : ℕ) (first best : Candidate K) (row : List ℕ) (rs : List K) : Type 0 where
  pub holds : Stands rs best
  pub rest : entries_of (places colder rs) entries b first.place ≡ prefixed (take (k + 1) row) (joined (places colder rs) entries b (levels - k) (suc k) best.place)

-- the powers of two of level k of block b
pub record Halving (b k : ℕ) : Type 0 where
  pub shifted : (1 * 2 ^ k) % 2 ^ 64 ≡ 2 ^ k
  pub within : 2 ^ suc k ≤ b + 1
  pub double : 2 ^ suc k ≡ 2 * 2 ^ k
  pub some : 0 < 2 ^ k

pub halving : (b k : ℕ) → b < 4096 → k < level (b + 1) → Halving b k
halving b k small below =
    let top : Level (b + 1) (level (b + 1)) = level_right (b + 1) (omega arith) (omega arith) in
    let le : 2 ^ suc k ≤ 2 ^ level (b + 1) = pow_mono (let n : suc k ≤ level (b + 1) = omega arith in n) in
    record { shifted = one_shl k 64 (omega (arith, few_levels (suc k) (b + 1) (omega (arith, top.within)) (omega arith))); within = omega (arith, top.within); double = pow-succ' 2 k; some = pow_pos k }

module _ {K : Type 0} (colder : K → K → Bool) (entries : List ℕ) (b : ℕ) (first : Candidate K) (rs : List K) where
  pub rise_begins : (row : List ℕ) → 0 < length row → Stands rs first → Rising colder entries b (level (b + 1)) 0 first first (set row 0 first.place) rs
  rise_begins row some holds =
      let n : level (b + 1) - 0 ≡ level (b + 1) = omega arith in
      record { holds = holds; rest = sym (rw (take_more_set row 0 first.place some, n) refl) }

  module _ (levels k : ℕ) (best : Candidate K) (row : List ℕ) (below : k < levels) (s : Rising colder entries b levels k first best row rs) where
    one_more : levels - k ≡ suc (levels - suc k)
    one_more = omega arith

    pub rise_more : (z : Candidate K) (w : ℕ) (within : 2 ^ suc k ≤ b + 1) (power : w ≡ 2 ^ k) (old : List K) → k + 1 < length row → Joined colder old entries b k w within power (places colder rs) rs best z
        → Rising colder entries b levels (k + 1) first z (set row (k + 1) z.place) rs
    rise_more z w within power old room j =
        let next : k + 1 ≡ suc k = omega arith in
        record {
          holds = j.holds;
          rest = s.rest ∙ ap (prefixed (take (k + 1) row)) (ap (λ n. joined (places colder rs) entries b n (suc k) best.place) one_more ∙ j.more (levels - suc k))
              ∙ sym (prefixed_push (take (k + 1) row) z.place (joined (places colder rs) entries b (levels - suc k) (suc (suc k)) z.place))
              ∙ ap (λ es. prefixed es (joined (places colder rs) entries b (levels - suc k) (suc (suc k)) z.place)) (sym (take_more_set row (k + 1) z.place room))
              ∙ ap (λ m. prefixed (take (k + 1 + 1) (set row (k + 1) z.place)) (joined (places colder rs) entries b (levels - m) (suc m) z.place)) (sym next);
        }

    pub rise_refused : ((n : ℕ) → joined (places colder rs) entries b (suc n) (suc k) best.place ≡ None) → entries_of (places colder rs) entries b first.place ≡ None
    rise_refused none =
        s.rest ∙ ap (prefixed (take (k + 1) row)) (ap (λ n. joined (places colder rs) entries b n (suc k) best.place) one_more ∙ none (levels - suc k)) ∙ prefixed_none (take (k + 1) row)

  pub rise_ends : (k : ℕ) (best : Candidate K) (row : List ℕ) → k ≡ level (b + 1) → Rising colder entries b (level (b + 1)) k first best row rs
      → entries_of (places colder rs) entries b first.place ≡ Some (row_in b row)
  rise_ends k best row at s =
      let none : level (b + 1) - k ≡ 0 = omega arith in
      let all : k + 1 ≡ suc (level (b + 1)) = omega arith in
      s.rest ∙ ap (λ n. prefixed (take (k + 1) row) (joined (places colder rs) entries b n (suc k) best.place)) none ∙ prefixed_all (take (k + 1) row) ∙ ap (λ n. Some (take n row)) all

-- ---- the row written

written_is : (xs : List ℕ) (i : ℕ) (ys : List ℕ) → i + length ys ≤ length xs → written xs i ys ≡ take i xs ++ (ys ++ drop (i + length ys) xs)
written_is xs i [] room = let e : i + 0 ≡ i = omega arith in rw e (sym (take-append-drop i xs))
written_is xs i (y ∷ ys) room =
    let next : suc i ≡ i + 1 = omega arith in
    let end : suc i + length ys ≡ i + suc (length ys) = omega arith in
    written_is (set xs i y) (suc i) ys (omega (arith, length-set xs i y))
    ∙ ap (λ n. take n (set xs i y) ++ (ys ++ drop (suc i + length ys) (set xs i y))) next
    ∙ ap (λ f. f ++ (ys ++ drop (suc i + length ys) (set xs i y))) (take_more_set xs i y (omega arith))
    ∙ append_assoc (take i xs) (y ∷ []) (ys ++ drop (suc i + length ys) (set xs i y))
    ∙ ap (λ r. take i xs ++ (y ∷ (ys ++ r))) (drop-set-lt (suc i + length ys) xs i y (omega arith) ∙ ap (λ n. drop n xs) end)

-- the part from i on, as long as the row, that is now the row
pub row_written : (xs : List ℕ) (i n at : ℕ) (ys : List ℕ) → at ≡ i → n ≡ length ys → i + length ys ≤ length xs → take i xs ++ (ys ++ drop n (drop i xs)) ≡ written xs at ys
row_written xs i n at ys here all room =
    ap (λ m. take i xs ++ (ys ++ drop m (drop i xs))) all ∙ ap (λ r. take i xs ++ (ys ++ r)) (drop-drop (length ys) i xs) ∙ sym (written_is xs i ys room) ∙ ap (λ k. written xs k ys) (sym here)
