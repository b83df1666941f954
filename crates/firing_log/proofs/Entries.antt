-- The sparse table: the entries of one more full block are found, and are right where those before are.
-- Assumes nothing.
use Rattle.std.proofs.Common.{◌≡◌, ℕ, zero, suc, ◌+◌, ◌-◌, ◌*◌, ◌^◌, ◌<◌, ◌≤◌, Bool, true, List, [], ◌∷◌, length, get_or, set, Some, Option, sym, refl, ap, ◌∙◌, ⊎_elim, arith, pow_pos, pow_mono}
use native.Mathlib.Nat.{pow-succ'}
use Rattle.std.proofs.lemmas.List.{length-set, get_or-set_same, get_or-set_other}
use Rattle.std.proofs.lemmas.Bool.{cases_lt, and_from, le-leb, lt-ltb}
use Rattle.reading.specs.Order.{Orders}
use Rattle.reading.specs.Coldest.{FirstColdest}
use Rattle.firing_log.specs.Steps.{entries_of, entry_at, in_blocks, join, joined, level, more_entries, written}
use Rattle.firing_log.proofs.Firsts.{first_joined}
use Rattle.firing_log.proofs.Levels.{Level, level_right, exponent_below, few_levels}

-- a place is right as entry j of block b: the first coldest of the 2 ^ j blocks that end with block b
abbrev pub EntryRight : (ℕ → ℕ → Bool) → ℕ → ℕ → ℕ → Type 0
EntryRight o b j p = FirstColdest o (8 * (b + 1 - 2 ^ j)) (8 * b + 7) p

-- the entries of the first n blocks are right
abbrev pub TableRight : (ℕ → ℕ → Bool) → List ℕ → ℕ → Type 0
TableRight o entries n = (b j : ℕ) → b < n → 2 ^ j ≤ b + 1 → EntryRight o b j (get_or entries (entry_at b j) 0)

pub entry_in_blocks : (o : ℕ → ℕ → Bool) (b j p low high : ℕ) → EntryRight o b j p → low ≡ b + 1 - 2 ^ j → high ≡ b + 1 → in_blocks low high p ≡ true
entry_in_blocks o b j p low high right from to =
    and_from _ _ (le-leb (8 * low) p (omega (arith, right.from))) (lt-ltb p (8 * high) (omega (arith, right.to)))

-- ---- the entries of a block

-- the entries of block b from level k on, n of them, are found and right
pub record RowFound (o : ℕ → ℕ → Bool) (b k n : ℕ) (found : Option (List ℕ)) : Type 0 where
  pub es : List ℕ
  pub some : found ≡ Some es
  pub long : length es ≡ n
  pub right : (i : ℕ) → i < n → EntryRight o b (k + i) (get_or es i 0)

found_more : {o : ℕ → ℕ → Bool} {b k n : ℕ} {found : Option (List ℕ)} (p : ℕ) → EntryRight o b k p → RowFound o b (suc k) n found → RowFound o b k (suc n) (more_entries p found)
found_more {o} {b} {k} {n} p here rest = record {
  es = p ∷ rest.es;
  some = ap (more_entries p) rest.some;
  long = ap suc rest.long;
  right = right;
}
  where
    right : (i : ℕ) → i < suc n → EntryRight o b (k + i) (get_or (p ∷ rest.es) i 0)
    right zero h = let e : k + 0 ≡ k = omega arith in rw e here
    right (suc i) h = let e : k + suc i ≡ suc k + i = omega arith in rw e (rest.right i (omega arith))

module _ {o : ℕ → ℕ → Bool} (laws : Orders o) (entries : List ℕ) (b : ℕ) (before : TableRight o entries b) where
  -- one more level, joined of two entries below it
  joined_more : (n k p : ℕ) → 2 ^ suc k ≤ b + 1 → EntryRight o b k p
      → ((e : ℕ) → EntryRight o b (suc k) e → RowFound o b (suc (suc k)) n (joined o entries b n (suc (suc k)) e))
      → RowFound o b (suc k) (suc n) (joined o entries b (suc n) (suc k) p)
  joined_more n k p room right rest =
      let low : suc k - 1 ≡ k = omega arith in
      let double = pow-succ' 2 k in
      let c : ℕ = b - 2 ^ k in
      let left : ℕ = get_or entries (entry_at c k) 0 in
      let left_right : EntryRight o c k left = before c k (omega (arith, pow_pos k)) (omega arith) in
      let from : c + 1 - 2 ^ k ≡ b + 1 - 2 ^ suc k = omega arith in
      let here : EntryRight o b (suc k) (join o left p) =
      first_joined laws (8 * (b + 1 - 2 ^ suc k)) (8 * c + 7) (8 * (b + 1 - 2 ^ k)) (8 * b + 7) left p (omega arith) (omega arith) (omega arith)
      (rw from at left_right) right in
      let inside : in_blocks (b + 1 - 2 ^ suc k) (b + 1 - 2 ^ k) left ≡ true =
      entry_in_blocks o c k left (b + 1 - 2 ^ suc k) (b + 1 - 2 ^ k) left_right (sym from) (omega arith) in
      rw (low, inside) (found_more (join o left p) here (rest (join o left p) here))

  joined_found : (n k p : ℕ) → 2 ^ (k + n) ≤ b + 1 → EntryRight o b k p → RowFound o b (suc k) n (joined o entries b n (suc k) p)
  joined_found zero k p room right = record { es = []; some = refl; long = refl; right = λ i h. absurd (omega arith) }
  joined_found (suc n) k p room right =
      joined_more n k p (omega (arith, pow_mono {i = suc k} {j = k + suc n} (omega arith))) right
      (λ e here. joined_found n (suc k) e (let same : k + suc n ≡ suc k + n = omega arith in rw same at room) here)

  pub entries_found : (p : ℕ) → b < 4096 → EntryRight o b 0 p → RowFound o b 0 (suc (level (b + 1))) (entries_of o entries b p)
  entries_found p few right =
      let top : Level (b + 1) (level (b + 1)) = level_right (b + 1) (omega arith) (omega arith) in
      found_more p right (joined_found (level (b + 1)) 0 p (let e : 0 + level (b + 1) ≡ level (b + 1) = omega arith in rw e top.within) right)

-- ---- writing them

pub length_written : (xs : List ℕ) (i : ℕ) (ys : List ℕ) → length (written xs i ys) ≡ length xs
length_written xs i [] = refl
length_written xs i (y ∷ ys) = length_written (set xs i y) (suc i) ys ∙ length-set xs i y

get_or_written_before : (xs : List ℕ) (i : ℕ) (ys : List ℕ) (k : ℕ) → k < i → get_or (written xs i ys) k 0 ≡ get_or xs k 0
get_or_written_before xs i [] k h = refl
get_or_written_before xs i (y ∷ ys) k h =
    get_or_written_before (set xs i y) (suc i) ys k (omega arith) ∙ get_or-set_other xs i k y 0 (omega arith)

get_or_written : (xs : List ℕ) (i : ℕ) (ys : List ℕ) (k : ℕ) → i + length ys ≤ length xs → k < length ys → get_or (written xs i ys) (i + k) 0 ≡ get_or ys k 0
get_or_written xs i [] k room h = absurd (omega arith)
get_or_written xs i (y ∷ ys) zero room h =
    let e : i + 0 ≡ i = omega arith in
    rw e (get_or_written_before (set xs i y) (suc i) ys i (omega arith) ∙ get_or-set_same xs i y 0 (omega arith))
get_or_written xs i (y ∷ ys) (suc k) room h =
    let e : i + suc k ≡ suc i + k = omega arith in
    rw e (get_or_written (set xs i y) (suc i) ys k (omega (arith, length-set xs i y)) (omega arith))

-- the table with the entries of one more block
pub table_more : {o : ℕ → ℕ → Bool} {b : ℕ} {found : Option (List ℕ)} (entries : List ℕ) → b < 4096 → 13 * (b + 1) ≤ length entries → TableRight o entries b
    → (row : RowFound o b 0 (suc (level (b + 1))) found) → TableRight o (written entries (entry_at b 0) row.es) (b + 1)
table_more {o} {b} entries few room before row c j h k =
    let top : Level (b + 1) (level (b + 1)) = level_right (b + 1) (omega arith) (omega arith) in
    let small : j < 13 = few_levels j (c + 1) k (omega arith) in
    ⊎_elim
    (λ (d : c < b). rw (get_or_written_before entries (entry_at b 0) row.es (entry_at c j) (omega arith)) (before c j d k))
    (λ (d : b ≤ c).
    let same : c ≡ b = omega arith in
    let at : entry_at b j ≡ entry_at b 0 + j = omega arith in
    let level_is : 0 + j ≡ j = omega arith in
    let reach : j < suc (level (b + 1)) = exponent_below j (suc (level (b + 1))) (b + 1) (omega arith) top.above in
    let fits : level (b + 1) < 13 = few_levels (level (b + 1)) (b + 1) top.within (omega arith) in
    rw (same, at, get_or_written entries (entry_at b 0) row.es j (omega (arith, row.long)) (omega (arith, row.long))) (rw level_is at (row.right j reach)))
    (cases_lt c b)
