-- What holds of any two logs that are reached, of one kind or two, with one answerer or two, whatever their capacities.
-- Assumes nothing.
use Rattle.std.specs.Prelude.{◌≡◌, ℕ, ◌+◌, ◌*◌, ◌^◌, ◌<◌, ◌≤◌, Bool, ◌↔◌, List, ◌++◌, length, drop, Ok, slice_index}
use Rattle.reading.specs.Coldest.{FirstColdest, places}
use Rattle.paths.specs.Laws.{SameFirsts, NeverTie}
use Rattle.firing_log.specs.Runs.{Reached, Sound}
use Rattle.firing_log.specs.State.{State, log_of, block}
use Rattle.firing_log.specs.Steps.{coldest, entry_at}
use Rattle.firing_log.specs.Strip.{strip_of, strip_written}

module _ {K L : Type 0} (colder : K → K → Bool) (seats : ℕ → ℕ → ℕ → ℕ) (other : L → L → Bool) (places_of : ℕ → ℕ → ℕ → ℕ) where
  -- every coldest question within the count gets the same place from both logs
  abbrev pub SameAnswers : State K → State L → Type 0
  SameAnswers s t = (l r : ℕ) → l ≤ r → r < s.count → (p : ℕ) × (coldest colder seats s l r ≡ Ok p) × (coldest other places_of t l r ≡ Ok p)

  -- the readings of two logs compare alike
  pub record Alike (s : State K) (t : State L) : Type 0 where
    pub counts : s.count ≡ t.count
    pub readings : (i j : ℕ) → i < s.count → j < s.count → places colder (log_of s) i j ≡ places other (log_of t) i j

  -- the index numbers in use: the numbers of begun blocks, and the entries of full ones
  pub record SameIndex (s : State K) (t : State L) : Type 0 where
    pub shapes : (b : ℕ) → 8 * b < s.count → slice_index s.shapes b ≡ slice_index t.shapes b
    pub entries : (b j : ℕ) → 8 * b + 8 ≤ s.count → 2 ^ j ≤ b + 1 → slice_index s.entries (entry_at b j) ≡ slice_index t.entries (entry_at b j)

  pub record TwoLogs : Type 0 where
    -- two full blocks carry the same number exactly when each of their 36 ranges has the same first coldest place, counted from each block's own start
    pub equal_numbers : (s : State K) (t : State L) → Reached colder seats s → Reached other places_of t → (b c : ℕ) → 8 * b + 8 ≤ s.count → 8 * c + 8 ≤ t.count
        → (slice_index s.shapes b ≡ slice_index t.shapes c) ↔ SameFirsts 8 (places colder (block b (log_of s))) (places other (block c (log_of t)))
    -- of two logs with equal counts the strips are equal exactly when the answers are
    pub equal_strips : (s : State K) (t : State L) → Reached colder seats s → Reached other places_of t → s.count ≡ t.count
        → (strip_of colder s ≡ strip_of other t) ↔ SameAnswers s t
    -- logs that compare alike have the same index numbers, strips and answers
    pub alike_index : (s : State K) (t : State L) → Reached colder seats s → Reached other places_of t → Alike s t → SameIndex s t
    pub alike_strips : (s : State K) (t : State L) → Reached colder seats s → Reached other places_of t → Alike s t → strip_of colder s ≡ strip_of other t
    pub alike_answers : (s : State K) (t : State L) → Reached colder seats s → Reached other places_of t → Alike s t → SameAnswers s t

module _ {K : Type 0} (colder : K → K → Bool) (seats : ℕ → ℕ → ℕ → ℕ) where
  pub record OneLog : Type 0 where
    -- the numbers that full blocks carry are below 1,430
    pub bounded : (s : State K) → Reached colder seats s → (b : ℕ) → 8 * b + 8 ≤ s.count → slice_index s.shapes b < 1430
    -- and each of those is carried by a full block of some log, where the kind has eight readings that never tie
    pub carried : (xs : List K) → length xs ≡ 8 → NeverTie colder xs → (t : ℕ) → t < 1430
        → (s : State K) × Reached colder seats s × (b : ℕ) × (8 * b + 8 ≤ s.count) × (slice_index s.shapes b ≡ t)
    -- the index numbers in use are the ones defined for the readings
    pub sound : (s : State K) → Reached colder seats s → Sound colder s
    -- the coldest places are the first coldest ones
    pub first_coldest : (s : State K) → Reached colder seats s → (l r : ℕ) → l ≤ r → r < s.count → (p : ℕ) × (coldest colder seats s l r ≡ Ok p) × FirstColdest (places colder (log_of s)) l r p
    -- the strip that strip writing puts into memory long enough for it is the one defined for the readings
    pub strip_right : (s : State K) → Reached colder seats s → (output : List ℕ) → length (strip_of colder s) ≤ length output
        → strip_written colder s output ≡ (Ok (length (strip_of colder s)), strip_of colder s ++ drop (length (strip_of colder s)) output)
