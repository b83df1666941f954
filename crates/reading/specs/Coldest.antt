-- Places in a list of readings, counted from 0, and the first coldest place of a range.
-- Everything that is asked of a log depends on its readings only through `places`.
-- Assumes nothing.
use Rattle.std.specs.Prelude.{◌≡◌, ℕ, ◌≤◌, Bool, true, false, List, Some, None, Option}
use Rattle.std.specs.List.{slice_get}

-- colder, where a reading may be missing: what is missing is warmer than each reading
abbrev pub colder_or_missing : {K : Type 0} → (K → K → Bool) → Option K → Option K → Bool
colder_or_missing colder None None = false
colder_or_missing colder None (Some b) = false
colder_or_missing colder (Some a) None = true
colder_or_missing colder (Some a) (Some b) = colder a b

-- the reading at place i is colder than the one at place j
abbrev pub places : {K : Type 0} → (K → K → Bool) → List K → ℕ → ℕ → Bool
places colder xs i j = colder_or_missing colder (slice_get xs i) (slice_get xs j)

-- no reading from l to r is colder than the one at p
abbrev pub NoneColder : (ℕ → ℕ → Bool) → ℕ → ℕ → ℕ → Type 0
NoneColder o l r p = (q : ℕ) → l ≤ q → q ≤ r → o q p ≡ false

-- p is the first coldest place of l to r, both ends included: the lowest place there such that no reading of the range is colder than the one there
pub record FirstColdest (o : ℕ → ℕ → Bool) (l r p : ℕ) : Type 0 where
  pub from : l ≤ p
  pub to : p ≤ r
  pub coldest : NoneColder o l r p
  pub lowest : (q : ℕ) → l ≤ q → q ≤ r → NoneColder o l r q → p ≤ q
