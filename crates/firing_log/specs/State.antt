-- A log's state: what its sheet keeps, and the memory that is handed to each call.
-- Assumes nothing.
use Rattle.std.specs.Prelude.{ℕ, ◌+◌, ◌*◌, ◌/◌, Bool, ◌||◌, List, length, take, drop, nat_lt}

pub record State (K : Type 0) : Type 0 where
  pub capacity : ℕ
  pub count : ℕ
  pub readings : List K
  pub shapes : List ℕ
  pub entries : List ℕ

-- how many blocks of eight places a capacity begins
abbrev pub blocks : ℕ → ℕ
blocks capacity = (capacity + 7) / 8

-- memory is too short: one reading for each place of the capacity, one shape number and thirteen entries for each of its blocks
abbrev pub too_short : {K : Type 0} → ℕ → List K → List ℕ → List ℕ → Bool
too_short capacity readings shapes entries =
    nat_lt (length readings) capacity || (nat_lt (length shapes) (blocks capacity) || nat_lt (length entries) (13 * blocks capacity))

abbrev pub short : {K : Type 0} → State K → Bool
short s = too_short s.capacity s.readings s.shapes s.entries

-- what a log means: the list of its readings
abbrev pub log_of : {K : Type 0} → State K → List K
log_of s = take s.count s.readings

-- the readings of block b: places 8 × b to 8 × b + 7, as far as they are there
abbrev pub block : {K : Type 0} → ℕ → List K → List K
block b readings = take 8 (drop (8 * b) readings)
