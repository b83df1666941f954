-- What each call on a log answers and leaves, from the sheet and the memory as they are handed in, whoever wrote that memory.
-- A refusal leaves everything as it was.
-- Assumes nothing.
use Rattle.std.specs.Prelude.{ℕ, zero, suc, ◌+◌, ◌-◌, ◌*◌, ◌/◌, ◌%◌, ◌^◌, Bool, cond, ◌&&◌, ◌||◌, List, [], ◌∷◌, take, Some, None, Ok, Err, Option, Result, ◌==◌, nat_le, nat_lt, slice_index, slice_index_or, slice_set}
use Rattle.reading.specs.Coldest.{places}
use Rattle.paths.specs.Number.{shape}
use Rattle.firing_log.specs.State.{State, too_short, short, block}
use Rattle.firing_log.specs.declared.fault.LogFault.{LogFault}
use Rattle.firing_log.specs.declared.fault.LogFault.TheVariants.{Capacity, ShortMemory, Full, CutLength, Backwards, Beyond, Index, ShortOutput}

-- the number of a refusal
abbrev pub log_code : LogFault → ℕ
log_code Capacity = 1
log_code ShortMemory = 2
log_code Full = 3
log_code CutLength = 4
log_code Backwards = 5
log_code Beyond = 6
log_code Index = 11
log_code ShortOutput = 17

-- ---- open

-- a sheet of this capacity, and nothing written
abbrev pub opened : {K : Type 0} → ℕ → List K → List ℕ → List ℕ → Result (State K) LogFault
opened capacity readings shapes entries =
    cond (capacity == 0 || nat_lt 32768 capacity) (Err Capacity)
    (cond (too_short capacity readings shapes entries) (Err ShortMemory)
    (Ok (record { capacity = capacity; count = 0; readings = readings; shapes = shapes; entries = entries })))

-- ---- the sparse table over full blocks

-- the largest j up to k with 2 ^ j ≤ m, or 0
abbrev pub level_up_to : ℕ → ℕ → ℕ
level_up_to zero m = 0
level_up_to (suc k) m = cond (nat_le (2 ^ suc k) m) (suc k) (level_up_to k m)

-- the largest j with 2 ^ j ≤ m, for m from 1 to 4,096
unfoldable pub level : ℕ → ℕ
level m = level_up_to 12 m

-- entry j of block b, which covers the blocks b + 1 - 2 ^ j to b
abbrev pub entry_at : ℕ → ℕ → ℕ
entry_at b j = 13 * b + j

-- a place lies in the blocks from low up to, and not in, high
abbrev pub in_blocks : ℕ → ℕ → ℕ → Bool
in_blocks low high p = nat_le (8 * low) p && nat_lt p (8 * high)

-- the left place stays unless the right one is colder
abbrev pub join : (ℕ → ℕ → Bool) → ℕ → ℕ → ℕ
join o a b = cond (o b a) b a

abbrev pub more_entries : ℕ → Option (List ℕ) → Option (List ℕ)
more_entries e None = None
more_entries e (Some rest) = Some (e ∷ rest)

-- the entries of block b from level j on, n of them, where p is its entry j - 1: each joins an entry that is read with the one before;
-- none where an entry that is read names a place outside its blocks
abbrev pub joined : (ℕ → ℕ → Bool) → List ℕ → ℕ → ℕ → ℕ → ℕ → Option (List ℕ)
joined o entries b zero j p = Some []
joined o entries b (suc n) j p =
    let left = slice_index_or entries (entry_at (b - 2 ^ (j - 1)) (j - 1)) 0 in
    let e = join o left p in
    cond (in_blocks (b + 1 - 2 ^ j) (b + 1 - 2 ^ (j - 1)) left) (more_entries e (joined o entries b n (suc j) e)) None

-- all entries of block b, where p is its first coldest place
abbrev pub entries_of : (ℕ → ℕ → Bool) → List ℕ → ℕ → ℕ → Option (List ℕ)
entries_of o entries b p = more_entries p (joined o entries b (level (b + 1)) 1 p)

-- xs with ys written from place i on
abbrev pub written : List ℕ → ℕ → List ℕ → List ℕ
written xs i [] = xs
written xs i (y ∷ ys) = written (slice_set xs i y) (suc i) ys

-- ---- append

module _ {K : Type 0} (colder : K → K → Bool) where
  -- the number of the block that the last of the first n readings stands in
  abbrev pub last_shape : List K → ℕ → ℕ
  last_shape readings n = shape colder (block ((n - 1) / 8) (take n readings))

  -- what is left where a reading is put at the count, its block's number is t, and the entries are es
  abbrev pub grown : State K → K → ℕ → List ℕ → State K
  grown s x t entries = record {
    capacity = s.capacity;
    count = s.count + 1;
    readings = slice_set s.readings s.count x;
    shapes = slice_set s.shapes (s.count / 8) t;
    entries = entries;
  }

  -- a block that is full now: its entries are worked out before anything is written
  abbrev pub filled : State K → K → ℕ → Option (List ℕ) → Result ℕ LogFault × State K
  filled s x t None = (Err Index, s)
  filled s x t (Some es) = (Ok (s.count + 1), grown s x t (written s.entries (entry_at (s.count / 8) 0) es))

  abbrev pub put : (ℕ → ℕ → ℕ → ℕ) → State K → K → ℕ → Result ℕ LogFault × State K
  put seats s x t =
      cond (s.count % 8 == 7)
      (filled s x t (entries_of (places colder (slice_set s.readings s.count x)) s.entries (s.count / 8) (8 * (s.count / 8) + seats t 0 7)))
      (Ok (s.count + 1), grown s x t s.entries)

  abbrev pub appended : (ℕ → ℕ → ℕ → ℕ) → State K → K → Result ℕ LogFault × State K
  appended seats s x =
      cond (short s) (Err ShortMemory, s)
      (cond (s.count == s.capacity) (Err Full, s)
      (put seats s x (last_shape (slice_set s.readings s.count x) (s.count + 1))))

  -- ---- cut

  -- where n is no multiple of eight, the number of the last block is written for the readings that remain
  abbrev pub renumbered : List K → List ℕ → ℕ → List ℕ
  renumbered readings shapes n = cond (n % 8 == 0) shapes (slice_set shapes (n / 8) (last_shape readings n))

  -- the first n readings are kept
  abbrev pub kept : State K → ℕ → State K
  kept s n = record {
    capacity = s.capacity;
    count = n;
    readings = s.readings;
    shapes = renumbered s.readings s.shapes n;
    entries = s.entries;
  }

  abbrev pub cut : State K → ℕ → Result ℕ LogFault × State K
  cut s n = cond (short s) (Err ShortMemory, s) (cond (nat_lt s.count n) (Err CutLength, s) (Ok n, kept s n))

  -- ---- coldest

  -- from a place p of block b over the whole blocks between, by two entries of level j that cover them, to a place q of block c
  abbrev pub across : State K → ℕ → ℕ → ℕ → ℕ → ℕ → Result ℕ LogFault
  across s b c j p q =
      let o = places colder s.readings in
      let left = slice_index_or s.entries (entry_at (b + 2 ^ j) j) 0 in
      let right = slice_index_or s.entries (entry_at (c - 1) j) 0 in
      cond (in_blocks (b + 1) (b + 1 + 2 ^ j) left) (cond (in_blocks (c - 2 ^ j) c right) (Ok (join o (join o (join o p left) right) q)) (Err Index)) (Err Index)

  -- the candidates are taken left to right, and a later one wins only if it is colder
  abbrev pub between : State K → ℕ → ℕ → ℕ → ℕ → Result ℕ LogFault
  between s b c p q = cond (c - b == 1) (Ok (join (places colder s.readings) p q)) (across s b c (level (c - b - 1)) p q)

  -- the answerer's place in block b, from its own place i to j
  abbrev pub in_block : (ℕ → ℕ → ℕ → ℕ) → State K → ℕ → ℕ → ℕ → ℕ
  in_block seats s b i j = 8 * b + seats (slice_index s.shapes b) i j

  -- block b has a number that a block can carry
  abbrev pub numbered : State K → ℕ → Bool
  numbered s b = nat_lt (slice_index s.shapes b) 1430

  abbrev pub searched : (ℕ → ℕ → ℕ → ℕ) → State K → ℕ → ℕ → Result ℕ LogFault
  searched seats s l r =
      cond (l / 8 == r / 8)
      (cond (numbered s (l / 8)) (Ok (in_block seats s (l / 8) (l % 8) (r % 8))) (Err Index))
      (cond (numbered s (l / 8))
      (cond (numbered s (r / 8)) (between s (l / 8) (r / 8) (in_block seats s (l / 8) (l % 8) 7) (in_block seats s (r / 8) 0 (r % 8))) (Err Index))
      (Err Index))

  abbrev pub coldest : (ℕ → ℕ → ℕ → ℕ) → State K → ℕ → ℕ → Result ℕ LogFault
  coldest seats s l r =
      cond (short s) (Err ShortMemory) (cond (nat_lt r l) (Err Backwards) (cond (nat_le s.count r) (Err Beyond) (searched seats s l r)))
