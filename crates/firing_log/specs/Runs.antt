-- Whole runs of calls on a log, and what holds of a log that only its own calls have changed.
-- Assumes nothing.
use Rattle.std.specs.Prelude.{◌≡◌, ℕ, ◌+◌, ◌-◌, ◌*◌, ◌^◌, ◌<◌, ◌≤◌, Bool, true, List, Some, None, Ok, Err, Option, Result, ◌≢◌, slice_index}
use Rattle.reading.specs.Coldest.{FirstColdest, places}
use Rattle.paths.specs.Number.{shape}
use Rattle.firing_log.specs.State.{State, log_of, block, short}
use Rattle.firing_log.specs.Steps.{opened, appended, cut, coldest, entry_at}
use Rattle.firing_log.specs.Strip.{strip_written}
use Rattle.firing_log.specs.declared.fault.LogFault.{LogFault}
use Rattle.firing_log.specs.declared.fault.LogFault.TheVariants.{Index}

-- the index numbers in use are the ones defined for the log's readings: each begun block carries its shape number,
-- and entry j of each full block names the first coldest place of the 2 ^ j blocks that end with it
pub record Sound {K : Type 0} (colder : K → K → Bool) (s : State K) : Type 0 where
  pub shapes_right : (b : ℕ) → 8 * b < s.count → slice_index s.shapes b ≡ shape colder (block b (log_of s))
  pub entries_right : (b j : ℕ) → 8 * b + 8 ≤ s.count → 2 ^ j ≤ b + 1
      → FirstColdest (places colder (log_of s)) (8 * (b + 1 - 2 ^ j)) (8 * b + 7) (slice_index s.entries (entry_at b j))

-- a call on a log, with what it is given
pub data Call (K : Type 0) : Type 0 where
  append_of : K → Call K
  cut_to : ℕ → Call K
  coldest_over : ℕ → ℕ → Call K
  -- strip writing into output memory of its own, as it is handed in
  strip_into : List ℕ → Call K

-- what stands where a call refuses
abbrev pub refusal : {X : Type 0} → Result X LogFault → Option LogFault
refusal (Ok x) = None
refusal (Err e) = Some e

module _ {K : Type 0} (colder : K → K → Bool) (seats : ℕ → ℕ → ℕ → ℕ) where
  -- the state that a call leaves
  abbrev pub after : State K → Call K → State K
  after s (append_of x) = (appended colder seats s x).1
  after s (cut_to n) = (cut colder s n).1
  after s (coldest_over l r) = s
  after s (strip_into output) = s

  -- how a call refuses, if it does
  abbrev pub refused_by : State K → Call K → Option LogFault
  refused_by s (append_of x) = refusal (appended colder seats s x).0
  refused_by s (cut_to n) = refusal (cut colder s n).0
  refused_by s (coldest_over l r) = refusal (coldest colder seats s l r)
  refused_by s (strip_into output) = refusal (strip_written colder s output).0

  -- a log's sheet with other memory
  abbrev pub handed : State K → State K → State K
  handed s other = record { capacity = s.capacity; count = s.count; readings = other.readings; shapes = other.shapes; entries = other.entries }

  -- the states of logs that nothing but their own calls has changed: a log is new when open has just succeeded, whatever its memory then holds;
  -- each call takes the log's sheet and its memory, or its sheet and other memory that is too short
  pub data Reached : State K → Type 0 where
    new : (capacity : ℕ) (readings : List K) (shapes entries : List ℕ) (s : State K) → opened capacity readings shapes entries ≡ Ok s → Reached s
    called : (s : State K) (call : Call K) → Reached s → Reached (after s call)
    called_short : (s other : State K) (call : Call K) → Reached s → short (handed s other) ≡ true → Reached (handed (after (handed s other) call) s)

  -- every log that is reached is sound, no call on it finds its index numbers wrong, and every coldest question within the count
  -- is answered with the first coldest place: the leftmost range minimum
  pub record RunsRight : Type 0 where
    pub sound : (s : State K) → Reached s → Sound colder s
    pub no_index_fault : (s : State K) → Reached s → (call : Call K) → refused_by s call ≢ Some Index
    pub first_coldest : (s : State K) → Reached s → (l r : ℕ) → l ≤ r → r < s.count
        → (p : ℕ) × (coldest colder seats s l r ≡ Ok p) × FirstColdest (places colder (log_of s)) l r p
