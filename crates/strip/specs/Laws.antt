-- Strips and logs correspond: what is written is accepted and answers as its log does, and what is accepted is the strip of a log.
-- Assumes nothing.
use Rattle.std.specs.Prelude.{◌≡◌, ℕ, ◌<◌, ◌≤◌, Bool, ◌↔◌, List, Ok, slice_index}
use Rattle.reading.specs.declared.tenths.Tenths.{Tenths}
use Rattle.firing_log.specs.Laws.{SameAnswers}
use Rattle.firing_log.specs.Runs.{Reached}
use Rattle.firing_log.specs.State.{State}
use Rattle.firing_log.specs.Steps.{coldest, opened}
use Rattle.firing_log.specs.Strip.{strip_of}
use Rattle.strip.specs.Bits.{count_of, depth_of, IsStrip, LastLeast}
use Rattle.reading.specs.Tenths.{tenths_colder}
use Rattle.strip.specs.Replay.{replay_readings, appended_all}

-- every question within the count gets the same place from the strip as from the log
abbrev pub StripAnswers : {K : Type 0} → (K → K → Bool) → (ℕ → ℕ → ℕ → ℕ) → List ℕ → State K → Type 0
StripAnswers colder seats bytes s =
    (l r : ℕ) → l ≤ r → r < s.count → (p : ℕ) × LastLeast (depth_of bytes) l r p × (coldest colder seats s l r ≡ Ok p)

-- whatever strip writing writes is accepted, and answers as the log does
pub record WrittenStrips {K : Type 0} (colder : K → K → Bool) (seats : ℕ → ℕ → ℕ → ℕ) : Type 0 where
  pub accepted : (s : State K) → Reached colder seats s → IsStrip (strip_of colder s)
  pub answers : (s : State K) → Reached colder seats s → StripAnswers colder seats (strip_of colder s) s

-- a log of tenths that has the strip, byte for byte, and answers as it does
pub record ReadBack (seats : ℕ → ℕ → ℕ → ℕ) (bytes : List ℕ) (s : State Tenths) : Type 0 where
  pub reached : Reached tenths_colder seats s
  pub same_strip : strip_of tenths_colder s ≡ bytes
  pub answers : StripAnswers tenths_colder seats bytes s

-- what replay makes of an accepted strip, in a new log that has room for it
abbrev pub ReplaysBack : (ℕ → ℕ → ℕ → ℕ) → Type 0
ReplaysBack seats =
    (bytes : List ℕ) → ((i : ℕ) → slice_index bytes i < 256) → IsStrip bytes → (capacity : ℕ) (readings : List Tenths) (shapes entries : List ℕ) (s : State Tenths)
    → opened capacity readings shapes entries ≡ Ok s → count_of bytes ≤ capacity → ReadBack seats bytes (appended_all seats s (replay_readings bytes))

-- accepted strips of n readings and shapes of logs of n readings correspond one to one; the shape of a log is what it answers to all questions within its count
pub record IsOneToOne {K L : Type 0} (colder : K → K → Bool) (seats : ℕ → ℕ → ℕ → ℕ) (other : L → L → Bool) (places_of : ℕ → ℕ → ℕ → ℕ) : Type 0 where
  -- a log has one strip, which is accepted and of the log's count
  pub has_one : (s : State K) → Reached colder seats s → IsStrip (strip_of colder s) × (count_of (strip_of colder s) ≡ s.count)
  -- logs of equal counts have the same strip exactly when they have the same shape
  pub same_shape : (s : State K) (t : State L) → Reached colder seats s → Reached other places_of t → s.count ≡ t.count
      → (strip_of colder s ≡ strip_of other t) ↔ SameAnswers colder seats other places_of s t
  -- each accepted strip is that of a log
  pub onto : (bytes : List ℕ) → ((i : ℕ) → slice_index bytes i < 256) → IsStrip bytes
      → (s : State Tenths) × Reached tenths_colder seats s × (s.count ≡ count_of bytes) × (strip_of tenths_colder s ≡ bytes)
