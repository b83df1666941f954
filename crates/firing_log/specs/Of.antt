-- A sheet and memory, as the state that the definitions speak of, and how the calls' answers are to be read.
-- Assumes nothing.
use Rattle.std.specs.Prelude.{◌≡◌, ℕ, suc, ◌+◌, ◌*◌, ◌/◌, ◌<◌, ◌≤◌, Bool, true, false, List, length, take, Some, None, Ok, Err, Option, Result, slice_set}
use Rattle.std.specs.List.{slice_get}
use Rattle.firing_log.specs.State.{State, short}
use Rattle.firing_log.specs.Steps.{entry_at, grown, level, written}
use Rattle.firing_log.specs.declared.fault.LogFault.{LogFault}
use Rattle.firing_log.specs.declared.fault.LogFault.TheVariants.{Index, ShortMemory}
use Rattle.firing_log.specs.declared.backed.Backed.{Backed}
use Rattle.firing_log.specs.declared.candidate.Candidate.{Candidate}
use Rattle.firing_log.specs.declared.row.Growth.{Growth}
use Rattle.firing_log.specs.declared.sheet.Sheet.{Sheet}
use Rattle.firing_log.specs.declared.memory.Memory.{Memory}

abbrev pub state_of : {K : Type 0} → Sheet → Memory K → State K
state_of sheet memory = record {
  capacity = sheet.capacity;
  count = sheet.count;
  readings = memory.readings.now;
  shapes = memory.shapes.now;
  entries = memory.entries.now;
}

-- a sheet that was opened, beside its memory
abbrev pub with_memory : {K : Type 0} → Memory K → Result Sheet LogFault → Result (State K) LogFault
with_memory memory (Ok sheet) = Ok (state_of sheet memory)
with_memory memory (Err fault) = Err fault

abbrev pub state_behind : {K : Type 0} → Backed K → State K
state_behind log = record {
  capacity = log.sheet.now.capacity;
  count = log.sheet.now.count;
  readings = log.readings.now;
  shapes = log.shapes.now;
  entries = log.entries.now;
}

-- the sheet and the memory together, or the refusal of memory that is too short
abbrev pub BacksOrShort : {K : Type 0} → Sheet → Memory K → Result (Backed K) LogFault → Type 0
BacksOrShort sheet memory (Ok log) = (state_behind log ≡ state_of sheet memory) × (short (state_of sheet memory) ≡ false)
BacksOrShort sheet memory (Err fault) = (fault ≡ ShortMemory) × (short (state_of sheet memory) ≡ true)

-- the slices are the ones that were handed in
pub record SameSlices {K : Type 0} (before after : Memory K) : Type 0 where
  pub readings : after.readings.ghost_name ≡ before.readings.ghost_name
  pub shapes : after.shapes.ghost_name ≡ before.shapes.ghost_name
  pub entries : after.entries.ghost_name ≡ before.entries.ghost_name

-- a place together with the reading there
abbrev pub Holds : {K : Type 0} → List K → ℕ × K → Type 0
Holds readings found = slice_get readings found.0 ≡ Some found.1

-- the answer is the place that the definition gives, together with the reading there, or its refusal
abbrev pub Found : {K : Type 0} → List K → Result ℕ LogFault → Result (ℕ × K) LogFault → Type 0
Found readings (Ok place) (Ok found) = (found.0 ≡ place) × Holds readings found
Found readings (Ok place) (Err fault) = ⊥
Found readings (Err fault) (Ok found) = ⊥
Found readings (Err fault) (Err given) = given ≡ fault

-- a candidate's reading is the one at its place
abbrev pub Stands : {K : Type 0} → List K → Candidate K → Type 0
Stands readings candidate = Holds readings (candidate.place, candidate.reading)

-- a candidate as a place together with a reading
abbrev pub pair_of : {K : Type 0} → Result (Candidate K) LogFault → Result (ℕ × K) LogFault
pair_of (Ok candidate) = Ok (candidate.place, candidate.reading)
pair_of (Err fault) = Err fault

-- the candidate is the place that the definition gives, together with the reading there, or its refusal
abbrev pub Chosen : {K : Type 0} → List K → Result ℕ LogFault → Result (Candidate K) LogFault → Type 0
Chosen readings answer given = Found readings answer (pair_of given)

-- two lists of readings are the same below place n
abbrev pub SameBelow : {K : Type 0} → ℕ → List K → List K → Type 0
SameBelow n xs ys = (i : ℕ) → i < n → slice_get ys i ≡ slice_get xs i

-- the row of block b, from its levels' entries in front
abbrev pub row_in : ℕ → List ℕ → List ℕ
row_in b entries = take (suc (level (b + 1))) entries

-- a row of entries of block b as the definition gives it, or the refusal
abbrev pub Rowed : ℕ → Option (List ℕ) → Result (List ℕ) LogFault → Type 0
Rowed b (Some es) (Ok row) = row_in b row ≡ es
Rowed b (Some es) (Err fault) = ⊥
Rowed b None (Ok row) = ⊥
Rowed b None (Err fault) = fault ≡ Index

-- the entries with a block's row written, if there is one
abbrev pub entries_with : List ℕ → ℕ → Option (List ℕ) → List ℕ
entries_with entries b None = entries
entries_with entries b (Some row) = written entries (entry_at b 0) (row_in b row)

-- memory that is long enough has room for a reading more
pub record HasRoom {K : Type 0} (s : State K) : Type 0 where
  pub below : s.count < s.capacity
  pub few : s.capacity ≤ 32768
  pub readings : s.count < length s.readings
  pub shapes : s.count / 8 < length s.shapes
  pub entries : 13 * (s.count / 8) + 13 ≤ length s.entries

-- what an append writes, by what it is to answer and leave, or its refusal
abbrev pub Grows : {K : Type 0} → Result ℕ LogFault × State K → (K → K → Bool) → State K → K → Result Growth LogFault → Type 0
Grows due colder s x (Ok growth) = due ≡ (Ok (s.count + 1), grown colder s x growth.number (entries_with s.entries (s.count / 8) growth.row))
Grows due colder s x (Err fault) = due ≡ (Err fault, s)

-- the numbers with a block's written, if there is one
abbrev pub shapes_with : List ℕ → ℕ → Option ℕ → List ℕ
shapes_with shapes b None = shapes
shapes_with shapes b (Some number) = slice_set shapes b number

-- the number that a cut to n readings writes, if it writes one, by what it is to answer and leave, or its refusal
abbrev pub Cuts : {K : Type 0} → Result ℕ LogFault × State K → State K → ℕ → Result (Option ℕ) LogFault → Type 0
Cuts due s n (Ok number) = due ≡ (Ok n, record { capacity = s.capacity; count = n; readings = s.readings; shapes = shapes_with s.shapes (n / 8) number; entries = s.entries })
Cuts due s n (Err fault) = due ≡ (Err fault, s)
