-- What the calls on a log answer and leave, from a sheet that may be any two numbers and memory that anybody may have written.
-- A sheet that no call gives is refused first, and then each call does what is defined for the log.
-- Assumes nothing.
use Rattle.std.specs.Prelude.{◌≡◌, ℕ, Bool, cond, List, Err, Result}
use Rattle.std.specs.Result.{result_map_both}
use Rattle.paths.specs.Cell.{seat}
use Rattle.firing_log.specs.Resume.{never_given}
use Rattle.firing_log.specs.State.{State}
use Rattle.firing_log.specs.Steps.{log_code, opened, appended, cut, coldest}
use Rattle.firing_log.specs.Strip.{strip_written}
use Rattle.firing_log.specs.declared.fault.LogFault.{LogFault}
use Rattle.deck.specs.Answers.{numbered, status, stored, ReadingStored}
use Rattle.deck.specs.Faults.{deck_code}
use Rattle.deck.specs.declared.fault.DeckFault.TheVariants.{NoSheet}
use Rattle.deck.specs.declared.sheet.DeckSheet.{DeckSheet}

-- the log of a sheet and three slices
abbrev pub log_in : {K : Type 0} → DeckSheet → List K → List ℕ → List ℕ → State K
log_in sheet readings shapes entries = record {
  capacity = sheet.capacity;
  count = sheet.count;
  readings = readings;
  shapes = shapes;
  entries = entries;
}

-- memory that a call leaves as it was
pub record SameMemory {K : Type 0} (readings : List K) (shapes entries : List ℕ) (readings_after : List K) (shapes_after entries_after : List ℕ) : Type 0 where
  pub readings_same : readings_after ≡ readings
  pub shapes_same : shapes_after ≡ shapes
  pub entries_same : entries_after ≡ entries

-- the two numbers that a log's sheet keeps
abbrev pub sheet_in : {K : Type 0} → State K → DeckSheet
sheet_in s = record { capacity = s.capacity; count = s.count }

-- a sheet to keep, for a new log
abbrev pub deck_opened : {K : Type 0} → ℕ → List K → List ℕ → List ℕ → Result DeckSheet ℕ
deck_opened capacity readings shapes entries = result_map_both sheet_in log_code (opened capacity readings shapes entries)

-- no call gives the sheet of this log
abbrev pub no_sheet : {K : Type 0} → State K → Bool
no_sheet s = never_given s.capacity s.count

-- an answer, unless no call gives such a sheet
abbrev pub if_given : {K X : Type 0} → State K → Result X ℕ → Result X ℕ
if_given s answer = cond (no_sheet s) (Err (deck_code NoSheet)) answer

-- what a call that changes the log returns and leaves
abbrev pub changed : {K : Type 0} → State K → Result ℕ LogFault × State K → ℕ × State K
changed s done = cond (no_sheet s) (deck_code NoSheet, s) (status (numbered log_code done.0), done.1)

module _ {K : Type 0} (colder : K → K → Bool) where
  abbrev pub deck_appended : State K → K → ℕ × State K
  deck_appended s x = changed s (appended colder seat s x)

  abbrev pub deck_cut : State K → ℕ → ℕ × State K
  deck_cut s n = changed s (cut colder s n)

  -- the first coldest place
  abbrev pub deck_coldest : State K → ℕ → ℕ → Result ℕ ℕ
  deck_coldest s l r = if_given s (numbered log_code (coldest colder seat s l r))

  -- what a question returns, and stores in the two places for its answer
  pub record Asked (s : State K) (l r place : ℕ) (reading : K) (code place_after : ℕ) (reading_after : K) : Type 0 where
    pub code_is : code ≡ status (deck_coldest s l r)
    pub place_is : place_after ≡ stored (deck_coldest s l r) place
    pub reading_is : ReadingStored s.readings (deck_coldest s l r) reading reading_after

  -- the strip's length, and the output
  abbrev pub deck_strip : State K → List ℕ → Result ℕ ℕ × List ℕ
  deck_strip s output =
      let done = strip_written colder s output in
      cond (no_sheet s) (Err (deck_code NoSheet), output) (numbered log_code done.0, done.1)

  -- what strip writing returns, and leaves in the output and in the place for the length
  pub record Stripped (s : State K) (output : List ℕ) (len code : ℕ) (output_after : List ℕ) (len_after : ℕ) : Type 0 where
    pub code_is : code ≡ status (deck_strip s output).0
    pub output_is : output_after ≡ (deck_strip s output).1
    pub length_is : len_after ≡ stored (deck_strip s output).0 len
