-- What the calls on strips and on a caller's mask table answer and leave.
-- Assumes nothing.
use Rattle.std.specs.Prelude.{◌≡◌, ℕ, List, Ok, Err, Result}
use Rattle.std.specs.Result.{result_map_both}
use Rattle.reading.specs.declared.tenths.Tenths.{Tenths}
use Rattle.paths.specs.Cell.{seat}
use Rattle.shape.specs.Masks as masks
use Rattle.shape.specs.Outcomes.{table_code}
use Rattle.shape.specs.declared.fault.TableFault.{TableFault}
use Rattle.shape.specs.declared.fault.TableFault.TheVariants.{WrongLength, WrongCell}
use Rattle.firing_log.specs.State.{State}
use Rattle.strip.specs.Bits.{count_of}
use Rattle.strip.specs.Outcomes.{opening_answer, strip_code}
use Rattle.strip.specs.Questions.{question_code, Asked}
use Rattle.strip.specs.Replay.{replay_code, replay_readings, replay_start, appended_all}
use Rattle.strip.specs.declared.fault.QuestionFault.{QuestionFault}
use Rattle.strip.specs.declared.fault.StripFault.{StripFault}
use Rattle.strip.specs.declared.replays.ReplayFault.{ReplayFault}
use Rattle.deck.specs.Answers.{numbered, status, stored}

-- the count of a strip that is opened
abbrev pub strip_opened : List ℕ → Result ℕ ℕ
strip_opened bytes = result_map_both (λ _. count_of bytes) strip_code (opening_answer bytes)

-- an answer of an opened strip, as the call returns it and stores its place
pub record StripAnswer (bytes : List ℕ) (l r place code place_after : ℕ) (answer : Result ℕ QuestionFault) : Type 0 where
  pub asked : Asked bytes l r answer
  pub code_is : code ≡ status (numbered question_code answer)
  pub place_is : place_after ≡ stored (numbered question_code answer) place

-- a question: bytes that are no strip are refused, and a strip answers
abbrev pub StripAsked : List ℕ → ℕ → ℕ → ℕ → ℕ → ℕ → Result (Unit {0}) StripFault → Type 0
StripAsked bytes l r place code place_after (Ok _) = (answer : Result ℕ QuestionFault) × StripAnswer bytes l r place code place_after answer
StripAsked bytes l r place code place_after (Err fault) = (code ≡ strip_code fault) × (place_after ≡ place)

-- what replay returns and leaves: the log with the strip's readings appended, or what was there before
abbrev pub replay_done : List ℕ → State Tenths → Result (State Tenths) ReplayFault → ℕ × State Tenths
replay_done bytes before (Ok s) = (0, appended_all seat s (replay_readings bytes))
replay_done bytes before (Err fault) = (replay_code fault, before)

abbrev pub deck_replayed : List ℕ → ℕ → State Tenths → ℕ × State Tenths
deck_replayed bytes capacity before = replay_done bytes before (replay_start bytes capacity before.readings before.shapes before.entries)

-- ---- the caller's mask table

-- what filling returns and leaves
abbrev pub masks_filled : List ℕ → ℕ × List ℕ
masks_filled cells = (status (numbered table_code (masks.filling_answer cells)), masks.filled cells)

-- what opening returns, and leaves in the places for a wrong cell's number and end: these are told with 15 alone
abbrev pub table_opened : ℕ → ℕ → Result (Unit {0}) TableFault → ℕ × ℕ × ℕ
table_opened number end (Ok _) = (0, number, end)
table_opened number end (Err WrongLength) = (table_code WrongLength, number, end)
table_opened number end (Err (WrongCell n e)) = (table_code (WrongCell n e), n, e)

abbrev pub masks_opened : List ℕ → ℕ → ℕ → ℕ × ℕ × ℕ
masks_opened cells number end = table_opened number end (masks.opening_answer cells)
