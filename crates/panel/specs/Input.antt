-- What the bench does with its input: which bytes end a line, and what comes of the line.
-- Assumes nothing.
use Rattle.std.specs.Prelude.{◌≡◌, ℕ, ◌<◌, Bool, true, false, ◌≢◌, List, [], ◌∷◌, ◌++◌, length, Some, None, Option, Result, nat_lt}
use Rattle.console.specs.Grammar.{Answers}
use Rattle.console.specs.Reading.{state_of, HasRead}
use Rattle.console.specs.States.{next, begun, answer}
use Rattle.console.specs.declared.command.Command.{Command}
use Rattle.console.specs.declared.command.Malformed.{Malformed}
use Rattle.panel.specs.Firing.{Firing, KeepsFiring, Right}
use Rattle.panel.specs.Logs.{Logs}
use Rattle.panel.specs.Of.{logs_of}
use Rattle.panel.specs.Replies.{Reply, answered}
use Rattle.panel.specs.declared.bench.Bench.{Bench}

abbrev pub bench_logs : Bench → Logs
bench_logs bench = logs_of bench.panel

-- ---- by the logs and the reader's state

-- the line is answered, and the next one begins
pub record AnswersLine (before : Bench) (reply : Reply) (after : Bench) : Type 0 where
  pub reply_is : (answered (bench_logs before) (answer (state_of before.line))).0 ≡ Some reply
  pub logs : bench_logs after ≡ (answered (bench_logs before) (answer (state_of before.line))).1
  pub reads : (bs : List ℕ) → HasRead before.line bs → Answers bs (answer (state_of before.line))
  pub line : HasRead after.line []

-- one byte more: byte 10 ends the line, and any other is a byte of it
abbrev pub Takes : Bench → ℕ → Option Reply → Bench → Type 0
Takes before byte (Some reply) after = (byte ≡ 10) × AnswersLine before reply after
Takes before byte None after = (byte ≢ 10) × (bench_logs after ≡ bench_logs before) × (state_of after.line ≡ next (state_of before.line) byte)

-- the line has a byte, or it has none
abbrev pub HasBytes : Bench → Bool → Type 0
HasBytes bench some = (begun (state_of bench.line) ≡ some) × ((bs : List ℕ) → HasRead bench.line bs → nat_lt 0 (length bs) ≡ some)

-- the end of the input ends a line that has a byte
abbrev pub Ends : Bench → Option Reply → Bench → Type 0
Ends before (Some reply) after = HasBytes before true × AnswersLine before reply after
Ends before None after = HasBytes before false × (after ≡ before)

-- ---- by the firing and the bytes of the line so far

-- the bench keeps a firing, and has read the bytes bs of a line
pub record Stands (capacity : ℕ) (bench : Bench) (f : Firing) (bs : List ℕ) : Type 0 where
  pub keeps : KeepsFiring capacity (bench_logs bench) f
  pub read : HasRead bench.line bs

-- the line bs gets the right reply, and the bench keeps the firing after it
abbrev pub LineAnswered : ℕ → Firing → List ℕ → Reply → Bench → Type 0
LineAnswered capacity f bs reply after =
    (asked : Result Command Malformed) × (g : Firing) × Answers bs asked × Right capacity f asked reply g × Stands capacity after g []

-- what comes of one byte more: an answer to the line that it ends, or a longer line
abbrev pub Taken : ℕ → Firing → List ℕ → ℕ → Option Reply → Bench → Type 0
Taken capacity f bs byte (Some reply) after = LineAnswered capacity f bs reply after
Taken capacity f bs byte None after = Stands capacity after f (bs ++ (byte ∷ []))

abbrev pub TakesRightly : Bench → ℕ → Option Reply → Bench → Type 0
TakesRightly before byte reply after = (capacity : ℕ) (f : Firing) (bs : List ℕ) → Stands capacity before f bs → Taken capacity f bs byte reply after

-- what comes of the end of the input: an answer to a last line, or none where no byte of one was read
abbrev pub Ended : ℕ → Firing → List ℕ → Option Reply → Bench → Type 0
Ended capacity f bs (Some reply) after = (0 < length bs) × LineAnswered capacity f bs reply after
Ended capacity f bs None after = (length bs ≡ 0) × Stands capacity after f bs

abbrev pub EndsRightly : Bench → Option Reply → Bench → Type 0
EndsRightly before reply after = (capacity : ℕ) (f : Firing) (bs : List ℕ) → Stands capacity before f bs → Ended capacity f bs reply after
