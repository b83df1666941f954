-- A strip replayed: the log of tenths that it is read back as.
-- Assumes nothing.
use Rattle.std.specs.Prelude.{◌≡◌, ℕ, ◌-◌, ◌*◌, cond, List, [], ◌∷◌, map, pos, Ok, Err, Result, nat_lt}
use Rattle.std.specs.List.{range_with_len}
use Rattle.reading.specs.declared.tenths.Tenths.{Tenths}
use Rattle.reading.specs.Tenths.{tenths_colder}
use Rattle.firing_log.specs.Of.{state_of}
use Rattle.firing_log.specs.State.{State}
use Rattle.firing_log.specs.Steps.{opened, appended, log_code}
use Rattle.firing_log.specs.declared.fault.LogFault.{LogFault}
use Rattle.firing_log.specs.declared.fault.LogFault.TheVariants.{Full}
use Rattle.firing_log.specs.declared.memory.Memory.{Memory}
use Rattle.firing_log.specs.declared.sheet.Sheet.{Sheet}
use Rattle.strip.specs.Bits.{count_of, depth_of}
use Rattle.strip.specs.Outcomes.{opening_answer, strip_code}
use Rattle.strip.specs.declared.fault.StripFault.{StripFault}
use Rattle.strip.specs.declared.replays.ReplayFault.{ReplayFault}
use Rattle.strip.specs.declared.replays.ReplayFault.TheVariants.{OfStrip, OfLog}

-- the number of a refusal, which is that of the side that refused
abbrev pub replay_code : ReplayFault → ℕ
replay_code (OfStrip fault) = strip_code fault
replay_code (OfLog fault) = log_code fault

-- the reading of a place: deeper is warmer, and of equally deep ones the later is colder
abbrev pub replay_reading : List ℕ → ℕ → Tenths
replay_reading bytes p = record { 0 = pos (32768 * depth_of bytes p - p) }

abbrev pub replay_readings : List ℕ → List Tenths
replay_readings bytes = map (replay_reading bytes) (range_with_len 0 (count_of bytes))

-- one append after another
abbrev pub appended_all : (ℕ → ℕ → ℕ → ℕ) → State Tenths → List Tenths → State Tenths
appended_all seats s [] = s
appended_all seats s (x ∷ xs) = appended_all seats (appended tenths_colder seats s x).1 xs

abbrev pub log_start : ℕ → ℕ → Result (State Tenths) LogFault → Result (State Tenths) ReplayFault
log_start count capacity (Err fault) = Err (OfLog fault)
log_start count capacity (Ok s) = cond (nat_lt capacity count) (Err (OfLog Full)) (Ok s)

abbrev pub strip_start : Result (Unit {0}) StripFault → Result (State Tenths) ReplayFault → Result (State Tenths) ReplayFault
strip_start (Err fault) rest = Err (OfStrip fault)
strip_start (Ok x) rest = rest

-- the new log, once all is checked: the strip, then the log, then that the strip fits
abbrev pub replay_start : List ℕ → ℕ → List Tenths → List ℕ → List ℕ → Result (State Tenths) ReplayFault
replay_start bytes capacity readings shapes entries =
    strip_start (opening_answer bytes) (log_start (count_of bytes) capacity (opened capacity readings shapes entries))

-- what replay answers and leaves: the log with all the strip's readings appended, or the refusal and the memory as it was
abbrev pub Replayed : (ℕ → ℕ → ℕ → ℕ) → List ℕ → Result (State Tenths) ReplayFault → Memory Tenths → Memory Tenths → Result Sheet ReplayFault → Type 0
Replayed seats bytes (Ok s) before after (Ok sheet) = state_of sheet after ≡ appended_all seats s (replay_readings bytes)
Replayed seats bytes (Ok s) before after (Err fault) = ⊥
Replayed seats bytes (Err fault) before after (Ok sheet) = ⊥
Replayed seats bytes (Err fault) before after (Err given) =
    (given ≡ fault) × (after.readings.now ≡ before.readings.now) × (after.shapes.now ≡ before.shapes.now) × (after.entries.now ≡ before.entries.now)
