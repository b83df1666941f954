-- What the three logs hold, as plain lists, and what the right answer to a line is.
-- Assumes nothing.
use Rattle.std.specs.Prelude.{◌≡◌, ℕ, ◌+◌, ◌<◌, ◌≤◌, Bool, false, ◌⊎◌, List, [], ◌∷◌, ◌++◌, map, length, take, Some, Ok, Err, Result}
use Rattle.std.specs.List.{slice_get}
use Rattle.reading.specs.declared.fault.ProbeFault.{ProbeFault}
use Rattle.reading.specs.declared.probe.Probe.{Probe}
use Rattle.reading.specs.declared.reversed.Reversed.{Reversed}
use Rattle.reading.specs.declared.tenths.Tenths.{Tenths}
use Rattle.reading.specs.Coldest.{FirstColdest, places}
use Rattle.reading.specs.Probes.{probe_of, probe_colder}
use Rattle.firing_log.specs.State.{State, short, log_of}
use Rattle.firing_log.specs.Runs.{Sound}
use Rattle.firing_log.specs.Strip.{strip, strip_length}
use Rattle.firing_log.specs.declared.fault.LogFault.{LogFault}
use Rattle.firing_log.specs.declared.fault.LogFault.TheVariants.{Full, CutLength, Backwards, Beyond, ShortOutput}
use Rattle.console.specs.declared.command.Command.{Command}
use Rattle.console.specs.declared.command.Command.TheVariants.{Append, AppendProbe, Cut, Coldest, Hottest, Weakest, Strip}
use Rattle.console.specs.declared.command.Malformed.{Malformed}
use Rattle.console.specs.declared.reply.Found.{Found}
use Rattle.reading.specs.Tenths.{tenths_colder}
use Rattle.panel.specs.Logs.{Logs, turned, tenths_hotter}
use Rattle.panel.specs.Replies.{Reply, counted, told, malformed, strip_answered}
use Rattle.panel.specs.declared.answer.Answer.TheVariants.{Changed, Cold, Hot, Probes, Written}
use Rattle.panel.specs.declared.log_name.LogName.TheVariants.{ColdLog, HotLog, ProbeLog}
use Rattle.panel.specs.declared.refusal.Refusal.TheVariants.{Line, Log, Probe as NoProbe}

-- the temperatures and the probe readings, each in the order in which they came
pub record Firing : Type 0 where
  pub tenths : List Tenths
  pub probes : List Probe

-- ---- what the logs hold

-- a log of this capacity that holds the readings xs, in memory that is long enough, and whose index numbers are right
pub record Keeps {K : Type 0} (colder : K → K → Bool) (capacity : ℕ) (s : State K) (xs : List K) : Type 0 where
  pub capacity_is : s.capacity ≡ capacity
  pub few : capacity ≤ 32768
  pub long : short s ≡ false
  pub within : s.count ≤ capacity
  pub sound : Sound colder s
  pub holds : log_of s ≡ xs

-- each temperature is in both logs of tenths, so that they are equally long
pub record KeepsFiring (capacity : ℕ) (logs : Logs) (f : Firing) : Type 0 where
  pub cold : Keeps tenths_colder capacity logs.cold f.tenths
  pub hot : Keeps tenths_hotter capacity logs.hot (map turned f.tenths)
  pub probes : Keeps probe_colder capacity logs.probes f.probes

-- ---- right answers

-- the answer to one reading more, and the readings after
abbrev pub Adds : {K : Type 0} → ℕ → List K → K → Result ℕ LogFault → List K → Type 0
Adds capacity xs x (Ok count) ys = (length xs < capacity) × (count ≡ length xs + 1) × (ys ≡ xs ++ (x ∷ []))
Adds capacity xs x (Err fault) ys = (capacity ≤ length xs) × (fault ≡ Full) × (ys ≡ xs)

-- the answer to a cut to n readings, and the readings after
abbrev pub Cuts : {K : Type 0} → List K → ℕ → Result ℕ LogFault → List K → Type 0
Cuts xs n (Ok count) ys = (n ≤ length xs) × (count ≡ n) × (ys ≡ take n xs)
Cuts xs n (Err fault) ys = (length xs < n) × (fault ≡ CutLength) × (ys ≡ xs)

-- why there is no first coldest place from l to r
abbrev pub NoRange : {K : Type 0} → List K → ℕ → ℕ → LogFault → Type 0
NoRange xs l r fault = ((r < l) × (fault ≡ Backwards)) ⊎ ((l ≤ r) × (length xs ≤ r) × (fault ≡ Beyond))

-- the answer to the question where the readings xs were first coldest from l to r
abbrev pub Tells : {K : Type 0} → (K → K → Bool) → List K → ℕ → ℕ → Result (Found K) LogFault → Type 0
Tells colder xs l r (Ok found) = (r < length xs) × FirstColdest (places colder xs) l r found.place × (slice_get xs found.place ≡ Some found.reading)
Tells colder xs l r (Err fault) = NoRange xs l r fault

-- the reply to a reading of a probe, if there is such a probe, and the readings after
abbrev pub AddsProbe : ℕ → List Probe → Result Probe ProbeFault → Reply → List Probe → Type 0
AddsProbe capacity xs (Ok probe) reply ys = (result : Result ℕ LogFault) × (reply ≡ counted ProbeLog result) × Adds capacity xs probe result ys
AddsProbe capacity xs (Err fault) reply ys = (reply ≡ Err (NoProbe fault)) × (ys ≡ xs)

-- the right reply to a line in a firing f, and the firing g after it
abbrev pub Right : ℕ → Firing → Result Command Malformed → Reply → Firing → Type 0
Right capacity f (Ok (Append tenths)) reply g =
    (result : Result ℕ LogFault) × (reply ≡ counted ColdLog result) × Adds capacity f.tenths (record { 0 = tenths }) result g.tenths × (g.probes ≡ f.probes)
Right capacity f (Ok (AppendProbe margin number)) reply g = AddsProbe capacity f.probes (probe_of margin number) reply g.probes × (g.tenths ≡ f.tenths)
Right capacity f (Ok (Cut n)) reply g =
    (result : Result ℕ LogFault) × (reply ≡ counted ColdLog result) × Cuts f.tenths n result g.tenths × (g.probes ≡ f.probes)
Right capacity f (Ok (Coldest l r)) reply g =
    (answer : Result (Found Tenths) LogFault) × (reply ≡ told ColdLog Cold answer) × Tells tenths_colder f.tenths l r answer × (g ≡ f)
Right capacity f (Ok (Hottest l r)) reply g =
    (answer : Result (Found (Reversed Tenths)) LogFault) × (reply ≡ told HotLog Hot answer) × Tells tenths_hotter (map turned f.tenths) l r answer × (g ≡ f)
Right capacity f (Ok (Weakest l r)) reply g =
    (answer : Result (Found Probe) LogFault) × (reply ≡ told ProbeLog Probes answer) × Tells probe_colder f.probes l r answer × (g ≡ f)
Right capacity f (Ok Strip) reply g = (s : State Tenths) × Keeps tenths_colder capacity s f.tenths × (reply ≡ strip_answered s) × (g ≡ f)
Right capacity f (Err fault) reply g = (reply ≡ malformed) × (g ≡ f)

-- logs that keep a firing get the right reply, and keep the firing after it
abbrev pub AnswersRightly : Logs → Result Command Malformed → Reply → Logs → Type 0
AnswersRightly before asked reply after =
    (capacity : ℕ) (f : Firing) → KeepsFiring capacity before f → (g : Firing) × KeepsFiring capacity after g × Right capacity f asked reply g

-- the reply to a question for the strip of the readings: its bytes, or the refusal where 514 bytes have no room for them
abbrev pub ShowsStrip : List Tenths → Reply → Type 0
ShowsStrip xs (Ok (Written w)) = take w.len w.output ≡ strip (places tenths_colder xs) (length xs)
ShowsStrip xs (Ok (Changed log done)) = ⊥
ShowsStrip xs (Ok (Cold found)) = ⊥
ShowsStrip xs (Ok (Hot found)) = ⊥
ShowsStrip xs (Ok (Probes found)) = ⊥
ShowsStrip xs (Err (Log ColdLog fault)) = (514 < strip_length (length xs)) × (fault ≡ ShortOutput)
ShowsStrip xs (Err (Log HotLog fault)) = ⊥
ShowsStrip xs (Err (Log ProbeLog fault)) = ⊥
ShowsStrip xs (Err (NoProbe fault)) = ⊥
ShowsStrip xs (Err (Line fault)) = ⊥

-- where the logs keep a firing and its strip is asked for, the reply shows the strip of the readings
abbrev pub ShowsRightly : Logs → Result Command Malformed → Reply → Type 0
ShowsRightly before asked reply = (capacity : ℕ) (f : Firing) → KeepsFiring capacity before f → asked ≡ Ok Strip → ShowsStrip f.tenths reply
