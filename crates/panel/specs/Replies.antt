-- What the panel answers to a line, and the logs that it leaves.
-- Assumes nothing.
use Rattle.std.specs.Prelude.{ℕ, Bool, List, replicate, Some, Ok, Err, Option, Result}
use Rattle.std.specs.List.{slice_get}
use Rattle.std.specs.Option.{option_map}
use Rattle.reading.specs.declared.fault.ProbeFault.{ProbeFault}
use Rattle.reading.specs.declared.probe.Probe.{Probe}
use Rattle.reading.specs.declared.tenths.Tenths.{Tenths}
use Rattle.reading.specs.Probes.{probe_of, probe_colder}
use Rattle.paths.specs.Cell.{seat}
use Rattle.firing_log.specs.State.{State}
use Rattle.firing_log.specs.Steps.{coldest}
use Rattle.firing_log.specs.Strip.{strip_written}
use Rattle.firing_log.specs.declared.fault.LogFault.{LogFault}
use Rattle.console.specs.declared.command.Command.{Command}
use Rattle.console.specs.declared.command.Command.TheVariants.{Append, AppendProbe, Cut, Coldest, Hottest, Weakest, Strip}
use Rattle.console.specs.declared.command.Malformed.{Malformed}
use Rattle.console.specs.declared.reply.Found.{Found}
use Rattle.reading.specs.Tenths.{tenths_colder}
use Rattle.panel.specs.Logs.{Logs, tenths_hotter, tenths_appended, tenths_cut, probe_appended}
use Rattle.panel.specs.declared.answer.Answer.{Answer}
use Rattle.panel.specs.declared.log_name.LogName.{LogName}
use Rattle.panel.specs.declared.log_name.LogName.TheVariants.{ColdLog, HotLog, ProbeLog}
use Rattle.panel.specs.declared.written.WrittenStrip.{WrittenStrip}
use Rattle.panel.specs.declared.answer.Answer.TheVariants.{Changed, Cold, Hot, Probes, Written}
use Rattle.panel.specs.declared.refusal.Refusal.{Refusal}
use Rattle.panel.specs.declared.refusal.Refusal.TheVariants.{Line, Log, Probe as NoProbe}

-- what a line is answered with
abbrev pub Reply : Type 0
Reply = Result Answer Refusal

-- the reply to a call that gives the new count, by the log that it is about
abbrev pub counted : LogName → Result ℕ LogFault → Reply
counted log (Ok count) = Ok (Changed log (record { 0 = count }))
counted log (Err fault) = Err (Log log fault)

-- the answer to a question that is answered with a place: the place and the reading there
abbrev pub found : {K : Type 0} → List K → Result ℕ LogFault → Option (Result (Found K) LogFault)
found readings (Ok place) = option_map (λ reading. Ok (record { place = place; reading = reading })) (slice_get readings place)
found readings (Err fault) = Some (Err fault)

-- where a log was first coldest from one place to another
abbrev pub asked : {K : Type 0} → (K → K → Bool) → (ℕ → ℕ → ℕ → ℕ) → State K → ℕ → ℕ → Option (Result (Found K) LogFault)
asked colder seats s from to = found s.readings (coldest colder seats s from to)

-- the reply to a question, by the log that was asked
abbrev pub told : {K : Type 0} → LogName → (Found K → Answer) → Result (Found K) LogFault → Reply
told log into (Ok found) = Ok (into found)
told log into (Err fault) = Err (Log log fault)

abbrev pub malformed : Reply
malformed = Err (Line (record {}))

-- a probe reading is appended, or its line is refused where there is no such probe
abbrev pub probe_answered : Logs → Result Probe ProbeFault → Option Reply × Logs
probe_answered logs (Ok probe) = let done = probe_appended logs probe in (Some (counted ProbeLog done.0), done.1)
probe_answered logs (Err fault) = (Some (Err (NoProbe fault)), logs)

-- the output memory after a strip was written, and how many of its bytes are the strip
abbrev pub written : Result ℕ LogFault × List ℕ → Result WrittenStrip LogFault
written (Ok len, output) = Ok (record { output = output; len = len })
written (Err fault, output) = Err fault

abbrev pub with_strip : Result WrittenStrip LogFault → Reply
with_strip (Ok strip) = Ok (Written strip)
with_strip (Err fault) = Err (Log ColdLog fault)

-- a log's strip, written into 514 bytes
abbrev pub strip_answered : State Tenths → Reply
strip_answered s = with_strip (written (strip_written tenths_colder s (replicate 514 0)))

abbrev pub obeyed : Logs → Command → Option Reply × Logs
obeyed logs (Append tenths) = let done = tenths_appended logs (record { 0 = tenths }) in (Some (counted ColdLog done.0), done.1)
obeyed logs (AppendProbe margin number) = probe_answered logs (probe_of margin number)
obeyed logs (Cut length) = let done = tenths_cut logs length in (Some (counted ColdLog done.0), done.1)
obeyed logs (Coldest from to) = (option_map (told ColdLog Cold) (asked tenths_colder seat logs.cold from to), logs)
obeyed logs (Hottest from to) = (option_map (told HotLog Hot) (asked tenths_hotter seat logs.hot from to), logs)
obeyed logs (Weakest from to) = (option_map (told ProbeLog Probes) (asked probe_colder seat logs.probes from to), logs)
obeyed logs Strip = (Some (strip_answered logs.cold), logs)

-- a line of another form is refused, and leaves the logs as they were
abbrev pub answered : Logs → Result Command Malformed → Option Reply × Logs
answered logs (Ok command) = obeyed logs command
answered logs (Err fault) = (Some malformed, logs)
