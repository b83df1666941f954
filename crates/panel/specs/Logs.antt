-- The three logs, and the calls that each command makes on them.
-- Assumes nothing.
use Rattle.std.specs.Prelude.{ℕ, Bool, Ok, Err, Result}
use Rattle.reading.specs.declared.probe.Probe.{Probe}
use Rattle.reading.specs.declared.reversed.Reversed.{Reversed}
use Rattle.reading.specs.declared.tenths.Tenths.{Tenths}
use Rattle.reading.specs.Probes.{probe_colder}
use Rattle.reading.specs.Tenths.{tenths_colder}
use Rattle.paths.specs.Cell.{seat}
use Rattle.firing_log.specs.State.{State}
use Rattle.firing_log.specs.Steps.{appended, cut}
use Rattle.firing_log.specs.declared.fault.LogFault.{LogFault}

-- cold and hot keep the same tenths, in one order and in the other
pub record Logs : Type 0 where
  pub cold : State Tenths
  pub hot : State (Reversed Tenths)
  pub probes : State Probe

-- a temperature in the order turned round
abbrev pub turned : Tenths → Reversed Tenths
turned x = record { 0 = x }

abbrev pub tenths_hotter : Reversed Tenths → Reversed Tenths → Bool
tenths_hotter a b = tenths_colder b.0 a.0

-- what comes of the logs of tenths: the call on hot comes first, and the call on cold only if hot did not refuse
abbrev pub in_turn : Logs → Result ℕ LogFault × State (Reversed Tenths) → Result ℕ LogFault × State Tenths → Result ℕ LogFault × Logs
in_turn logs (Ok count, hot) (answer, cold) = (answer, record { cold = cold; hot = hot; probes = logs.probes })
in_turn logs (Err fault, hot) _ = (Err fault, record { cold = logs.cold; hot = hot; probes = logs.probes })

-- a temperature goes to both logs of tenths
abbrev pub tenths_appended : Logs → Tenths → Result ℕ LogFault × Logs
tenths_appended logs x =
    in_turn logs (appended tenths_hotter seat logs.hot (turned x)) (appended tenths_colder seat logs.cold x)

-- both logs of tenths are cut
abbrev pub tenths_cut : Logs → ℕ → Result ℕ LogFault × Logs
tenths_cut logs n = in_turn logs (cut tenths_hotter logs.hot n) (cut tenths_colder logs.cold n)

abbrev pub probe_appended : Logs → Probe → Result ℕ LogFault × Logs
probe_appended logs x =
    let done = appended probe_colder seat logs.probes x in
    (done.0, record { cold = logs.cold; hot = logs.hot; probes = done.1 })
