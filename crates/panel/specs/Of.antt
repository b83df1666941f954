-- The states of logs, as the definitions of the log speak of them.
-- Assumes nothing.
use Rattle.firing_log.specs.State.{State}
use Rattle.firing_log.specs.Of.{state_of}
use Rattle.panel.specs.Logs.{Logs}
use Rattle.panel.specs.declared.panel.Panel.{Panel}
use Rattle.panel.specs.declared.roll.Roll.{Roll}

abbrev pub roll_state : {K : Type 0} → Roll K → State K
roll_state roll = state_of roll.sheet roll.memory

abbrev pub logs_of : Panel → Logs
logs_of panel = record { cold = roll_state panel.cold; hot = roll_state panel.hot; probes = roll_state panel.probes }
