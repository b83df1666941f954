-- The state of a log that is asked.
-- Assumes nothing.
use Rattle.firing_log.specs.Of.{state_of}
use Rattle.firing_log.specs.State.{State}
use Rattle.firing_log.specs.declared.view.LogView.{LogView}

abbrev pub seen : {K S : Type 0} → LogView K S → State K
seen log = state_of log.sheet.now log.memory.now
