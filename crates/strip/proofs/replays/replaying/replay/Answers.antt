use Rattle.std.proofs.Common.{sym}
use Rattle.firing_log.specs.Of.{state_of}
use Rattle.firing_log.specs.Runs.{new}
use Rattle.strip.proofs.replays.replaying.replay.Goals as goal

pub append_all-requires-clause-reached : goal.append_all-requires-clause-reached
append_all-requires-clause-reached g c =
    let memory = c.args.memory.now in
    new c.args.capacity memory.readings.now memory.shapes.now memory.entries.now (state_of c.in_ok-sheet.sheet memory) (sym c.in_ok-sheet.ensures)
