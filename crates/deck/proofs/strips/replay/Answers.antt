use Rattle.strip.specs.Replay.{replay_start}
use Rattle.deck.specs.declared.fault.Refusal.TheVariants.{OfReplay}
use Rattle.deck.proofs.Refused.{passed_up}
use Rattle.deck.proofs.Replays.{replay_refused}
use Rattle.deck.proofs.strips.replay.Goals as goal

pub returns-in_err-replay-clause-done : goal.returns-in_err-replay-clause-done
returns-in_err-replay-clause-done c =
    let memory = c.args.memory.now in
    let fault = c.in_err-replay.field-0.0 in
    replay_refused c.args.bytes.now memory c.replay.new.memory
    c.args.sheet.now (replay_start c.args.bytes.now c.args.capacity memory.readings.now memory.shapes.now memory.entries.now)
    c.from_residual.result fault c.in_err-replay.ensures.log
    (passed_up c.from_residual.result (OfReplay fault) c.from_residual.ensures.1)
