use Rattle.std.proofs.Common.{◌≡◌}
use Rattle.firing_log.specs.Of.{state_of, SameSlices}
use Rattle.strip.specs.Of.Strip.{strip_bytes}
use Rattle.strip.proofs.Appends.{Replaying}
use Rattle.strip.proofs.replays.replaying.append_all.Given as goal

abbrev pub invariant-loop-place : goal.invariant-loop-place
invariant-loop-place g l = record {
  strip : l.cursor.strip ≡ l.strip;
  place : l.cursor.place ≡ l.place;
  replaying : Replaying (g.S.Answerer.seats l.answerer) (strip_bytes l.strip) (state_of l.initial.sheet l.initial.memory) l.place (state_of l.sheet l.memory);
  same : SameSlices l.initial.memory l.memory;
}
