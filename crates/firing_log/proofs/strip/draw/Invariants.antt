use Rattle.std.proofs.Common.{◌≤◌, length, take}
use Rattle.reading.specs.Coldest.{places}
use Rattle.firing_log.specs.Strip.{bit_bytes}
use Rattle.firing_log.proofs.Draws.{Drawn}
use Rattle.firing_log.proofs.strip.draw.Given as goal

abbrev pub invariant-loop-place : goal.invariant-loop-place
invariant-loop-place g l = record {
  high : l.height ≤ length l.path;
  drawn : Drawn (places g.K.Reading.colder l.readings) (bit_bytes (length l.readings)) l.place (take l.height l.path) l.bits;
}
