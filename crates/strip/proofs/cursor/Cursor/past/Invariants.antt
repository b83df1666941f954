use Rattle.std.proofs.Common.{◌≡◌, ◌+◌, ◌-◌, ◌*◌, ◌≤◌}
use Rattle.strip.specs.Bits.{count_of, depth_of}
use Rattle.strip.specs.Of.Strip.{strip_bytes}
use Rattle.strip.proofs.cursor.Cursor.past.Given as goal

abbrev pub invariant-loop-cursor : goal.invariant-loop-cursor
invariant-loop-cursor l = record {
  strip : l.cursor.strip ≡ l.strip;
  place : l.cursor.place ≤ l.place + 1;
  depth : l.cursor.place ≡ l.place + 1 → l.cursor.height ≡ depth_of (strip_bytes l.strip) l.place;
}

abbrev pub decreases-loop-cursor : goal.decreases-loop-cursor
decreases-loop-cursor l = 16 + 2 * count_of (strip_bytes l.strip) - l.cursor.at
