use Rattle.std.proofs.Common.{◌≡◌, ◌+◌, ◌-◌, ◌*◌}
use Rattle.strip.specs.Bits.{count_of}
use Rattle.strip.specs.Cursors.{PastBit}
use Rattle.strip.specs.Of.Strip.{strip_bytes}
use Rattle.strip.proofs.cursor.Cursor.advance.Given as goal

abbrev pub invariant-loop-next : goal.invariant-loop-next
invariant-loop-next l = (l.next.strip ≡ l.self.strip) × PastBit (strip_bytes l.self.strip) l.self.place l.next.place l.next.height

abbrev pub decreases-loop-next : goal.decreases-loop-next
decreases-loop-next l = 16 + 2 * count_of (strip_bytes l.self.strip) - l.next.at
