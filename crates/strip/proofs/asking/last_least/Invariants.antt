use Rattle.std.proofs.Common.{◌≡◌, ◌+◌, ◌-◌, ◌*◌, ◌≤◌}
use Rattle.strip.specs.Bits.{count_of}
use Rattle.strip.specs.Cursors.{Best}
use Rattle.strip.specs.Of.Strip.{strip_bytes}
use Rattle.strip.proofs.asking.last_least.Given as goal

abbrev pub invariant-loop-search : goal.invariant-loop-search
invariant-loop-search l = record {
  strip : l.search.cursor.strip ≡ l.strip;
  best : Best (strip_bytes l.strip) l.from l.search.cursor.place l.search.best;
  place : l.search.cursor.place ≤ l.to + 1;
}

abbrev pub decreases-loop-search : goal.decreases-loop-search
decreases-loop-search l = 16 + 2 * count_of (strip_bytes l.strip) - l.search.cursor.at
