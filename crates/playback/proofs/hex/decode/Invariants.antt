use Rattle.std.proofs.Common.{◌≡◌, ℕ, ◌+◌, ◌*◌, ◌<◌, ◌≤◌, length, get_or}
use Rattle.playback.specs.Digits.{Digits}
use Rattle.playback.proofs.hex.decode.Given as goal

abbrev pub invariant-loop-high : goal.invariant-loop-high
invariant-loop-high g l = record {
  fits : length l.bytes.items ≤ g.row.ROOM;
  len : length l.bytes.items ≡ l.high-index;
  spelled : (k : ℕ) → k < l.high-index → Digits (get_or l.text (2 * k) 0) (get_or l.text (2 * k + 1) 0) (get_or l.bytes.items k 0);
}
