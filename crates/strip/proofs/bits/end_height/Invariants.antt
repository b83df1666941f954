use Rattle.std.proofs.Common.{◌≡◌, ◌+◌, ◌*◌, ◌≤◌}
use Rattle.strip.specs.Bits.{strip_bits, height_after}
use Rattle.strip.specs.Outcomes.{rest_bits}
use Rattle.strip.proofs.bits.end_height.Given as goal

abbrev pub invariant-loop-byte : goal.invariant-loop-byte
invariant-loop-byte l = record {
  leads : height_after 0 (strip_bits l.bytes) ≡ height_after l.height (rest_bits l.bytes (16 + 8 * l.byte-index));
  within : l.height ≤ 8 * l.byte-index;
}

abbrev pub invariant-loop-at : goal.invariant-loop-at
invariant-loop-at l = record {
  leads : height_after 0 (strip_bits l.bytes) ≡ height_after l.height (rest_bits l.bytes l.at);
  within : l.height + 16 ≤ l.at;
}
