use Rattle.std.proofs.Common.{◌≡◌, ℕ, ◌+◌, ◌-◌, ◌*◌, ◌/◌, ◌<◌, List, ◌∷◌, [], get_or, take, drop, sym, ap, ◌∙◌, arith, get_or-take}
use Rattle.std.proofs.lemmas.List.{get_or-drop}
use Rattle.strip.specs.Bits.{count_of, height_after}
use Rattle.strip.specs.Octet.{byte_bits}
use Rattle.strip.specs.Outcomes.{rest_bits}
use Rattle.strip.proofs.Balances.{height_counts, length_counts}
use Rattle.strip.proofs.Cursors.{bits_more}
use Rattle.strip.proofs.Octets.{bits_octet, length_byte, height_past, height_lost}
use Rattle.strip.proofs.bits.end_height.Goals as goal

-- byte k of those behind the count
byte_behind : (bytes : List ℕ) (n k : ℕ) → k < n → get_or (take (2 + n - 2) (drop 2 bytes)) k 0 ≡ get_or bytes (2 + k) 0
byte_behind bytes n k h = get_or-take (2 + n - 2) (drop 2 bytes) k 0 (omega arith) ∙ get_or-drop 2 bytes k 0

pub returns-in_err-height : goal.returns-in_err-height
returns-in_err-height c =
    let bytes = c.args.bytes.now in
    let k = c.loop-byte.byte-index in
    let bits = byte_bits (get_or bytes (2 + k) 0) in
    let same = byte_behind bytes (c.args.count / 4) k (omega (arith, c.loop-byte-test.true)) in
    let moved = rw same at c.moved_byte.ensures in
    let more = bits_octet (16 + 2 * count_of bytes) (2 + k) (16 + 8 * k) (16 + 8 * (k + 1)) bytes (omega arith) (omega arith) (omega (arith, c.loop-byte-test.true, c.requires.counted)) in
    c.from_residual.ensures ∙ sym (c.loop-byte.invariant.leads ∙ ap (height_after c.loop-byte.height) more ∙ height_lost c.loop-byte.height bits (rest_bits bytes (16 + 8 * (k + 1))) (sym moved ∙ c.in_err-height.was))

pub loop-byte-preserved : goal.loop-byte-preserved
loop-byte-preserved c =
    let bytes = c.args.bytes.now in
    let k = c.loop-byte.byte-index in
    let bits = byte_bits (get_or bytes (2 + k) 0) in
    let same = byte_behind bytes (c.args.count / 4) k (omega (arith, c.loop-byte-test.true)) in
    let moved = rw same at c.moved_byte.ensures in
    let more = bits_octet (16 + 2 * count_of bytes) (2 + k) (16 + 8 * k) (16 + 8 * (k + 1)) bytes (omega arith) (omega arith) (omega (arith, c.loop-byte-test.true, c.requires.counted)) in
    let leads = sym moved ∙ c.in_ok-height.was in
    record {
      leads = c.loop-byte.invariant.leads ∙ ap (height_after c.loop-byte.height) more ∙ height_past c.loop-byte.height c.in_ok-height.height bits (rest_bits bytes (16 + 8 * (k + 1))) leads;
      within = omega (arith, height_counts c.loop-byte.height c.in_ok-height.height bits leads, length_counts bits, length_byte (get_or bytes (2 + k) 0), c.loop-byte.invariant.within);
    }

pub returns-in_err-height-2 : goal.returns-in_err-height-2
returns-in_err-height-2 c =
    let bytes = c.args.bytes.now in
    let more = bits_more (16 + 2 * count_of bytes) c.loop-at.at bytes (omega (arith, c.loop-at-test.true, c.requires.counted)) in
    c.from_residual-in_err-height-2.ensures ∙ sym (c.loop-at.invariant.leads ∙ ap (height_after c.loop-at.height) (more ∙ ap (λ b. b ∷ rest_bits bytes (c.loop-at.at + 1)) (sym c.bit.ensures))
    ∙ height_lost c.loop-at.height (c.bit.result ∷ []) (rest_bits bytes (c.loop-at.at + 1)) (sym c.moved.ensures ∙ c.in_err-height-2.was))

pub loop-at-preserved : goal.loop-at-preserved
loop-at-preserved c =
    let bytes = c.args.bytes.now in
    let more = bits_more (16 + 2 * count_of bytes) c.loop-at.at bytes (omega (arith, c.loop-at-test.true, c.requires.counted)) in
    let bits = c.bit.result ∷ [] in
    let leads = sym c.moved.ensures ∙ c.in_ok-height-2.was in
    record {
      leads = c.loop-at.invariant.leads ∙ ap (height_after c.loop-at.height) (more ∙ ap (λ b. b ∷ rest_bits bytes (c.loop-at.at + 1)) (sym c.bit.ensures))
          ∙ height_past c.loop-at.height c.in_ok-height-2.height bits (rest_bits bytes (c.loop-at.at + 1)) leads;
      within = omega (arith, height_counts c.loop-at.height c.in_ok-height-2.height bits leads, length_counts bits, c.loop-at.invariant.within);
    }
