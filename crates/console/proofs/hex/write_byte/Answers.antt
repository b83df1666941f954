use Rattle.std.proofs.Common.{◌≡◌, ℕ, ◌+◌, ◌/◌, ◌%◌, ◌<◌, ltb, [], ◌∷◌, ◌++◌, is_ok, ap, arith}
use lib.Utf8.{encode}
use Rattle.std.proofs.Output.{has_written_append, has_written_of_eq}
use Rattle.std.proofs.lemmas.Str.Ascii.{encode_ascii}
use Rattle.std.proofs.lemmas.Bool.{cond_both}
use Rattle.console.specs.Hex.{hex_digit, byte_text}
use Rattle.console.proofs.hex.write_byte.Goals as goal

digit_encoded : (value : ℕ) → value < 16 → encode (hex_digit value) ≡ hex_digit value ∷ []
digit_encoded value h =
    encode_ascii (hex_digit value) (cond_both (ltb value 10) (48 + value) (87 + value) (λ d. d < 128) (λ e. omega arith) (λ e. omega arith))

two_encoded : (byte high low : ℕ) → byte < 256 → high ≡ hex_digit (byte / 16) → low ≡ hex_digit (byte % 16) → encode high ++ encode low ≡ byte_text byte
two_encoded byte high low h high_is low-is = rw (high_is, low-is, digit_encoded (byte / 16) (omega arith), digit_encoded (byte % 16) (omega arith))

pub returns : goal.returns
returns g c plain ok =
    let took = g.W.Write.write_str_gives in
    let start = c.args.f.now in
    let middle = c.write_char.new.self in
    let end = c.write_char-2.new.self in
    let high = c.digit.result in
    let low = c.digit-2.result in
    let first = c.write_char.ensures.writes plain (ap is_ok c.in_ok-write_char.was) in
    let second = c.write_char-2.ensures.writes first.plain ok in
    let is = two_encoded c.args.byte high low (omega arith) c.digit.ensures c.digit-2.ensures in
    has_written_of_eq took start (encode high ++ encode low) (byte_text c.args.byte) end is (has_written_append took start (encode high) middle (encode low) end first second)
