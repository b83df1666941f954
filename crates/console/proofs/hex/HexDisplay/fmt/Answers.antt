use Rattle.std.proofs.Common.{◌≡◌, ℕ, ◌+◌, ◌<◌, true, List, [], ◌++◌, length, get_or, take, sym, refl, ap, ◌∙◌, arith}
use Rattle.std.proofs.Output.{has_written_append, has_written_of_eq}
use Rattle.std.proofs.lemmas.List.{flat_map_more, take_more, take_all}
use Rattle.console.specs.Hex.{byte_text, hex_text}
use Rattle.console.proofs.hex.HexDisplay.fmt.Goals as goal

one_more : (bytes : List ℕ) (i : ℕ) → i < length bytes → hex_text (take i bytes) ++ byte_text (get_or bytes i 0) ≡ hex_text (take (i + 1) bytes)
one_more bytes i h = flat_map_more byte_text [] (take i bytes) (get_or bytes i 0) ∙ ap hex_text (sym (take_more bytes i 0 h))

pub loop-byte-preserved : goal.loop-byte-preserved
loop-byte-preserved g c plain =
    let took = g.W.Write.write_str_gives in
    let start = c.args.f.now in
    let middle = c.loop-byte.f in
    let end = c.write_byte.new.f in
    let bytes : List ℕ = c.args.self.now.0.now in
    let i = c.loop-byte.byte-index in
    let sofar = hex_text (take i bytes) in
    let more = byte_text (get_or bytes i 0) in
    let before = c.loop-byte.invariant plain in
    let wrote = c.in_ok-write_byte.ensures before.plain (refl {a = true}) in
    has_written_of_eq took start (sofar ++ more) (hex_text (take (i + 1) bytes)) end (one_more bytes i (omega arith)) (has_written_append took start sofar middle more end before wrote)

pub returns-clause-writes : goal.returns-clause-writes
returns-clause-writes g c plain ok =
    has_written_of_eq _ _ _ _ _ (ap hex_text (take_all c.loop-byte.byte-index c.args.self.now.0.now (omega arith))) (c.loop-byte.invariant plain)
