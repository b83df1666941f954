use Rattle.std.proofs.Common.{◌≡◌, ◌+◌, ◌<◌, [], ◌∷◌, ◌++◌, length, get_or, ap, ◌∙◌, arith}
use Rattle.std.proofs.lemmas.Bool.Decides.{nat_tests}
use Rattle.std.proofs.lemmas.List.{take_all, length-append}
use Rattle.console.specs.Buffers.{bytes_of}
use Rattle.playback.proofs.read_line.Goals as goal

-- a line that is not full is longer by the byte
pub loop-input-smaller : goal.loop-input-smaller
loop-input-smaller c =
    let line = bytes_of c.loop-input.line in
    let last = get_or c.read.new.buf 0 0 ∷ [] in
    let room : length line < 16389 = grind (arith, nat_tests) in
    let longer : length (bytes_of c.push.new.self) ≡ length line + 1 = ap length (c.push.ensures ∙ take_all 16389 (line ++ last) (omega (arith, length-append line last))) ∙ length-append line last in
    omega (arith, longer)
