use Rattle.std.proofs.Common.{take}
use Rattle.console.specs.Reading.{HasRead}
use Rattle.console.proofs.line.parse.Given as goal

abbrev pub invariant-loop-byte : goal.invariant-loop-byte
invariant-loop-byte l = HasRead l.reader (take l.byte-index l.line)
