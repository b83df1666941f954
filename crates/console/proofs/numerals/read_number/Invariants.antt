use Rattle.std.proofs.Common.{drop}
use Rattle.console.specs.Numbers.{Small}
use Rattle.console.proofs.Texts.{Leads}
use Rattle.console.proofs.numerals.read_number.Given as goal

abbrev pub invariant-loop-byte : goal.invariant-loop-byte
invariant-loop-byte l = Small l.number × Leads l.text l.number (drop l.byte-index l.text)
