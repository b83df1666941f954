use Rattle.std.proofs.Common.{take}
use Rattle.std.specs.Fmt.{IsPlainFormatter, HasWritten}
use Rattle.masks.specs.Lines.{line_text}
use Rattle.masks.proofs.RowDisplay.fmt.Given as goal

abbrev pub invariant-loop-cell : goal.invariant-loop-cell
invariant-loop-cell g l = IsPlainFormatter l.fn.f → HasWritten g.W.Write.write_str_gives l.fn.f (line_text l.number (take l.cell-index l.self.cells.now)) l.f
