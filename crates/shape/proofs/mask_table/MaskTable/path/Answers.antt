use Rattle.std.proofs.Common.{◌≡◌, length, ap, arith}
use Rattle.shape.specs.Masks.{all_cells}
use Rattle.shape.proofs.Cells.{length_all_cells, get_or_all_cells}
use Rattle.shape.proofs.mask_table.MaskTable.path.Goals as goal

pub bounds-cells-from : goal.bounds-cells-from
bounds-cells-from c =
    let whole : c.in-Some.cells.now ≡ all_cells = rw c.in-Some.is at c.args.self.now.right in
    omega (arith, ap length whole, length_all_cells, c.from.ensures)

pub returns-in-Some : goal.returns-in-Some
returns-in-Some c =
    let whole : c.in-Some.cells.now ≡ all_cells = rw c.in-Some.is at c.args.self.now.right in
    let right = get_or_all_cells c.args.question.number c.args.question.to c.args.question.carried c.args.question.within in
    let same = c.from.ensures in
    cc
