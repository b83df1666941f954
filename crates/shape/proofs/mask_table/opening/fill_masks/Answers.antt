use Rattle.std.proofs.Common.{arith}
use Rattle.std.proofs.lemmas.Bool.{eq-eqb}
use Rattle.shape.proofs.Cells.{all_cells_from}
use Rattle.shape.proofs.mask_table.opening.fill_masks.Goals as goal

pub returns-clause-after : goal.returns-clause-after
returns-clause-after c = rw (eq-eqb _ _ c.if-cells-ne-CELLS.false) (all_cells_from c.loop-k.cells (omega arith) (λ k h. c.loop-k.invariant k (omega arith)))
