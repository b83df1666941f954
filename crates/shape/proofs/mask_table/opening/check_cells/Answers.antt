use Rattle.std.proofs.Common.{◌≡◌, ◌+◌, ◌*◌, get_or, sym, ap, ◌∙◌, arith}
use Rattle.paths.specs.Cell.{cell}
use Rattle.shape.specs.Masks.{opening_answer}
use Rattle.shape.proofs.Cells.{all_cells_from, opening_all, opening_wrong}
use Rattle.shape.proofs.mask_table.opening.check_cells.Goals as goal

pub returns-after-loop-number : goal.returns-after-loop-number
returns-after-loop-number c =
    let whole = all_cells_from c.args.cells.now c.if-cells-ne-CELLS.false (λ k h. c.loop-number.invariant k (omega arith)) in
    record { value = sym (ap opening_answer whole ∙ opening_all); right = whole }

pub returns-then-cells-from-clause-value : goal.returns-then-cells-from-clause-value
returns-then-cells-from-clause-value c =
    let cells = c.args.cells.now in
    let at : 8 * c.from.result + c.from-place.result ≡ 8 * c.loop-number.number + c.loop-end.end = omega (arith, c.from.ensures, c.from-place.ensures) in
    let path : c.path_mask.result ≡ cell c.loop-number.number c.loop-end.end = c.path_mask.ensures ∙ ap (cell c.loop-number.number) c.from-place.ensures in
    sym (opening_wrong cells c.if-cells-ne-CELLS.false c.loop-number.number c.loop-end.end (omega arith) (omega arith) c.loop-end.invariant
    (λ same. c.if-cells-from.true (ap (λ k. get_or cells k 0) at ∙ same ∙ sym path)))
