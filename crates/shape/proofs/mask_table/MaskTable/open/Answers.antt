use Rattle.std.proofs.Common.{sym, subst}
use Rattle.std.proofs.lemmas.Result.{err_from_is_err_and}
use Rattle.shape.specs.Masks.{Opening}
use Rattle.shape.proofs.Cells.{opening_exact}
use Rattle.shape.proofs.mask_table.MaskTable.open.Goals as goal

pub returns-in_err-check_cells-clause-cases : goal.returns-in_err-check_cells-clause-cases
returns-in_err-check_cells-clause-cases c =
    let cells = c.args.cells.now in
    let p = err_from_is_err_and c.from_residual.result c.from_residual.ensures.1 in
    rw (p.1, p.2) (subst (Opening cells) (sym c.in_err-check_cells.ensures.value) (opening_exact cells))
