use Rattle.std.proofs.Common.{◌≡◌, is_ok, ap, ◌∙◌}
use Rattle.shape.specs.Masks.{all_cells, opening_answer}
use Rattle.shape.proofs.Cells.{opening_all}
use Rattle.masks.proofs.main.Goals as goal

pub unwrap-requires-2 : goal.unwrap-requires-2
unwrap-requires-2 c =
    let whole : c.fill_masks.new.cells ≡ all_cells = c.fill_masks.ensures.after in
    ap is_ok (c.open.ensures.value ∙ ap opening_answer whole ∙ opening_all)
