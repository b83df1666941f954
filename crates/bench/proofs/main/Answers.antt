use Rattle.std.proofs.Common.{◌≡◌, [], is_ok, ap, ◌∙◌}
use Rattle.shape.specs.Masks.{all_cells, opening_answer}
use Rattle.shape.proofs.Cells.{opening_all}
use Rattle.bench.proofs.main.Goals as goal

pub unwrap-requires-2 : goal.unwrap-requires-2
unwrap-requires-2 c =
    let whole : c.fill_masks.new.cells ≡ all_cells = c.fill_masks.ensures.after in
    ap is_ok (c.open.ensures.value ∙ ap opening_answer whole ∙ opening_all)

-- three new logs keep nothing, and a new reader has read nothing
pub run-requires : goal.run-requires
run-requires c = (
  record { tenths = []; probes = [] },
  [],
  record {
    keeps = record { cold = c.roll-cold.ensures; hot = c.roll-hot.ensures; probes = c.roll-probes.ensures };
    read = c.new-line.ensures;
  },
)
