use Rattle.shape.proofs.Blocks.{cells_show_paths}
use Rattle.shape.proofs.block.cells_are_paths.Goals as goal

pub returns : goal.returns
returns g c = cells_show_paths g.K.Reading.colder
