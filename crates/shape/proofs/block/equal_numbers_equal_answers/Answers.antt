use Rattle.shape.proofs.Blocks.{equal_numbers}
use Rattle.shape.proofs.block.equal_numbers_equal_answers.Goals as goal

pub returns : goal.returns
returns g c = equal_numbers g.met.K.Reading.orders g.met.L.Reading.orders
