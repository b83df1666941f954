use Rattle.shape.proofs.Carried.{exact_numbers}
use Rattle.shape.proofs.block.numbers_are_exact.Goals as goal

pub returns : goal.returns
returns g c = exact_numbers g.met.K.Reading.orders
