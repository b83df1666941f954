use Rattle.std.proofs.Common.{take, arith, length-take}
use Rattle.shape.proofs.Blocks.{block_answered}
use Rattle.shape.proofs.block.first_coldest_of.Goals as goal

pub returns : goal.returns
returns g c =
    let answerer = c.args.answerer.now in
    let long = length-take 8 c.args.block.now in
    rw (c.first_coldest.ensures, c.shape_number.ensures)
    (block_answered g.met.K.Reading.orders (g.B.Answerer.seats answerer) (g.met.B.Answerer.firsts answerer) (take 8 c.args.block.now) c.args.from c.args.to
    (omega (arith, long)) (λ h. omega (arith, long)))
