use Rattle.strip.proofs.OneToOne.{one_to_one}
use Rattle.strip.proofs.laws.strips_and_shapes_correspond.Goals as goal

pub returns : goal.returns
returns g c =
    one_to_one g.met.K.Reading.orders g.met.L.Reading.orders (g.S.Answerer.seats c.args.answerer.now) (g.R.Answerer.seats c.args.other.now)
    (g.met.S.Answerer.firsts c.args.answerer.now) (g.met.R.Answerer.firsts c.args.other.now)
