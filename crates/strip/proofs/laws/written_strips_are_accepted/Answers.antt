use Rattle.strip.proofs.Corresponds.{written_strips}
use Rattle.strip.proofs.laws.written_strips_are_accepted.Goals as goal

pub returns : goal.returns
returns g c = written_strips g.met.K.Reading.orders (g.S.Answerer.seats c.args.answerer.now) (g.met.S.Answerer.firsts c.args.answerer.now)
