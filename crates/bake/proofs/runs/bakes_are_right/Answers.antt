use Rattle.bake.proofs.Rights.{bakes_right}
use Rattle.bake.proofs.runs.bakes_are_right.Goals as goal

pub returns : goal.returns
returns g c = bakes_right g.met.K.Reading.orders (g.met.S.Answerer.firsts c.args.answerer.now)
