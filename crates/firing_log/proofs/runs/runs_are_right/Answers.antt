use Rattle.firing_log.proofs.Reached.{runs_right}
use Rattle.firing_log.proofs.runs.runs_are_right.Goals as goal

pub returns : goal.returns
returns g c = runs_right g.met.K.Reading.orders (g.met.S.Answerer.firsts c.args.answerer.now)
