use Rattle.firing_log.proofs.Grown.{one_log}
use Rattle.firing_log.proofs.runs.logs_keep_what_is_defined.Goals as goal

pub returns : goal.returns
returns g c = one_log g.met.K.Reading.orders (g.S.Answerer.seats c.args.answerer.now) (g.met.S.Answerer.firsts c.args.answerer.now)
