use Rattle.firing_log.proofs.Alike.{two_logs}
use Rattle.firing_log.proofs.runs.logs_agree.Goals as goal

pub returns : goal.returns
returns g c =
    two_logs g.met.K.Reading.orders g.met.L.Reading.orders (g.S.Answerer.seats c.args.answerer.now) (g.R.Answerer.seats c.args.other.now)
    (g.met.S.Answerer.firsts c.args.answerer.now) (g.met.R.Answerer.firsts c.args.other.now)
