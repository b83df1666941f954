use Rattle.strip.proofs.Corresponds.{replays_back}
use Rattle.strip.proofs.laws.accepted_strips_are_of_logs.Goals as goal

pub returns : goal.returns
returns g c = replays_back (g.S.Answerer.seats c.args.answerer.now) (g.met.S.Answerer.firsts c.args.answerer.now)
