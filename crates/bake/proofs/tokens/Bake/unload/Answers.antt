use Rattle.firing_log.specs.View.{seen}
use Rattle.bake.proofs.Rights.{unload_right}
use Rattle.bake.proofs.tokens.Bake.unload.Goals as goal

pub returns-in-Ok-clause-reached : goal.returns-in-Ok-clause-reached
returns-in-Ok-clause-reached g c = unload_right g.met.K.Reading.orders (g.met.S.Answerer.firsts c.args.log.answerer.now) (seen c.args.log) c.args.self.start c.in-Ok.ensures

pub returns-in-Err-clause-reached : goal.returns-in-Err-clause-reached
returns-in-Err-clause-reached g c = unload_right g.met.K.Reading.orders (g.met.S.Answerer.firsts c.args.log.answerer.now) (seen c.args.log) c.args.self.start c.in-Err.ensures
