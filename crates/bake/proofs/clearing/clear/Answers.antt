use Rattle.std.proofs.Common.{rules}
use Rattle.firing_log.specs.View.{seen}
use Rattle.bake.proofs.Rights.{clear_right}
use Rattle.bake.proofs.clearing.clear.Goals as goal

pub returns-clause-reached : goal.returns-clause-reached
returns-clause-reached g c = clear_right g.met.K.Reading.orders (g.met.S.Answerer.firsts c.args.log.answerer.now) (seen c.args.log) c.args.window c.args.set (search rules)
