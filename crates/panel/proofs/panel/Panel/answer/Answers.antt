use Rattle.std.proofs.Common.{rules}
use Rattle.panel.specs.Of.{logs_of}
use Rattle.panel.proofs.Rightly.{answered_rightly}
use Rattle.panel.proofs.panel.Panel.answer.Goals as goal

pub returns-clause-right : goal.returns-clause-right
returns-clause-right c =
    answered_rightly (logs_of c.args.self.now) c.args.asked c.obey.result (logs_of c.obey.new.self) (search rules) (search rules)
