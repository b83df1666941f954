use Rattle.std.proofs.Common.{Some, rules}
use Rattle.panel.proofs.Lines.{ends_rightly}
use Rattle.panel.proofs.bench.Bench.finish.Goals as goal

pub returns-then-has_bytes-clause-right : goal.returns-then-has_bytes-clause-right
returns-then-has_bytes-clause-right c = ends_rightly c.args.self.now (Some c.answer_line.result) c.answer_line.new.self (search rules)
