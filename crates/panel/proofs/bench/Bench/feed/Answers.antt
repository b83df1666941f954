use Rattle.std.proofs.Common.{Some, rules}
use Rattle.panel.proofs.Lines.{takes_rightly}
use Rattle.panel.proofs.bench.Bench.feed.Goals as goal

pub returns-then-byte-eq-LINE_END-clause-right : goal.returns-then-byte-eq-LINE_END-clause-right
returns-then-byte-eq-LINE_END-clause-right c = takes_rightly c.args.self.now c.args.byte (Some c.answer_line.result) c.answer_line.new.self (search rules)
