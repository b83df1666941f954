use Rattle.std.proofs.Common.{sym, ap, ◌∙◌}
use Rattle.console.specs.States.{answer}
use Rattle.console.proofs.Lines.{answers}
use Rattle.console.proofs.reader.LineReader.finish.Goals as goal

pub returns-clause-reads : goal.returns-clause-reads
returns-clause-reads c bs read = answers bs c.answer.result (sym (c.answer.ensures ∙ ap answer read))
