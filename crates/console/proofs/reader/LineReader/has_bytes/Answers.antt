use Rattle.std.proofs.Common.{ap, ◌∙◌}
use Rattle.console.specs.States.{begun}
use Rattle.console.proofs.Lines.{begun_by}
use Rattle.console.proofs.reader.LineReader.has_bytes.Goals as goal

pub returns-clause-reads : goal.returns-clause-reads
returns-clause-reads c bs read = c.has_begun.ensures ∙ ap begun read ∙ begun_by bs
