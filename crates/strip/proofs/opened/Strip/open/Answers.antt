use Rattle.std.proofs.Common.{sym}
use Rattle.std.proofs.lemmas.Result.{err_from_is_err_and}
use Rattle.strip.proofs.Strips.{strip_from_ok, ok_from_strip}
use Rattle.strip.proofs.opened.Strip.open.Goals as goal

pub returns-in_err-check-clause-exact : goal.returns-in_err-check-clause-exact
returns-in_err-check-clause-exact c =
    rw (err_from_is_err_and c.from_residual.result c.from_residual.ensures.1).1 (λ s. let ok = ok_from_strip c.args.bytes.now s in let refused = c.in_err-check.ensures in cc)

pub returns-clause-exact : goal.returns-clause-exact
returns-clause-exact c = strip_from_ok c.args.bytes.now (sym c.in_ok-check.ensures)
