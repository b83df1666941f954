use Rattle.paths.proofs.Ranks.{ballot_rule}
use Rattle.shape.proofs.ballot.ballot_by_rule.Goals as goal

pub returns-in_err-new-clause-rule : goal.returns-in_err-new-clause-rule
returns-in_err-new-clause-rule c = ballot_rule

pub returns-clause-rule : goal.returns-clause-rule
returns-clause-rule c = ballot_rule
