use Rattle.paths.proofs.Ranks.{ballot_rule}
use Rattle.shape.proofs.ballot.ballot_numbers_follow_their_rule.Goals as goal

pub returns : goal.returns
returns c = ballot_rule
