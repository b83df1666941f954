use Rattle.std.proofs.Common.{refl}
use Rattle.paths.specs.Ballot.{ballot}
use Rattle.shape.proofs.ballot.Square.entry.Goals as goal

pub looked_up-requires : goal.looked_up-requires
unfolding ballot
looked_up-requires c = refl
