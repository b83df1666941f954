use Rattle.std.proofs.Common.{◌+◌}
use Rattle.shape.proofs.ballot.Square.+stepped.Given as goal

abbrev pub decreases-stepped : goal.decreases-stepped
decreases-stepped l = l.self.p + l.self.q
