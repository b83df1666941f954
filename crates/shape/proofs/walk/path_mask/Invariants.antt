use Rattle.std.proofs.Common.{◌-◌}
use Rattle.shape.proofs.Walks.{Walking, Walked}
use Rattle.shape.proofs.walk.path_mask.Given as goal

abbrev pub invariant-loop-rest : goal.invariant-loop-rest
invariant-loop-rest l = Walking l.number l.end l.place l.removed l.rest l.path

abbrev pub decreases-loop-rest : goal.decreases-loop-rest
decreases-loop-rest l = 8 - l.removed

abbrev pub invariant-loop-place : goal.invariant-loop-place
invariant-loop-place l = Walked l.number l.end l.place l.removed l.rest l.path
