use Rattle.std.proofs.Common.{take}
use Rattle.shape.specs.Climbs.{Climbs}
use Rattle.shape.proofs.number.Climb.over.Given as goal

abbrev pub invariant-loop-place : goal.invariant-loop-place
invariant-loop-place g l = Climbs g.K.Reading.colder (take l.place l.block) l.climb
