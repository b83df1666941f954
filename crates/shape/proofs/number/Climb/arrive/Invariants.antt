use Rattle.shape.proofs.Climbs.{Arriving}
use Rattle.shape.proofs.number.Climb.arrive.Given as goal

abbrev pub invariant-loop-self : goal.invariant-loop-self
invariant-loop-self g l = Arriving g.K.Reading.colder l.front l.reading l.self

abbrev pub decreases-loop-self : goal.decreases-loop-self
decreases-loop-self g l = l.self.path
