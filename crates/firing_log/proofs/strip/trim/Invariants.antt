use Rattle.reading.specs.Coldest.{places}
use Rattle.firing_log.proofs.Draws.{Lowered}
use Rattle.firing_log.proofs.strip.trim.Given as goal

abbrev pub invariant-loop-height : goal.invariant-loop-height
invariant-loop-height g l = Lowered (places g.K.Reading.colder l.readings) l.place l.path l.height

abbrev pub decreases-loop-height : goal.decreases-loop-height
decreases-loop-height g l = l.height
