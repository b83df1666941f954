use Rattle.std.proofs.Common.{◌≡◌, ◌+◌, ◌*◌, List, length}
use Rattle.firing_log.specs.Of.{Stands, SameBelow}
use Rattle.firing_log.specs.Steps.{level}
use Rattle.firing_log.proofs.Rows.{Rising}
use Rattle.firing_log.proofs.backed.Backed.row_of.Given as goal

abbrev pub invariant-loop-level : goal.invariant-loop-level
invariant-loop-level g l =
    (length l.row ≡ 13)
    × ((rs : List g.row.K.Denot) → Stands rs l.initial.best → SameBelow (8 * l.block) l.self.readings.now rs
    → Rising g.K.Reading.colder l.self.entries.now l.block (level (l.block + 1)) l.level l.initial.best l.best l.row rs)
