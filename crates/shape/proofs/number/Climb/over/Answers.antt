use Rattle.std.proofs.Common.{refl}
use Rattle.paths.specs.Path.{path, moves}
use Rattle.shape.proofs.number.Climb.over.Goals as goal

pub loop-place-init : goal.loop-place-init
unfolding path moves
loop-place-init g c = record { path_is = refl; column_is = refl; number_is = refl }
