use Rattle.std.proofs.Common.{ap, ◌∙◌, arith}
use Rattle.paths.specs.Number.{shape}
use Rattle.firing_log.proofs.Lists.{last_part}
use Rattle.firing_log.proofs.backed.Backed.last_number.Goals as goal

pub returns : goal.returns
returns g c =
    (omega arith, c.shape_number.ensures ∙ ap (shape g.K.Reading.colder) (last_part c.args.self.now.readings.now c.args.n (omega arith) (omega arith)))
