use Rattle.std.proofs.Common.{◌+◌, ◌-◌, ◌/◌, take, set, ap, ◌∙◌, arith}
use Rattle.paths.specs.Number.{shape}
use Rattle.firing_log.proofs.Blocks.{shape_bound}
use Rattle.firing_log.proofs.Lists.{last_with}
use Rattle.firing_log.proofs.backed.Backed.number_with.Goals as goal

pub returns : goal.returns
returns g c =
    let n = c.args.self.now.sheet.now.count in
    let xs = c.args.self.now.readings.now in
    let is = c.shape_number_with.ensures ∙ ap (shape g.K.Reading.colder) (last_with xs n c.args.reading (omega arith)) in
    record { number = is; bound = omega (arith, is, shape_bound g.K.Reading.colder ((n + 1 - 1) / 8) (take (n + 1) (set xs n c.args.reading))) }
