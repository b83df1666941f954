use Rattle.std.proofs.Common.{refl, arith}
use Rattle.std.proofs.lemmas.Result.{err_from_is_err_and}
use Rattle.firing_log.specs.Of.{state_behind}
use Rattle.firing_log.proofs.Founds.{across_left, across_right, across_both}
use Rattle.firing_log.proofs.Levels.{covering}
use Rattle.firing_log.proofs.backed.Backed.across.Goals as goal

pub returns-in_err-left : goal.returns-in_err-left
returns-in_err-left g c =
    let k = covering c.args.first_block c.args.last_block c.ilog2-level.result c.requires.apart (omega arith) c.ilog2-level.ensures.power_le c.ilog2-level.ensures.next_power_gt in
    let p = err_from_is_err_and c.from_residual.result c.from_residual.ensures.1 in
    rw (p.1, p.2) (across_left g.K.Reading.colder (state_behind c.args.self.now) c.args.first_block c.args.last_block c.ilog2-level.result _ c.args.first.place c.args.last.place
    k k.shifted c.in_err-left.field-0.0 c.in_err-left.ensures)

pub returns-in_err-right : goal.returns-in_err-right
returns-in_err-right g c =
    let k = covering c.args.first_block c.args.last_block c.ilog2-level.result c.requires.apart (omega arith) c.ilog2-level.ensures.power_le c.ilog2-level.ensures.next_power_gt in
    let p = err_from_is_err_and c.from_residual-in_err-right.result c.from_residual-in_err-right.ensures.1 in
    rw (p.1, p.2) (across_right g.K.Reading.colder (state_behind c.args.self.now) c.args.first_block c.args.last_block c.ilog2-level.result _ c.args.first.place c.args.last.place
    k k.shifted c.in_ok-left.left c.in_err-right.field-0.0 c.in_ok-left.ensures c.in_err-right.ensures)

pub returns : goal.returns
returns g c =
    let k = covering c.args.first_block c.args.last_block c.ilog2-level.result c.requires.apart (omega arith) c.ilog2-level.ensures.power_le c.ilog2-level.ensures.next_power_gt in
    across_both g.K.Reading.colder (state_behind c.args.self.now) c.args.first_block c.args.last_block c.ilog2-level.result _ c.args.first.place c.args.last.place
    k k.shifted c.args.first c.args.last c.in_ok-left.left c.in_ok-right.right
    (record { place = refl; holds = c.requires.first_stands }) (record { place = refl; holds = c.requires.last_stands })
    c.in_ok-left.ensures c.in_ok-right.ensures
    c.or_colder.result c.or_colder-2.result c.or_colder-3.result c.or_colder.ensures c.or_colder-2.ensures c.or_colder-3.ensures
