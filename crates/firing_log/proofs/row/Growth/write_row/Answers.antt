use Rattle.std.proofs.Common.{◌≡◌, suc, ◌+◌, ◌-◌, ◌*◌, length, arith, length-take}
use Rattle.firing_log.specs.Of.{row_in}
use Rattle.firing_log.specs.Steps.{level}
use Rattle.firing_log.proofs.Rows.{row_written}
use Rattle.firing_log.proofs.row.Growth.write_row.Goals as goal

pub returns-in-Some : goal.returns-in-Some
returns-in-Some c =
    let all : c.top_level.result + 1 ≡ suc (level (c.args.block + 1)) = omega (arith, c.top_level.ensures.level) in
    let row = row_in c.args.block c.in-Some.row in
    rw (c.in-Some.is, c.copy_from_slice.ensures.after, all)
    (row_written c.args.entries.now (13 * c.args.block) (13 * c.args.block + length row - 13 * c.args.block) (13 * c.args.block + 0) row
    (omega arith) (omega arith) (omega (arith, length-take (suc (level (c.args.block + 1))) c.in-Some.row, all, c.top_level.ensures.few)))
