use Rattle.std.proofs.Common.{◌+◌, arith}
use Rattle.firing_log.proofs.Levels.{few_levels, level_is}
use Rattle.firing_log.proofs.row.top_level.Goals as goal

pub returns : goal.returns
returns c = record {
  level = level_is (c.args.block + 1) c.ilog2.result (omega arith) (omega arith) c.ilog2.ensures.power_le c.ilog2.ensures.next_power_gt;
  few = few_levels c.ilog2.result (c.args.block + 1) c.ilog2.ensures.power_le (omega arith);
}
