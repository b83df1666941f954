use Rattle.std.proofs.Common.{◌+◌, arith}
use Rattle.firing_log.proofs.Levels.{few_levels}
use Rattle.firing_log.proofs.backed.Backed.entry.Goals as goal

pub overflow_add-block : goal.overflow_add-block
overflow_add-block g c = omega (arith, few_levels c.args.level (c.args.block + 1) c.requires.level (omega arith))

pub offset_bounds-self-block : goal.offset_bounds-self-block
offset_bounds-self-block g c = omega (arith, few_levels c.args.level (c.args.block + 1) c.requires.level (omega arith))

pub bounds-self-block : goal.bounds-self-block
bounds-self-block g c = omega (arith, few_levels c.args.level (c.args.block + 1) c.requires.level (omega arith))

pub overflow_shl-level : goal.overflow_shl-level
overflow_shl-level g c = omega (arith, few_levels c.args.level (c.args.block + 1) c.requires.level (omega arith))
