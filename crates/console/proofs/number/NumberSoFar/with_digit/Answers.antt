use Rattle.std.proofs.Common.{arith}
use Rattle.console.proofs.Small.{with_room}
use Rattle.console.proofs.number.NumberSoFar.with_digit.Goals as goal

pub overflow_mul-result : goal.overflow_mul-result
overflow_mul-result c = omega (arith, with_room c.args.self c.requires.small c.requires.room)

pub overflow_add-result-2 : goal.overflow_add-result-2
overflow_add-result-2 c = omega (arith, with_room c.args.self c.requires.small c.requires.room)
