use Rattle.std.proofs.Common.{arith}
use Rattle.strip.proofs.Cursors.{spot_few}
use Rattle.strip.proofs.Octets.{spot_byte}
use Rattle.strip.proofs.cursor.Cursor.past_byte.Goals as goal

pub overflow_add-result-3 : goal.overflow_add-result-3
overflow_add-result-3 c = omega (arith, spot_few c.args.self.now.spot c.args.self.now.strip.sound)

pub overflow_sub-result : goal.overflow_sub-result
overflow_sub-result c = omega (arith, (spot_byte c.args.self.now.spot c.requires.byte.0 c.requires.byte.1).enough)

pub invariant_of-result : goal.invariant_of-result
invariant_of-result c = rw c.ones_ahead-ones.ensures.ones (record { spot = (spot_byte c.args.self.now.spot c.requires.byte.0 c.requires.byte.1).spot })
