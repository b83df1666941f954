use Rattle.std.proofs.Common.{arith}
use Rattle.strip.proofs.Cursors.{spot_few}
use Rattle.strip.proofs.Octets.{spot_byte, best_byte}
use Rattle.strip.proofs.cursor.Cursor.low_ahead.Goals as goal

pub overflow_add-result-2 : goal.overflow_add-result-2
overflow_add-result-2 c = omega (arith, spot_few c.args.self.now.spot c.args.self.now.strip.sound)

pub overflow_sub-result : goal.overflow_sub-result
overflow_sub-result c =
    let whole = spot_byte c.args.self.now.spot c.requires.byte.0 c.requires.byte.1 in
    let low = c.lowest-low.ensures in
    omega (arith, whole.depth c.lowest-low.result.last (omega (arith, low.least.to, c.requires.some)), low.depth)

pub returns : goal.returns
returns c =
    let low = c.lowest-low.ensures in
    rw (c.from.ensures, c.from-2.ensures, low.depth) (best_byte c.args.self.now.spot c.requires.byte.0 c.requires.byte.1 c.lowest-low.result.last c.requires.some low.least)
