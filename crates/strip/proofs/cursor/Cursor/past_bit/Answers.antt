use Rattle.std.proofs.Common.{sym, refl, inr, arith}
use Rattle.strip.proofs.Cursors.{spot_few, spot_more, spot_zero, spot_one}
use Rattle.strip.proofs.cursor.Cursor.past_bit.Goals as goal

pub overflow_add-result-then-bit : goal.overflow_add-result-then-bit
overflow_add-result-then-bit c = omega (arith, spot_few c.args.self.now.spot c.args.self.now.strip.sound)

pub invariant_of-result : goal.invariant_of-result
invariant_of-result c = record { spot = (spot_one c.args.self.now.spot (spot_more c.args.self.now.spot c.requires.more) (sym c.if-bit.ensures)).spot }

pub returns-then-bit-clause-place : goal.returns-then-bit-clause-place
returns-then-bit-clause-place c = inr (refl, (spot_one c.args.self.now.spot (spot_more c.args.self.now.spot c.requires.more) (sym c.if-bit.ensures)).depth)

pub overflow_sub-result : goal.overflow_sub-result
overflow_sub-result c = (spot_zero c.args.self.now.spot (spot_more c.args.self.now.spot c.requires.more) (sym c.if-bit.ensures)).some

pub invariant_of-result-2 : goal.invariant_of-result-2
invariant_of-result-2 c = record { spot = (spot_zero c.args.self.now.spot (spot_more c.args.self.now.spot c.requires.more) (sym c.if-bit.ensures)).spot }
