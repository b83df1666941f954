use Rattle.std.proofs.Common.{◌+◌, ◌-◌, ◌*◌, Some, sym, ap, ◌∙◌, arith}
use Rattle.strip.specs.Octet.{byte_bits}
use Rattle.strip.proofs.Octets.{dip_lost, byte_kept}
use Rattle.strip.proofs.octet.moved_byte.Goals as goal

pub returns-then-height-dip_of : goal.returns-then-height-dip_of
returns-then-height-dip_of c = sym (dip_lost c.args.height (byte_bits c.args.byte) (omega (arith, c.dip_of.ensures, c.if-height-dip_of.true)))

pub overflow_sub-result : goal.overflow_sub-result
overflow_sub-result c = omega (arith, (byte_kept c.args.height c.args.byte (omega (arith, c.dip_of.ensures, c.if-height-dip_of.false))).enough, c.ones_in.ensures.ones)

pub returns : goal.returns
returns c =
    ap (λ n. Some (c.args.height + 2 * n - 8)) c.ones_in.ensures.ones
    ∙ sym (byte_kept c.args.height c.args.byte (omega (arith, c.dip_of.ensures, c.if-height-dip_of.false))).lead
