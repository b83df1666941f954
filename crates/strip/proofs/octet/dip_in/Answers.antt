use Rattle.std.proofs.Common.{◌∙◌}
use Rattle.strip.proofs.Octets.{dip_right}
use Rattle.strip.proofs.octet.dip_in.Goals as goal

pub returns : goal.returns
returns c = let right = dip_right c.args.dips.now c.args.byte c.requires c.ranges.byte.fits in rw c.from.ensures at c.from-2.ensures ∙ right
