use Rattle.strip.proofs.Octets.{ones_counted}
use Rattle.strip.proofs.octet.ones_in.Goals as goal

pub returns-clause-ones : goal.returns-clause-ones
returns-clause-ones c = ones_counted c.args.byte c.ranges.byte.fits
