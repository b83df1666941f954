use Rattle.strip.proofs.Octets.{low_right}
use Rattle.strip.proofs.octet.lowest_in.Goals as goal

pub returns : goal.returns
returns c =
    let low = low_right c.args.lows.now c.args.byte _ c.requires.right c.ranges.byte.fits c.requires.some in
    rw c.from.ensures (record { least = low.0; depth = low.1 })
