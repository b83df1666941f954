use Rattle.std.proofs.Common.{length, ◌∙◌, arith}
use Rattle.reading.specs.Coldest.{places}
use Rattle.firing_log.proofs.Draws.{strip_put}
use Rattle.firing_log.proofs.strip.put_strip.Goals as goal

pub returns : goal.returns
returns g c =
    strip_put (places g.K.Reading.colder c.args.readings.now) (length c.args.readings.now) c.div_ceil.result c.copy_from_slice.new.self c.args.output.now c.draw.new.bits
    c.requires.few (omega (arith, c.div_ceil.ensures)) (c.copy_from_slice.ensures.after ∙ c.to_be_bytes.ensures) c.draw.ensures
