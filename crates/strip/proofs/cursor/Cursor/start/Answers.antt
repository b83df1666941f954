use Rattle.strip.specs.Of.Strip.{strip_bytes}
use Rattle.strip.proofs.Cursors.{spot_start}
use Rattle.strip.proofs.Strips.{sound_strip, strip_grounded}
use Rattle.strip.proofs.cursor.Cursor.start.Goals as goal

pub invariant_of-result : goal.invariant_of-result
invariant_of-result c = record { spot = let bytes = strip_bytes c.args.strip.now in spot_start bytes (strip_grounded (sound_strip bytes c.args.strip.now.sound)) }
