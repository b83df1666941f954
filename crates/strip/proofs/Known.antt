-- The known firings, computed from the definitions.
-- Assumes nothing.
use Rattle.std.proofs.Common.{refl}
use Rattle.paths.specs.Ballot.{ballot}
use Rattle.paths.specs.Cell.{moves_of, path_of, seat}
use Rattle.paths.specs.Path.{path, moves}
use Rattle.firing_log.specs.Strip.{strip}
use Rattle.strip.specs.Known.{KnownFirings}

pub known : KnownFirings
unfolding ballot moves_of path_of seat path moves strip
known = record {
  ballot_7_8 = refl;
  ballot_6_8 = refl;
  ballot_5_3 = refl;
  equal = refl;
  falling = refl;
  mixed = refl;
  mixed_number = refl;
  over_1_to_5 = refl;
  over_4_to_7 = refl;
  mask_at_7 = refl;
  begun = refl;
  going_on = refl;
  four = refl;
  four_replayed = refl;
  empty = refl;
  unbalanced = refl;
  wrong_filling = refl;
  wrong_length = refl;
}
