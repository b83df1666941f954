use Rattle.std.proofs.Common.{refl}
use Rattle.deck.proofs.Words.{words_right}
use Rattle.deck.proofs.masks.path.Goals as goal

pub byte_of-requires : goal.byte_of-requires
byte_of-requires c = words_right _ refl
