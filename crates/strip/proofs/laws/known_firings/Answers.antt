use Rattle.strip.proofs.Known.{known}
use Rattle.strip.proofs.laws.known_firings.Goals as goal

pub returns : goal.returns
returns c = known
