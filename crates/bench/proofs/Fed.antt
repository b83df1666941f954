-- What one byte more leaves.
-- Assumes nothing.
use Rattle.std.proofs.Common.{ℕ, [], ◌∷◌, ◌++◌, Some, None, Option}
use Rattle.panel.specs.Input.{TakesRightly}
use Rattle.panel.specs.Replies.{Reply}
use Rattle.panel.specs.declared.bench.Bench.{Bench}
use Rattle.bench.specs.Right.{RightSoFar}

pub fed : (before : Bench) (byte : ℕ) (reply : Option Reply) (after : Bench) → TakesRightly before byte reply after → RightSoFar before → RightSoFar after
fed before byte (Some reply) after takes (f, bs, stands) = let done = takes 2048 f bs stands in (done.1, [], done.4)
fed before byte None after takes (f, bs, stands) = (f, bs ++ (byte ∷ []), takes 2048 f bs stands)
