use Rattle.std.proofs.Common.{◌≡◌, ℕ, ◌<◌, get_or}
use Rattle.shape.specs.Masks.{cell_at}
use Rattle.shape.proofs.mask_table.opening.fill_masks.Given as goal

abbrev pub invariant-loop-k : goal.invariant-loop-k
invariant-loop-k l = (i : ℕ) → i < l.k → get_or l.cells i 0 ≡ cell_at i
