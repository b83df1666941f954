use Rattle.std.proofs.Common.{◌≡◌, ℕ, ◌+◌, ◌*◌, ◌<◌, get_or}
use Rattle.shape.specs.Masks.{cell_at}
use Rattle.shape.proofs.mask_table.opening.check_cells.Given as goal

abbrev pub invariant-loop-number : goal.invariant-loop-number
invariant-loop-number l = (k : ℕ) → k < 8 * l.number → get_or l.cells k 0 ≡ cell_at k

abbrev pub invariant-loop-end : goal.invariant-loop-end
invariant-loop-end l = (k : ℕ) → k < 8 * l.number + l.end → get_or l.cells k 0 ≡ cell_at k
