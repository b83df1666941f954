-- The mask table in words of eight cells.
-- Assumes nothing.
use Rattle.std.specs.Prelude.{◌≡◌, ℕ, ◌-◌, ◌*◌, ◌/◌, ◌%◌, ◌^◌, ◌<◌, List, slice_index}
use Rattle.paths.specs.Cell.{cell}

-- the byte of end j, counted from the most significant
abbrev pub byte_at : ℕ → ℕ → ℕ
byte_at word j = word / 2 ^ (56 - 8 * j) % 256

-- word t has the cells of number t
pub record RightWords (words : List ℕ) : Type 0 where
  pub bytes : (t j : ℕ) → t < 1430 → j < 8 → byte_at (slice_index words t) j ≡ cell t j
