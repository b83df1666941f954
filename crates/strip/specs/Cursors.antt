-- The way along a strip's bits.
-- Assumes nothing.
use Rattle.std.specs.Prelude.{◌≡◌, ℕ, ◌+◌, ◌-◌, ◌*◌, ◌/◌, ◌<◌, ◌≤◌, ◌⊎◌, List, drop, Some, slice_index}
use Rattle.paths.specs.Path.{depths}
use Rattle.strip.specs.Bits.{count_of, strip_bits, height_after, ones, depth_of, LastLeast}
use Rattle.strip.specs.Octet.{byte_bits}
use Rattle.strip.specs.Outcomes.{rest_bits}
use Rattle.strip.specs.declared.cursor.Sounding.{Sounding}

-- bit `at` is between the one of place - 1 and that of place, at this height
pub record Spot (bytes : List ℕ) (place at height : ℕ) : Type 0 where
  pub start : 16 ≤ at
  pub within : at ≤ 16 + 2 * count_of bytes
  pub ground : height_after height (rest_bits bytes at) ≡ Some 0
  pub more : ones (rest_bits bytes at) + place ≡ count_of bytes
  pub ahead : drop place (depths 0 (strip_bits bytes)) ≡ depths height (rest_bits bytes at)

-- the place after one bit more: the same past a zero; the next past the one of place, and the height is its depth
abbrev pub PastBit : List ℕ → ℕ → ℕ → ℕ → Type 0
PastBit bytes place next height = (next ≡ place) ⊎ ((next ≡ place + 1) × (height ≡ depth_of bytes place))

-- the ones of the byte that bit `at` is in
abbrev pub ones_at : List ℕ → ℕ → ℕ
ones_at bytes at = ones (byte_bits (slice_index bytes (at / 8)))

-- of the places from l to before `place`, `best` is the last of least depth
pub record Best (bytes : List ℕ) (l place : ℕ) (best : Sounding) : Type 0 where
  pub some : l < place
  pub least : LastLeast (depth_of bytes) l (place - 1) best.place
  pub depth : best.depth ≡ depth_of bytes best.place

-- the best before `place` has become the best before `next`
abbrev pub BestKept : List ℕ → ℕ → Sounding → ℕ → Sounding → Type 0
BestKept bytes place best next better = (l : ℕ) → Best bytes l place best → Best bytes l next better
