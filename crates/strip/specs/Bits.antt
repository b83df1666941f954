-- The bits of a strip, most significant first, and what makes bytes a strip.
-- Assumes nothing.
use Rattle.std.specs.Prelude.{◌≡◌, ℕ, zero, suc, ◌+◌, ◌-◌, ◌*◌, ◌/◌, ◌%◌, ◌^◌, ◌<◌, ◌≤◌, Bool, true, false, List, [], ◌∷◌, length, take, Some, None, Option, ◌==◌, slice_index}
use Rattle.paths.specs.Path.{depths}
use Rattle.firing_log.specs.Strip.{bit_bytes}

-- bit k of bytes
abbrev pub bit_at : List ℕ → ℕ → Bool
bit_at bytes k = slice_index bytes (k / 8) / 2 ^ (7 - k % 8) % 2 == 1

-- n bits from bit k on
abbrev pub bits_from : ℕ → ℕ → List ℕ → List Bool
bits_from zero k bytes = []
bits_from (suc n) k bytes = bit_at bytes k ∷ bits_from n (suc k) bytes

-- the 16-bit count in front
abbrev pub count_of : List ℕ → ℕ
count_of bytes = 256 * slice_index bytes 0 + slice_index bytes 1

-- the two bits of each reading behind it
abbrev pub strip_bits : List ℕ → List Bool
strip_bits bytes = bits_from (2 * count_of bytes) 16 bytes

abbrev pub ones : List Bool → ℕ
ones [] = 0
ones (true ∷ bits) = suc (ones bits)
ones (false ∷ bits) = ones bits

abbrev pub zeros : List Bool → ℕ
zeros [] = 0
zeros (true ∷ bits) = zeros bits
zeros (false ∷ bits) = suc (zeros bits)

-- n are ones, n are zeros, and no beginning has more zeros than ones
pub record Balanced (n : ℕ) (bits : List Bool) : Type 0 where
  pub all_ones : ones bits ≡ n
  pub all_zeros : zeros bits ≡ n
  pub beginnings : (k : ℕ) → zeros (take k bits) ≤ ones (take k bits)

-- how high the bits lead from a height, a one up and a zero down, unless they would lead below the ground
abbrev pub height_after : ℕ → List Bool → Option ℕ
height_after h [] = Some h
height_after h (true ∷ bits) = height_after (suc h) bits
height_after zero (false ∷ bits) = None
height_after (suc h) (false ∷ bits) = height_after h bits

-- the bytes are a strip
pub record IsStrip (bytes : List ℕ) : Type 0 where
  pub counted : 2 ≤ length bytes
  pub few : count_of bytes ≤ 32768
  pub long : length bytes ≡ 2 + bit_bytes (count_of bytes)
  pub balanced : Balanced (count_of bytes) (strip_bits bytes)
  pub filled : (k : ℕ) → 16 + 2 * count_of bytes ≤ k → k < 8 * length bytes → bit_at bytes k ≡ false

-- the depth of a place: ones minus zeros up to and including its one
abbrev pub depth_of : List ℕ → ℕ → ℕ
depth_of bytes p = slice_index (depths 0 (strip_bits bytes)) p

-- p is the last place of least depth from l to r
pub record LastLeast (depth : ℕ → ℕ) (l r p : ℕ) : Type 0 where
  pub from : l ≤ p
  pub to : p ≤ r
  pub least : (q : ℕ) → l ≤ q → q ≤ r → depth p ≤ depth q
  pub last : (q : ℕ) → p < q → q ≤ r → depth p < depth q
