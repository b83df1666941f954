-- A byte of a strip as a whole, and what is right about tables over all bytes, as one test over each whole table.
-- Assumes nothing.
use Rattle.std.specs.Prelude.{ℕ, suc, ◌-◌, Bool, true, false, ◌&&◌, ◌||◌, List, [], ◌∷◌, length, ◌==◌, nat_eq, nat_le, nat_lt, slice_index}
use Rattle.paths.specs.Path.{depths}
use Rattle.shape.specs.Table.{every}
use Rattle.strip.specs.Bits.{bits_from, ones}
use Rattle.strip.specs.declared.octet.Low.{Low}

-- its eight bits, most significant first
abbrev pub byte_bits : ℕ → List Bool
byte_bits b = bits_from 8 0 (b ∷ [])

-- how deep bits fall: the least height from which they do not lead below the ground
abbrev pub dip : List Bool → ℕ
dip [] = 0
dip (true ∷ bits) = dip bits - 1
dip (false ∷ bits) = suc (dip bits)

-- the depth of its one k, where the height before the byte is 8: no byte falls deeper
abbrev pub byte_depth : ℕ → ℕ → ℕ
byte_depth b k = slice_index (depths 8 (byte_bits b)) k

-- entry b is how deep byte b falls
abbrev pub right_dips : List ℕ → Bool
right_dips dips = length dips == 256 && every (λ b x. nat_eq x (dip (byte_bits b))) 0 dips

-- `least` is the least depth of the byte's ones, and `last` the last of that depth
abbrev pub right_low : ℕ → ℕ → ℕ → Bool
right_low b least last =
    nat_lt last (ones (byte_bits b)) && (least == byte_depth b last && every (λ k d. nat_le least d && (nat_le k last || nat_lt least d)) 0 (depths 8 (byte_bits b)))

-- entry b is right for byte b, unless that is 0, which has no ones
abbrev pub right_lows : List Low → Bool
right_lows lows = length lows == 256 && every (λ b low. (b == 0) || right_low b low.depth low.last) 0 lows
