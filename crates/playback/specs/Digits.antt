-- Bytes in hexadecimal of either case, as a text spells them. Assumes nothing.
use Rattle.std.specs.Prelude.{◌≡◌, ℕ, ◌+◌, ◌*◌, ◌/◌, ◌%◌, ◌<◌, ◌≤◌, cond, ◌⊎◌, List, length, Some, None, Option, nat_lt, slice_index}
use Rattle.arrayvec.specs.ArrayVec.{ArrayVec}
use Rattle.console.specs.Hex.{hex_digit}

-- the upper-case digit of a value below 16
abbrev pub upper_digit : ℕ → ℕ
upper_digit value = cond (nat_lt value 10) (48 + value) (55 + value)

-- the character is a digit of the value, in either case
abbrev pub Digit : ℕ → ℕ → Type 0
Digit character value = (value < 16) × ((hex_digit value ≡ character) ⊎ (upper_digit value ≡ character))

-- two characters are the digits of a byte, the one that counts more first
abbrev pub Digits : ℕ → ℕ → ℕ → Type 0
Digits high low byte = Digit high (byte / 16) × Digit low (byte % 16)

-- the text is two digits for each byte
pub record Spells (text bytes : List ℕ) : Type 0 where
  pub even : length text ≡ 2 * length bytes
  pub each : (k : ℕ) → k < length bytes → Digits (slice_index text (2 * k)) (slice_index text (2 * k + 1)) (slice_index bytes k)

-- the value of a digit, or that the character is none
abbrev pub DigitRead : ℕ → Option ℕ → Type 0
DigitRead character (Some value) = Digit character value
DigitRead character None = (value : ℕ) → Digit character value → ⊥

-- the byte of two digits, or that the two characters are none's
abbrev pub ByteRead : ℕ → ℕ → Option ℕ → Type 0
ByteRead high low (Some byte) = Digits high low byte
ByteRead high low None = (byte : ℕ) → Digits high low byte → ⊥

-- the bytes are what the text spells, or it spells none that have room
abbrev pub Decoded : List ℕ → ℕ → Option (ArrayVec ℕ) → Type 0
Decoded text room (Some bytes) = (length bytes.items ≤ room) × Spells text bytes.items
Decoded text room None = (spelled : List ℕ) → length spelled ≤ room → Spells text spelled → ⊥
