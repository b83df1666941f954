-- Bytes in lower-case hexadecimal. Assumes nothing.
use Rattle.std.specs.Prelude.{ℕ, ◌+◌, ◌/◌, ◌%◌, cond, List, [], ◌∷◌, nat_lt}
use Rattle.std.specs.List.{flat_map}

-- the digit of a value below 16
abbrev pub hex_digit : ℕ → ℕ
hex_digit value = cond (nat_lt value 10) (48 + value) (87 + value)

-- a byte in two digits, the one that counts more first
abbrev pub byte_text : ℕ → List ℕ
byte_text byte = hex_digit (byte / 16) ∷ hex_digit (byte % 16) ∷ []

abbrev pub hex_text : List ℕ → List ℕ
hex_text bytes = flat_map byte_text bytes
