-- What opening a strip and asking it answer.
-- Assumes nothing.
use Rattle.std.specs.Prelude.{ℕ, ◌+◌, ◌-◌, ◌*◌, Bool, true, false, cond, not, List, [], ◌∷◌, length, is_ok, Some, None, Ok, Err, Option, Result, ◌==◌, nat_lt}
use Rattle.firing_log.specs.Strip.{bit_bytes}
use Rattle.strip.specs.Bits.{bits_from, count_of, strip_bits, height_after}
use Rattle.strip.specs.declared.fault.StripFault.{StripFault}
use Rattle.strip.specs.declared.fault.StripFault.TheVariants.{TooFewBytes, TooManyReadings, WrongLength, Unbalanced, Filling}

-- the number of a refusal
abbrev pub strip_code : StripFault → ℕ
strip_code TooFewBytes = 18
strip_code TooManyReadings = 19
strip_code WrongLength = 20
strip_code Unbalanced = 21
strip_code Filling = 22

abbrev pub grounded : Option ℕ → Bool
grounded None = false
grounded (Some h) = h == 0

abbrev pub all_zero : List Bool → Bool
all_zero [] = true
all_zero (true ∷ bits) = false
all_zero (false ∷ bits) = all_zero bits

-- the filling bits behind the last reading's
abbrev pub filling : List ℕ → List Bool
filling bytes = bits_from (8 * length bytes - (16 + 2 * count_of bytes)) (16 + 2 * count_of bytes) bytes

-- checks in order
abbrev pub opening_answer : List ℕ → Result (Unit {0}) StripFault
opening_answer bytes =
    cond (nat_lt (length bytes) 2) (Err TooFewBytes)
    (cond (nat_lt 32768 (count_of bytes)) (Err TooManyReadings)
    (cond (not (length bytes == 2 + bit_bytes (count_of bytes))) (Err WrongLength)
    (cond (not (grounded (height_after 0 (strip_bits bytes)))) (Err Unbalanced)
    (cond (not (all_zero (filling bytes))) (Err Filling) (Ok tt)))))

abbrev pub accepted : List ℕ → Bool
accepted bytes = is_ok (opening_answer bytes)

-- the bits from bit k on, up to the last reading's
abbrev pub rest_bits : List ℕ → ℕ → List Bool
rest_bits bytes k = bits_from (16 + 2 * count_of bytes - k) k bytes
