-- What the right answer to a number's text is. Assumes nothing.
use Rattle.std.specs.Prelude.{◌≡◌, ℕ, cond, List, ℤ, Some, None, Option, nat_lt}
use Rattle.console.specs.Grammar.{Number, SignedNumber}
use Rattle.console.specs.declared.number.NumberSoFar.{NumberSoFar}

-- the number so far, if it has a digit
abbrev pub whole : NumberSoFar → Option ℕ
whole n = cond (nat_lt 0 n.digits) (Some n.value) None

-- the one number that the text writes, or nothing where it writes none
abbrev pub NumberRead : List ℕ → Option ℕ → Type 0
NumberRead text (Some n) = Number text n × ((m : ℕ) → Number text m → m ≡ n)
NumberRead text None = (n : ℕ) → Number text n → ⊥

-- the same of a number that may have a minus sign
abbrev pub SignedRead : List ℕ → Option ℤ → Type 0
SignedRead text (Some z) = SignedNumber text z × ((y : ℤ) → SignedNumber text y → y ≡ z)
SignedRead text None = (z : ℤ) → SignedNumber text z → ⊥
