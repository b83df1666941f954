-- A number of a line while its digits come in. Assumes nothing.
use Rattle.std.specs.Prelude.{◌≡◌, ℕ, ◌+◌, ◌*◌, ◌^◌, Bool, true, false, cond, not, ◌&&◌, ℤ, pos, neg_ℤ, ◌==◌, nat_le, nat_lt}
use Rattle.console.specs.declared.number.NumberSoFar.{NumberSoFar}

-- at most nine digits have come, and the value is one that so many digits write
abbrev pub small : NumberSoFar → Bool
small n = nat_le n.digits 9 && nat_lt n.value (10 ^ n.digits)

abbrev pub Small : NumberSoFar → Type 0
Small n = small n ≡ true

abbrev pub blank : NumberSoFar
blank = record { minus = false; digits = 0; value = 0 }

abbrev pub is_blank_number : NumberSoFar → Bool
is_blank_number n = not n.minus && n.digits == 0

-- one digit more may come
abbrev pub has_room : NumberSoFar → Bool
has_room n = nat_lt n.digits 9

abbrev pub negated : NumberSoFar → NumberSoFar
negated n = record { minus = true; digits = n.digits; value = n.value }

abbrev pub extended : NumberSoFar → ℕ → NumberSoFar
extended n d = record { minus = n.minus; digits = n.digits + 1; value = n.value * 10 + d }

-- the value after a minus sign or none
abbrev pub signed_value : Bool → ℕ → ℤ
signed_value minus v = cond minus (neg_ℤ (pos v)) (pos v)
