-- A number so far stays small. Assumes nothing.
use Rattle.std.proofs.Common.{◌≡◌, ◌^◌, ◌<◌, ◌≤◌, true, leb, arith}
use native.Mathlib.Nat.{pow-le-pow_right}
use Rattle.std.proofs.lemmas.Bool.{leb-true, ltb-true, and_parts}
use Rattle.console.specs.Numbers.{Small, has_room}
use Rattle.console.specs.declared.number.NumberSoFar.{NumberSoFar}

-- the two facts that the test says: there are few digits, and they write less than a power of ten
pub few_digits : (n : NumberSoFar) → Small n → n.digits ≤ 9
few_digits n h = leb-true _ _ (and_parts (leb n.digits 9) _ h).0

pub under_power : (n : NumberSoFar) → Small n → n.value < 10 ^ n.digits
under_power n h = ltb-true _ _ (and_parts (leb n.digits 9) _ h).1

-- with room for a digit the value is below 10 ^ 8
pub with_room : (n : NumberSoFar) → Small n → has_room n ≡ true → n.value < 10 ^ 8
with_room n h room =
    let below : n.digits ≤ 8 = omega (arith, ltb-true n.digits 9 room) in
    let ten : 0 < 10 = omega arith in
    omega (arith, under_power n h, pow-le-pow_right ten below)
