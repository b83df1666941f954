use Rattle.std.proofs.Common.{◌≡◌, ◌<◌, length, get_or, pos, neg_ℤ, Some, sym, subst, w32, SFits, rules}
use Rattle.std.proofs.lemmas.Int.{to_z-of_z}
use Rattle.console.specs.Numerals.{SignedRead}
use Rattle.console.proofs.Texts.{NoMinus, number_below, behind_minus, signed_minus, signed_plain}
use Rattle.console.proofs.numerals.read_signed.Goals as goal

pub signed-requires : goal.signed-requires
signed-requires c = number_below _ _ c.in_ok-size-in-45.ensures.0

pub signed-requires-in_default : goal.signed-requires-in_default
signed-requires-in_default c = number_below _ _ c.in_ok-size-in_default.ensures.0

pub returns-in_ok-size-in-45 : goal.returns-in_ok-size-in-45
returns-in_ok-size-in-45 c =
    let text = c.args.text.now in
    let some : 0 < length text = search rules in
    let first : get_or text 0 0 ≡ 45 = search rules in
    let fits : SFits w32 c.signed.result = search rules in
    let read : SignedRead text (Some c.signed.result) =
    subst (λ z. SignedRead text (Some z)) (sym c.signed.ensures)
    (subst (λ bs. SignedRead bs (Some (neg_ℤ (pos c.in_ok-size-in-45.size)))) (behind_minus text some first) (signed_minus _ _ c.in_ok-size-in-45.ensures)) in
    simp to_z-of_z read

pub returns-in_ok-size-in_default : goal.returns-in_ok-size-in_default
returns-in_ok-size-in_default c =
    let text = c.args.text.now in
    let front : NoMinus text = search rules in
    let fits : SFits w32 c.signed-in_default.result = search rules in
    let read : SignedRead text (Some c.signed-in_default.result) =
    subst (λ z. SignedRead text (Some z)) (sym c.signed-in_default.ensures) (signed_plain text _ front c.in_ok-size-in_default.ensures) in
    simp to_z-of_z read
