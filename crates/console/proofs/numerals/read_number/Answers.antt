use Rattle.std.proofs.Common.{◌≡◌, ◌+◌, true, false, drop, sym, subst, arith, rules}
use Rattle.std.proofs.lemmas.Bool.{ltb-true, ltb-false}
use Rattle.console.specs.Numbers.{has_room}
use Rattle.console.specs.Numerals.{NumberRead}
use Rattle.console.proofs.Texts.{Leads, one_more, no_more, all_read}
use Rattle.console.proofs.numerals.read_number.Goals as goal

pub returns-in_default : goal.returns-in_default
returns-in_default c = no_more c.args.text.now c.loop-byte.number c.loop-byte.byte-index c.loop-byte.invariant.1 (omega arith) (λ digit room. omega arith)

pub returns-in_default-2 : goal.returns-in_default-2
returns-in_default-2 c =
    let full : has_room c.loop-byte.number ≡ false = search rules in
    no_more c.args.text.now c.loop-byte.number c.loop-byte.byte-index c.loop-byte.invariant.1 (omega arith) (λ digit room. omega (arith, ltb-false _ 9 full))

pub returns-in_default-3 : goal.returns-in_default-3
returns-in_default-3 c = no_more c.args.text.now c.loop-byte.number c.loop-byte.byte-index c.loop-byte.invariant.1 (omega arith) (λ digit room. omega arith)

pub loop-byte-preserved : goal.loop-byte-preserved
loop-byte-preserved c =
    let room : has_room c.loop-byte.number ≡ true = search rules in (
      c.with_digit-number.ensures.small,
      subst (λ n. Leads c.args.text.now n (drop (c.loop-byte.byte-index + 1) c.args.text.now)) (sym c.with_digit-number.ensures.value)
          (one_more c.args.text.now c.loop-byte.number c.loop-byte.byte-index c.loop-byte.invariant.1 (omega arith) (omega arith, omega arith) (ltb-true _ 9 room)),
    )

pub returns : goal.returns
returns c =
    subst (NumberRead c.args.text.now) (sym c.whole.ensures)
    (all_read c.args.text.now c.loop-byte.number c.loop-byte.byte-index c.loop-byte.invariant.1 (omega arith))
