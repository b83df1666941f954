-- The text of a number, read byte by byte. Assumes nothing.
use Rattle.std.proofs.Common.{◌≡◌, ℕ, ◌+◌, ◌-◌, ◌^◌, ◌<◌, ◌≤◌, true, false, ltb, ◌⊎◌, List, [], ◌∷◌, length, get_or, take, drop, ℤ, pos, neg_ℤ, Some, None, sym, refl, ap, ◌∙◌, subst, inl, inr, add-one, arith, drop-cons, rules}
use Rattle.std.proofs.lemmas.List.{drop_all, take_all, length-drop}
use Rattle.std.proofs.lemmas.Str.Parse.{digit_from_value, numerals_by_value, digits_value_short}
use Rattle.std.proofs.lemmas.Bool.{cases_Bool, ltb-true, ltb-false}
use Rattle.std.specs.Str.Parse.{AllDigits}
use Rattle.std.specs.Int.{IsInRange}
use Rattle.console.specs.Grammar.{Number, SignedNumber, SignedNumber.plain, SignedNumber.minus}
use Rattle.console.specs.Numbers.{blank, extended}
use Rattle.console.specs.Numerals.{whole, NumberRead, SignedRead}
use Rattle.console.specs.declared.number.NumberSoFar.{NumberSoFar}
use Rattle.console.proofs.Rest.{More}
use Rattle.console.proofs.Steps.{more_digit, fewer_digit}
use Rattle.console.proofs.Lines.{number_to, number_from}

-- ---- digit by digit

-- the text writes just the numbers that the rest may make of n
abbrev pub Leads : List ℕ → NumberSoFar → List ℕ → Type 0
Leads text n rest = (v : ℕ) → (More n rest v → Number text v) × (Number text v → More n rest v)

pub leads_first : (text : List ℕ) → Leads text blank text
leads_first text v = (λ m. number_from m, λ h. number_to h)

module _ (text : List ℕ) (n : NumberSoFar) (i : ℕ) (leads : Leads text n (drop i text)) where
  module _ (within : i < length text) where
    byte_first : Leads text n (get_or text i 0 ∷ drop (i + 1) text)
    byte_first = subst (Leads text n) (rw add-one (drop-cons text i 0 within)) leads

    pub one_more : IsInRange 48 57 (get_or text i 0) → n.digits < 9 → Leads text (extended n (get_or text i 0 - 48)) (drop (i + 1) text)
    one_more digit room v = (
      λ m. (byte_first v).0 (fewer_digit n (get_or text i 0) (drop (i + 1) text) v digit room m),
      λ h. more_digit n (get_or text i 0) (drop (i + 1) text) v ((byte_first v).1 h),
    )

    pub no_more : (IsInRange 48 57 (get_or text i 0) → n.digits < 9 → ⊥) → NumberRead text None
    no_more never v h =
        let m = (byte_first v).1 h in
        never (digit_from_value (get_or text i 0) m.digits.0) (omega (arith, m.few))

  module _ (through : length text ≤ i) where
    nothing_left : Leads text n []
    nothing_left = subst (Leads text n) (drop_all i text through) leads

    some_digits : 0 < n.digits → NumberRead text (Some n.value)
    some_digits some = (
      (nothing_left n.value).0 (record { digits = tt; some = omega arith; few = omega arith; writes = refl }),
      λ m h. sym ((nothing_left m).1 h).writes,
    )

    no_digits : n.digits ≤ 0 → NumberRead text None
    no_digits none v h = omega (arith, ((nothing_left v).1 h).some)

    pub all_read : NumberRead text (whole n)
    all_read = go (cases_Bool (ltb 0 n.digits))
      where
        go : (ltb 0 n.digits ≡ true) ⊎ (ltb 0 n.digits ≡ false) → NumberRead text (whole n)
        go (inl some) = rw some (some_digits (ltb-true 0 n.digits some))
        go (inr none) = rw none (no_digits (ltb-false 0 n.digits none))

-- ---- a minus sign

-- nine digits write less than 10 ^ 9
pub number_below : (ds : List ℕ) (n : ℕ) → Number ds n → n < 10 ^ 9
number_below ds n h = omega (arith, digits_value_short (numerals_by_value (AllDigits 10) (search rules)) ds 9 h.digits.1 h.few, h.writes)

-- no digit is a minus sign
pub minus_first : (ds : List ℕ) (n : ℕ) → Number (45 ∷ ds) n → ⊥
minus_first ds n h = let digit = digit_from_value 45 h.digits.1.0 in omega (arith, digit)

minus_same : {ds es : List ℕ} {n : ℕ} → 45 ∷ ds ≡ 45 ∷ es → Number es n → Number ds n
minus_same {ds} {es} {n} e h = let same : es ≡ ds = cc in subst (λ bs. Number bs n) same h

-- a text that begins with a minus sign
pub behind_minus : (text : List ℕ) → 0 < length text → get_or text 0 0 ≡ 45 → 45 ∷ take (length text - 1) (drop 1 text) ≡ text
behind_minus text some first =
    let all : take (length text - 1) (drop 1 text) ≡ drop 1 text = take_all (length text - 1) (drop 1 text) (omega (arith, length-drop 1 text)) in
    ap (λ bs. 45 ∷ bs) all ∙ ap (λ b. b ∷ drop 1 text) (sym first) ∙ sym (drop-cons text 0 0 some)

-- what the digits behind a minus sign write says what the text does
pub signed_minus : (ds : List ℕ) (n : ℕ) → NumberRead ds (Some n) → SignedRead (45 ∷ ds) (Some (neg_ℤ (pos n)))
signed_minus ds n (h, only) = (minus ds n refl h refl, λ y other. go y other)
  where
    go : (y : ℤ) → SignedNumber (45 ∷ ds) y → y ≡ neg_ℤ (pos n)
    go y (plain m k e) = absurd (minus_first ds m k)
    go y (minus es m f k e) = e ∙ ap (λ i. neg_ℤ (pos i)) (only m (minus_same f k))

-- and so does the whole text where it has no minus sign in front
abbrev pub NoMinus : List ℕ → Type 0
NoMinus text = 0 < length text → get_or text 0 0 ≡ 45 → ⊥

not_minus : {text es : List ℕ} → NoMinus text → text ≡ 45 ∷ es → ⊥
not_minus front e = front (omega (arith, ap length e)) (ap (λ bs. get_or bs 0 0) e)

pub signed_plain : (text : List ℕ) (n : ℕ) → NoMinus text → NumberRead text (Some n) → SignedRead text (Some (pos n))
signed_plain text n front (h, only) = (plain n h refl, λ y other. go y other)
  where
    go : (y : ℤ) → SignedNumber text y → y ≡ pos n
    go y (plain m k e) = e ∙ ap pos (only m k)
    go y (minus es m f k e) = absurd (not_minus front f)
