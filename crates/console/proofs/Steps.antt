-- A byte leads from a state to one where just the rest may follow. Assumes nothing.
use Rattle.std.proofs.Common.{◌≡◌, ℕ, ◌+◌, ◌-◌, ◌*◌, ◌<◌, Bool, true, false, ◌&&◌, eqb, ltb, ◌⊎◌, List, [], ◌∷◌, ◌++◌, Ok, sym, refl, ap, ◌∙◌, subst, inl, inr, arith}
use Rattle.std.proofs.lemmas.Bool.Decides.{nat_tests}
use Rattle.std.proofs.lemmas.Bool.{cases_Bool, and_parts, eqb-true, ltb-true, false≢true}
use Rattle.std.proofs.lemmas.Str.Parse.{digit_from_value}
use Rattle.std.specs.Str.Parse.{digits_value_after}
use Rattle.std.specs.Char.{is_ascii_digit, digit_value as digitValue}
use Rattle.std.specs.Int.{IsInRange}
use Rattle.console.specs.Numbers.{blank, is_blank_number, has_room, negated, extended}
use Rattle.console.specs.States.{next, two_numbers}
use Rattle.console.specs.declared.command.Command.{Command}
use Rattle.console.specs.declared.number.NumberSoFar.{NumberSoFar}
use Rattle.console.specs.declared.state.Letter.{Letter}
use Rattle.console.specs.declared.state.State.{State}
use Rattle.console.specs.declared.state.State.TheVariants.{First, Second, Refused}
use Rattle.console.proofs.Rest.{More, MoreSigned, MoreSigned.digits_only, MoreSigned.sign_first, AfterFirst, AfterFirst.one, AfterFirst.two, InFirst, Rest}

-- ---- the tests of a byte

digit_value : (b : ℕ) → IsInRange 48 57 b → digitValue b ≡ b - 48
digit_value b h = grind (arith, nat_tests)

is_digit : (b : ℕ) → is_ascii_digit b ≡ true → IsInRange 48 57 b
is_digit b h = grind (arith, nat_tests)

-- ---- digits

pub more_digit : (n : NumberSoFar) (b : ℕ) (ds : List ℕ) (v : ℕ) → More n (b ∷ ds) v → More (extended n (b - 48)) ds v
more_digit n b ds v m = record {
  digits = m.digits.1;
  some = omega arith;
  few = omega (arith, m.few);
  writes = ap (λ x. digits_value_after 10 (n.value * 10 + x) ds) (sym (digit_value b (digit_from_value b m.digits.0))) ∙ m.writes;
}

pub fewer_digit : (n : NumberSoFar) (b : ℕ) (ds : List ℕ) (v : ℕ) → IsInRange 48 57 b → n.digits < 9 → More (extended n (b - 48)) ds v → More n (b ∷ ds) v
fewer_digit n b ds v digit room m =
    let is = digit_value b digit in
    record {
      digits = (omega (arith, is), m.digits);
      some = omega (arith, m.some);
      few = omega (arith, m.few);
      writes = ap (λ x. digits_value_after 10 (n.value * 10 + x) ds) is ∙ m.writes;
    }

-- the sign plays no part in what digits may follow
like_digits : {n k : NumberSoFar} {ds : List ℕ} {v : ℕ} → n.digits ≡ k.digits → n.value ≡ k.value → More n ds v → More k ds v
like_digits {k = k} {ds} e f m = record {
  digits = m.digits;
  some = omega (arith, m.some);
  few = omega (arith, m.few);
  writes = ap (λ x. digits_value_after 10 x ds) (sym f) ∙ m.writes;
}

-- ---- states

module _ (rest : List ℕ) (c : Command) where
  pub lead : {s t : State} → s ≡ t → Rest t rest c → Rest s rest c
  lead e x = subst (λ u. Rest u rest c) (sym e) x

  pub led : {s t : State} → s ≡ t → Rest s rest c → Rest t rest c
  led e x = subst (λ u. Rest u rest c) e x

  at_byte : (s : State) {b k : ℕ} → b ≡ k → Rest (next s k) rest c → Rest (next s b) rest c
  at_byte s e x = subst (λ k. Rest (next s k) rest c) (sym e) x

-- ---- where a byte leads to from the first number

abbrev Told : Bool → Type 0
Told t = (t ≡ true) ⊎ (t ≡ false)

module _ (l : Letter) (n : NumberSoFar) where
  after_minus : is_blank_number n ≡ true → next (First l n) 45 ≡ First l (negated n)
  after_minus h = rw h

  after_digit : (b : ℕ) → IsInRange 48 57 b → n.digits < 9 → next (First l n) b ≡ First l (extended n (b - 48))
  after_digit b digit room = grind (arith, nat_tests)

  after_space : 0 < n.digits → next (First l n) 32 ≡ Second l n blank
  after_space some = grind (arith, nat_tests)

  data Way (b : ℕ) : Type 0 where
    by_minus : b ≡ 45 → is_blank_number n ≡ true → Way b
    by_digit : IsInRange 48 57 b → n.digits < 9 → Way b
    by_space : b ≡ 32 → 0 < n.digits → Way b
    by_none : next (First l n) b ≡ Refused → Way b

  way : (b : ℕ) → Way b
  way b = go (cases_Bool (eqb b 45 && is_blank_number n)) (cases_Bool (is_ascii_digit b && has_room n)) (cases_Bool (eqb b 32 && ltb 0 n.digits))
    where
      go : Told (eqb b 45 && is_blank_number n) → Told (is_ascii_digit b && has_room n) → Told (eqb b 32 && ltb 0 n.digits) → Way b
      go (inl m) d s = by_minus (eqb-true b 45 (and_parts (eqb b 45) _ m).0) (and_parts (eqb b 45) _ m).1
      go (inr m) (inl d) s = by_digit (is_digit b (and_parts (is_ascii_digit b) _ d).0) (ltb-true n.digits 9 (and_parts (is_ascii_digit b) _ d).1)
      go (inr m) (inr d) (inl s) = by_space (eqb-true b 32 (and_parts (eqb b 32) _ s).0) (ltb-true 0 _ (and_parts (eqb b 32) _ s).1)
      go (inr m) (inr d) (inr s) = by_none (rw (m, d, s))

  module _ (b : ℕ) (rest : List ℕ) (c : Command) where
    -- the number ends before the byte
    first_ends : (v : ℕ) (minus : Bool) (back : List ℕ) → b ∷ rest ≡ back → MoreSigned n [] minus v → AfterFirst l minus v back c → Rest (next (First l n) b) rest c
    first_ends v minus back e (digits_only s m) (one none made) = cc
    first_ends v minus back e (digits_only s m) (two es w space more made) =
        let is_space : b ≡ 32 = cc in
        let same : es ≡ rest = cc in
        let two_made : two_numbers l n.minus n.value w ≡ Ok c = rw (← s, m.writes) made in
        at_byte rest c (First l n) is_space (lead rest c (after_space (omega (arith, m.some))) (w, subst (λ ds. More blank ds w) same more, two_made))
    first_ends v minus back e (sign_first es h none s m) after = cc

    -- the byte is one of the number
    first_goes_on : (v : ℕ) (minus : Bool) (front back : List ℕ) → rest ≡ front ++ back → MoreSigned n (b ∷ front) minus v → AfterFirst l minus v back c → Rest (next (First l n) b) rest c
    first_goes_on v minus front back e (digits_only s m) after =
        lead rest c (after_digit b (digit_from_value b m.digits.0) (omega (arith, m.few))) (record {
          front = front;
          back = back;
          sign = minus;
          size = v;
          parts = e;
          number = digits_only s (more_digit n b front v m);
          after = after;
        })
    first_goes_on v minus front back e (sign_first es h first s m) after =
        let is_minus : b ≡ 45 = cc in
        let same : es ≡ front = cc in
        at_byte rest c (First l n) is_minus (lead rest c (after_minus h) (record {
          front = front;
          back = back;
          sign = minus;
          size = v;
          parts = e;
          number = digits_only s (like_digits refl refl (subst (λ ds. More n ds v) same m));
          after = after;
        }))

    pub first_to : InFirst l n (b ∷ rest) c → Rest (next (First l n) b) rest c
    first_to x = go x.front x.parts x.number
      where
        go : (front : List ℕ) → b ∷ rest ≡ front ++ x.back → MoreSigned n front x.sign x.size → Rest (next (First l n) b) rest c
        go [] e m = first_ends x.size x.sign x.back e m x.after
        go (d ∷ ds) e m =
            let same : d ≡ b = cc in
            first_goes_on x.size x.sign ds x.back (cc) (subst (λ k. MoreSigned n (k ∷ ds) x.sign x.size) same m) x.after

    -- the byte stood before what follows in the state that it leads to
    put_before : (front back : List ℕ) (minus : Bool) (v : ℕ) → rest ≡ front ++ back → MoreSigned n (b ∷ front) minus v → AfterFirst l minus v back c → InFirst l n (b ∷ rest) c
    put_before front back minus v e number after =
        record { front = b ∷ front; back = back; sign = minus; size = v; parts = ap (λ bs. b ∷ bs) e; number = number; after = after }

    from_minus : b ≡ 45 → is_blank_number n ≡ true → InFirst l (negated n) rest c → InFirst l n (b ∷ rest) c
    from_minus e h x = go x.number
      where
        go : MoreSigned (negated n) x.front x.sign x.size → InFirst l n (b ∷ rest) c
        go (digits_only s m) =
            put_before x.front x.back x.sign x.size x.parts (sign_first x.front h (ap (λ k. k ∷ x.front) e) s (like_digits refl refl m)) x.after
        go (sign_first es impossible f s m) = absurd (false≢true impossible)

    from_digit : IsInRange 48 57 b → n.digits < 9 → InFirst l (extended n (b - 48)) rest c → InFirst l n (b ∷ rest) c
    from_digit digit room x = go x.number
      where
        go : MoreSigned (extended n (b - 48)) x.front x.sign x.size → InFirst l n (b ∷ rest) c
        go (digits_only s m) =
            put_before x.front x.back x.sign x.size x.parts (digits_only s (fewer_digit n b x.front x.size digit room m)) x.after
        go (sign_first es impossible f s m) = absurd (grind (arith, nat_tests))

    from_space : b ≡ 32 → 0 < n.digits → Rest (Second l n blank) rest c → InFirst l n (b ∷ rest) c
    from_space e some (w, more, made) = record {
      front = [];
      back = b ∷ rest;
      sign = n.minus;
      size = n.value;
      parts = refl;
      number = digits_only refl (record { digits = tt; some = omega arith; few = omega arith; writes = refl });
      after = two rest w (ap (λ k. k ∷ rest) e) more made;
    }

    pub first_from : Rest (next (First l n) b) rest c → InFirst l n (b ∷ rest) c
    first_from x = go (way b)
      where
        go : Way b → InFirst l n (b ∷ rest) c
        go (by_minus e h) = from_minus e h (led rest c (after_minus h) (subst (λ k. Rest (next (First l n) k) rest c) e x))
        go (by_digit digit room) = from_digit digit room (led rest c (after_digit b digit room) x)
        go (by_space e some) = from_space e some (led rest c (after_space some) (subst (λ k. Rest (next (First l n) k) rest c) e x))
        go (by_none e) = absurd (led rest c e x)

-- ---- the second number

module _ (l : Letter) (m n : NumberSoFar) (b : ℕ) (rest : List ℕ) (c : Command) where
  second_digit : IsInRange 48 57 b → n.digits < 9 → next (Second l m n) b ≡ Second l m (extended n (b - 48))
  second_digit digit room = grind (arith, nat_tests)

  pub second_to : Rest (Second l m n) (b ∷ rest) c → Rest (next (Second l m n) b) rest c
  second_to (w, more, made) =
      let digit = digit_from_value b more.digits.0 in
      lead rest c (second_digit digit (omega (arith, more.few))) (w, more_digit n b rest w more, made)

  pub second_from : Rest (next (Second l m n) b) rest c → Rest (Second l m n) (b ∷ rest) c
  second_from x = go (cases_Bool (is_ascii_digit b && has_room n))
    where
      go : Told (is_ascii_digit b && has_room n) → Rest (Second l m n) (b ∷ rest) c
      go (inl d) =
          let digit = is_digit b (and_parts (is_ascii_digit b) _ d).0 in
          let room = ltb-true n.digits 9 (and_parts (is_ascii_digit b) _ d).1 in
          let y : Rest (Second l m (extended n (b - 48))) rest c = led rest c (second_digit digit room) x in
          (y.0, fewer_digit n b rest y.0 digit room y.1, y.2)
      go (inr d) = let none : next (Second l m n) b ≡ Refused = rw d in absurd (led rest c none x)
