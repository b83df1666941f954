-- The reader's answer to a line is right. Assumes nothing.
use Rattle.std.proofs.Common.{◌≡◌, ℕ, ◌≤◌, Bool, true, false, cond, eqb, ltb, ◌⊎◌, List, [], ◌∷◌, ◌++◌, length, ℤ, Ok, Err, fold, Result, sym, refl, ap, ◌∙◌, subst, inl, inr, append-nil, arith, length-append}
use Rattle.std.proofs.lemmas.Bool.{cases_eq, cases_Bool, ltb-true, lt-ltb, ne_eqb, false≢true}
use Rattle.console.specs.Grammar.{Number, SignedNumber, SignedNumber.plain, SignedNumber.minus, Line, Answers}
use Rattle.console.specs.Numbers.{blank, signed_value}
use Rattle.console.specs.States.{named, next, after_all, begun, no_number, one_number, two_numbers, answer}
use Rattle.console.specs.declared.command.Command.{Command}
use Rattle.console.specs.declared.command.Command.TheVariants.{Append, AppendProbe, Cut, Coldest, Hottest, Weakest, Strip}
use Rattle.console.specs.declared.command.Malformed.{Malformed}
use Rattle.console.specs.declared.number.NumberSoFar.{NumberSoFar}
use Rattle.console.specs.declared.state.Letter.{Letter}
use Rattle.console.specs.declared.state.Letter.TheVariants.{A, C, H, P, Q, S, W}
use Rattle.console.specs.declared.state.State.{State}
use Rattle.console.specs.declared.state.State.TheVariants.{Start, Named, First, Second, Refused}
use Rattle.console.proofs.Rest.{More, MoreSigned, MoreSigned.digits_only, MoreSigned.sign_first, AfterFirst, AfterFirst.one, AfterFirst.two, InFirst, AfterLetter, AfterLetter.alone, AfterLetter.numbers, Rest}
use Rattle.console.proofs.Steps.{lead, led, first_to, first_from, second_to, second_from}

-- ---- answers

ok_same : {c d : Command} → ◌≡◌ {A = Result Command Malformed} (Ok c) (Ok d) → c ≡ d
ok_same e = cc

-- ---- numbers that nothing of has come yet

pub number_to : {ds : List ℕ} {n : ℕ} → Number ds n → More blank ds n
number_to h = record { digits = h.digits.1; some = omega (arith, h.digits.0); few = omega (arith, h.few); writes = h.writes }

pub number_from : {ds : List ℕ} {n : ℕ} → More blank ds n → Number ds n
number_from m = record { digits = (omega (arith, m.some), m.digits); few = omega (arith, m.few); writes = m.writes }

signed_to : (ds : List ℕ) (z : ℤ) → SignedNumber ds z → (minus : Bool) × (v : ℕ) × MoreSigned blank ds minus v × (signed_value minus v ≡ z)
signed_to ds z (plain n h e) = (false, n, digits_only refl (number_to h), sym e)
signed_to ds z (minus es n f h e) = (true, n, sign_first es refl f refl (number_to h), sym e)

signed_from : (ds : List ℕ) (negative : Bool) (v : ℕ) → MoreSigned blank ds negative v → SignedNumber ds (signed_value negative v)
signed_from ds negative v (digits_only s m) = plain v (number_from m) (rw s)
signed_from ds negative v (sign_first es h f s m) = minus es v f (number_from m) (rw s)

plain_from : (ds : List ℕ) (v : ℕ) → MoreSigned blank ds false v → Number ds v
plain_from ds v (digits_only s m) = number_from m
plain_from ds v (sign_first es h f s m) = absurd (false≢true s)

-- ---- the letters

abbrev code : Letter → ℕ
code A = 65
code C = 67
code H = 72
code P = 80
code Q = 81
code S = 83
code W = 87

named_code : (l : Letter) → named (code l) ≡ Named l
named_code A = refl
named_code C = refl
named_code H = refl
named_code P = refl
named_code Q = refl
named_code S = refl
named_code W = refl

-- b is the code of a letter, or else s refuses it
abbrev LetterOrRefused : ℕ → State → Type 0
LetterOrRefused b s = ((l : Letter) × (b ≡ code l)) ⊎ (s ≡ Refused)

or_else : (b : ℕ) (l : Letter) (s : State) → LetterOrRefused b s → LetterOrRefused b (cond (eqb b (code l)) (Named l) s)
or_else b l s (inl found) = inl found
or_else b l s (inr refused) = elim (cases_eq b (code l)) [ inl e ↦ inl (l, e) | inr other ↦ inr (rw (ne_eqb b (code l) other) refused) ]

named_ways : (b : ℕ) → LetterOrRefused b (named b)
named_ways b = or_else b A _ (or_else b C _ (or_else b H _ (or_else b P _ (or_else b Q _ (or_else b S _ (or_else b W _ (inr refl)))))))

-- ---- a line of the grammar, by its letter

-- a letter, and what may follow it
abbrev Lettered : List ℕ → Command → Type 0
Lettered bs c = (l : Letter) × (rest : List ℕ) × (bs ≡ code l ∷ rest) × AfterLetter l rest c

one_in : {l : Letter} {ds : List ℕ} {negative : Bool} {v : ℕ} {c : Command} → MoreSigned blank ds negative v → one_number l negative v ≡ Ok c → AfterLetter l (32 ∷ ds) c
one_in {ds = ds} {negative} {v} m e =
    numbers ds refl (record { front = ds; back = []; sign = negative; size = v; parts = sym (append-nil ds); number = m; after = one refl e })

two_in : {l : Letter} {ds : List ℕ} {negative : Bool} {v : ℕ} {es : List ℕ} {w : ℕ} {c : Command} → MoreSigned blank ds negative v → Number es w → two_numbers l negative v w ≡ Ok c → AfterLetter l (32 ∷ (ds ++ (32 ∷ es))) c
two_in {ds = ds} {negative} {v} {es} {w} m h e =
    numbers (ds ++ (32 ∷ es)) refl (record { front = ds; back = 32 ∷ es; sign = negative; size = v; parts = refl; number = m; after = two es w refl (number_to h) e })

line_to : (bs : List ℕ) (c : Command) → Line bs c → Lettered bs c
line_to bs (Append z) (ds, e, h) = let (negative, v, m, s) = signed_to ds z h in (A, 32 ∷ ds, e, one_in m (ap (λ x. Ok (Append x)) s))
line_to bs (AppendProbe z n) (ds, es, e, h, k) = let (negative, v, m, s) = signed_to ds z h in (P, 32 ∷ (ds ++ (32 ∷ es)), e, two_in m k (ap (λ x. Ok (AppendProbe x n)) s))
line_to bs (Cut n) (ds, e, h) = (C, 32 ∷ ds, e, one_in (digits_only refl (number_to h)) refl)
line_to bs (Coldest m n) (ds, es, e, h, k) = (Q, 32 ∷ (ds ++ (32 ∷ es)), e, two_in (digits_only refl (number_to h)) k refl)
line_to bs (Hottest m n) (ds, es, e, h, k) = (H, 32 ∷ (ds ++ (32 ∷ es)), e, two_in (digits_only refl (number_to h)) k refl)
line_to bs (Weakest m n) (ds, es, e, h, k) = (W, 32 ∷ (ds ++ (32 ∷ es)), e, two_in (digits_only refl (number_to h)) k refl)
line_to bs Strip e = (S, [], e, alone refl refl)

alone_from : (l : Letter) (c : Command) → no_number l ≡ Ok c → Line (code l ∷ []) c
alone_from A c e = cc
alone_from C c e = cc
alone_from H c e = cc
alone_from P c e = cc
alone_from Q c e = cc
alone_from S c e = subst (Line (83 ∷ [])) (ok_same e) refl
alone_from W c e = cc

one_from : (l : Letter) (ds : List ℕ) (negative : Bool) (v : ℕ) (c : Command) → MoreSigned blank ds negative v → one_number l negative v ≡ Ok c → Line (code l ∷ (32 ∷ ds)) c
one_from A ds negative v c m e = subst (Line (65 ∷ (32 ∷ ds))) (ok_same e) (ds, refl, signed_from ds negative v m)
one_from C ds true v c m e = cc
one_from C ds false v c m e = subst (Line (67 ∷ (32 ∷ ds))) (ok_same e) (ds, refl, plain_from ds v m)
one_from H ds negative v c m e = cc
one_from P ds negative v c m e = cc
one_from Q ds negative v c m e = cc
one_from S ds negative v c m e = cc
one_from W ds negative v c m e = cc

two_from : (l : Letter) (ds es : List ℕ) (negative : Bool) (v w : ℕ) (c : Command) → MoreSigned blank ds negative v → Number es w → two_numbers l negative v w ≡ Ok c → Line (code l ∷ (32 ∷ (ds ++ (32 ∷ es)))) c
two_from A ds es negative v w c m k e = cc
two_from C ds es negative v w c m k e = cc
two_from H ds es true v w c m k e = cc
two_from H ds es false v w c m k e = subst (Line _) (ok_same e) (ds, es, refl, plain_from ds v m, k)
two_from P ds es negative v w c m k e = subst (Line _) (ok_same e) (ds, es, refl, signed_from ds negative v m, k)
two_from Q ds es true v w c m k e = cc
two_from Q ds es false v w c m k e = subst (Line _) (ok_same e) (ds, es, refl, plain_from ds v m, k)
two_from S ds es negative v w c m k e = cc
two_from W ds es true v w c m k e = cc
two_from W ds es false v w c m k e = subst (Line _) (ok_same e) (ds, es, refl, plain_from ds v m, k)

numbers_from : (l : Letter) (ds : List ℕ) (c : Command) → InFirst l blank ds c → Line (code l ∷ (32 ∷ ds)) c
numbers_from l ds c x = go x.after
  where
    go : AfterFirst l x.sign x.size x.back c → Line (code l ∷ (32 ∷ ds)) c
    go (one none made) =
        let same : x.front ≡ ds = sym (append-nil x.front) ∙ ap (λ bs. x.front ++ bs) (sym none) ∙ sym x.parts in
        one_from l ds x.sign x.size c (subst (λ bs. MoreSigned blank bs x.sign x.size) same x.number) made
    go (two es w space more made) =
        let same : x.front ++ (32 ∷ es) ≡ ds = ap (λ bs. x.front ++ bs) (sym space) ∙ sym x.parts in
        subst (λ bs. Line (code l ∷ (32 ∷ bs)) c) same (two_from l x.front es x.sign x.size w c x.number (number_from more) made)

line_from : (l : Letter) (rest : List ℕ) (c : Command) → AfterLetter l rest c → Line (code l ∷ rest) c
line_from l rest c (alone none made) = subst (λ bs. Line (code l ∷ bs) c) (sym none) (alone_from l c made)
line_from l rest c (numbers ds e x) = subst (λ bs. Line (code l ∷ bs) c) (sym e) (numbers_from l ds c x)

-- ---- a byte more

module _ (b : ℕ) (rest : List ℕ) (c : Command) where
  start_to : Line (b ∷ rest) c → Rest (named b) rest c
  start_to line =
      let (l, after, e, x) = line_to (b ∷ rest) c line in
      let letter : b ≡ code l = cc in
      let same : after ≡ rest = cc in
      lead rest c (ap named letter ∙ named_code l) (subst (λ bs. AfterLetter l bs c) same x)

  start_from : Rest (named b) rest c → Line (b ∷ rest) c
  start_from x = go (named_ways b)
    where
      go : LetterOrRefused b (named b) → Line (b ∷ rest) c
      go (inl (l, e)) = subst (λ k. Line (k ∷ rest) c) (sym e) (line_from l rest c (led rest c (ap named e ∙ named_code l) x))
      go (inr e) = absurd (led rest c e x)

  named_to : (l : Letter) → AfterLetter l (b ∷ rest) c → Rest (next (Named l) b) rest c
  named_to l (alone none made) = cc
  named_to l (numbers ds e x) =
      let space : b ≡ 32 = cc in
      let same : ds ≡ rest = cc in
      lead rest c (ap (next (Named l)) space) (subst (λ bs. InFirst l blank bs c) same x)

  named_from : (l : Letter) → Rest (next (Named l) b) rest c → AfterLetter l (b ∷ rest) c
  named_from l x = go (cases_eq b 32)
    where
      go : (b ≡ 32) ⊎ (b ≡ 32 → ⊥) → AfterLetter l (b ∷ rest) c
      go (inl e) = numbers rest (ap (λ k. k ∷ rest) e) (led rest c (ap (next (Named l)) e) x)
      go (inr other) = let none : next (Named l) b ≡ Refused = rw (ne_eqb b 32 other) in absurd (led rest c none x)

  step_to : (s : State) → Rest s (b ∷ rest) c → Rest (next s b) rest c
  step_to Start x = start_to x
  step_to (Named l) x = named_to l x
  step_to (First l n) x = first_to l n b rest c x
  step_to (Second l m n) x = second_to l m n b rest c x
  step_to Refused x = x

  step_from : (s : State) → Rest (next s b) rest c → Rest s (b ∷ rest) c
  step_from Start x = start_from x
  step_from (Named l) x = named_from l x
  step_from (First l n) x = first_from l n b rest c x
  step_from (Second l m n) x = second_from l m n b rest c x
  step_from Refused x = x

-- ---- the end of a line

first_end_to : (l : Letter) (n : NumberSoFar) (c : Command) → InFirst l n [] c → answer (First l n) ≡ Ok c
first_end_to l n c x = go x.front x.back x.parts x.number x.after
  where
    go : (front back : List ℕ) → [] ≡ front ++ back → MoreSigned n front x.sign x.size → AfterFirst l x.sign x.size back c → answer (First l n) ≡ Ok c
    go (d ∷ ds) back e m after = cc
    go [] back e (sign_first es h f s m) after = cc
    go [] back e (digits_only s m) (two es w space more made) = cc
    go [] back e (digits_only s m) (one none made) = rw (lt-ltb 0 n.digits (omega (arith, m.some)), ← s, m.writes) made

first_end_from : (l : Letter) (n : NumberSoFar) (c : Command) → answer (First l n) ≡ Ok c → InFirst l n [] c
first_end_from l n c e = go (cases_Bool (ltb 0 n.digits))
  where
    go : ((ltb 0 n.digits ≡ true) ⊎ (ltb 0 n.digits ≡ false)) → InFirst l n [] c
    go (inl some) = record {
      front = [];
      back = [];
      sign = n.minus;
      size = n.value;
      parts = refl;
      number = digits_only refl (record { digits = tt; some = omega (arith, ltb-true 0 n.digits some); few = omega arith; writes = refl });
      after = one refl (rw some at e);
    }
    go (inr none) = cc (rw none at e)

second_end_from : (l : Letter) (m n : NumberSoFar) (c : Command) → answer (Second l m n) ≡ Ok c → Rest (Second l m n) [] c
second_end_from l m n c e = go (cases_Bool (ltb 0 n.digits))
  where
    go : ((ltb 0 n.digits ≡ true) ⊎ (ltb 0 n.digits ≡ false)) → Rest (Second l m n) [] c
    go (inl some) = (n.value, record { digits = tt; some = omega (arith, ltb-true 0 n.digits some); few = omega arith; writes = refl }, rw some at e)
    go (inr none) = cc (rw none at e)

end_to : (s : State) (c : Command) → Rest s [] c → answer s ≡ Ok c
end_to Start c line = cc ((line_to [] c line).2)
end_to (Named l) c (alone none made) = made
end_to (Named l) c (numbers ds e x) = cc
end_to (First l n) c x = first_end_to l n c x
end_to (Second l m n) c (w, more, made) = rw (lt-ltb 0 n.digits (omega (arith, more.some)), more.writes) made
end_to Refused c x = absurd x

end_from : (s : State) (c : Command) → answer s ≡ Ok c → Rest s [] c
end_from Start c e = cc
end_from (Named l) c e = alone refl e
end_from (First l n) c e = first_end_from l n c e
end_from (Second l m n) c e = second_end_from l m n c e
end_from Refused c e = cc

-- ---- whole lines

run_to : (bs : List ℕ) (s : State) (c : Command) → Rest s bs c → answer (fold next s bs) ≡ Ok c
run_to [] s c x = end_to s c x
run_to (b ∷ bs) s c x = run_to bs (next s b) c (step_to b bs c s x)

run_from : (bs : List ℕ) (s : State) (c : Command) → answer (fold next s bs) ≡ Ok c → Rest s bs c
run_from [] s c e = end_from s c e
run_from (b ∷ bs) s c e = step_from b bs c s (run_from bs (next s b) c e)

-- a state that a byte led to
begun_next : (s : State) (b : ℕ) → begun (next s b) ≡ true
begun_next Start b = grind arith
begun_next (Named l) b = grind arith
begun_next (First l n) b = grind arith
begun_next (Second l m n) b = grind arith
begun_next Refused b = refl

begun_on : (bs : List ℕ) (s : State) → begun s ≡ true → begun (fold next s bs) ≡ true
begun_on [] s h = h
begun_on (b ∷ bs) s h = begun_on bs (next s b) (begun_next s b)

pub begun_by : (bs : List ℕ) → begun (after_all bs) ≡ ltb 0 (length bs)
begun_by [] = refl
begun_by (b ∷ bs) = begun_on bs (named b) (begun_next Start b) ∙ sym (lt-ltb 0 (length (b ∷ bs)) (omega arith))

-- ---- lengths

signed_length : (ds : List ℕ) (z : ℤ) → SignedNumber ds z → length ds ≤ 10
signed_length ds z (plain n h e) = omega (arith, h.few)
signed_length ds z (minus es n f h e) = omega (arith, ap length f, h.few)

two_short : (letter : ℕ) (ds es bs : List ℕ) {m n : ℕ} → bs ≡ letter ∷ (32 ∷ (ds ++ (32 ∷ es))) → Number ds m → Number es n → length bs ≤ 22
two_short letter ds es bs e h k = omega (arith, ap length e, length-append ds (32 ∷ es), h.few, k.few)

short : (bs : List ℕ) (c : Command) → Line bs c → length bs ≤ 22
short bs (Append z) (ds, e, h) = omega (arith, ap length e, signed_length ds z h)
short bs (AppendProbe z n) (ds, es, e, h, k) = omega (arith, ap length e, length-append ds (32 ∷ es), signed_length ds z h, k.few)
short bs (Cut n) (ds, e, h) = omega (arith, ap length e, h.few)
short bs (Coldest m n) (ds, es, e, h, k) = two_short 81 ds es bs e h k
short bs (Hottest m n) (ds, es, e, h, k) = two_short 72 ds es bs e h k
short bs (Weakest m n) (ds, es, e, h, k) = two_short 87 ds es bs e h k
short bs Strip e = omega (arith, ap length e)

-- ---- the theorem

-- the answer in the state after bs is right for bs
pub answers : (bs : List ℕ) (r : Result Command Malformed) → answer (after_all bs) ≡ r → Answers bs r
answers bs (Ok c) e =
    let line = run_from bs Start c e in
    record { line = line; only = λ d other. ok_same (sym (run_to bs Start d other) ∙ e); short = short bs c line }
answers bs (Err x) e = λ d line. cc (e, run_to bs Start d line)
