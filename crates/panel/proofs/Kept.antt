-- What the calls on a log do to the list of readings that it keeps.
-- Assumes nothing.
use Rattle.std.proofs.Common.{◌≡◌, ℕ, ◌+◌, ◌*◌, ◌%◌, ◌<◌, ◌≤◌, Bool, false, eqb, ltb, leb, List, [], ◌∷◌, ◌++◌, length, take, drop, set, Some, None, Ok, Err, Option, Result, sym, refl, ap, ◌∙◌, subst, inl, inr, ⊎_elim, arith}
use Rattle.std.specs.List.{slice_get}
use Rattle.std.specs.Option.{option_map}
use Rattle.std.proofs.iter.runs.Lists.{nth_left}
use Rattle.std.proofs.lemmas.List.{length-take-le, take-append-drop, take_more_set, take-take}
use Rattle.std.proofs.lemmas.Bool.{cases_lt, cond_both, cond-true, cond-false, eq-eqb, ne_eqb, le-ltb, lt-ltb, le-leb, or_from}
use Rattle.reading.specs.Order.{Orders}
use Rattle.reading.specs.Coldest.{FirstColdest, places}
use Rattle.paths.specs.Laws.{AnswersFirsts}
use Rattle.firing_log.specs.State.{State, blocks, too_short, short, log_of}
use Rattle.firing_log.specs.Steps.{appended, put, filled, last_shape, cut, coldest}
use Rattle.firing_log.specs.declared.fault.LogFault.{LogFault}
use Rattle.firing_log.specs.declared.fault.LogFault.TheVariants.{Full, CutLength, Backwards, Beyond}
use Rattle.firing_log.proofs.Fits.{Fit, NotIndex, appended_fit, cut_fit}
use Rattle.firing_log.proofs.Searches.{coldest_finds}
use Rattle.firing_log.proofs.Short.{Long, long_enough, cut_done}
use Rattle.console.specs.declared.reply.Found.{Found}
use Rattle.panel.specs.Firing.{Keeps, Tells}
use Rattle.panel.specs.Replies.{found, asked}

-- ---- a fit log keeps its readings

not_short : {K : Type 0} (capacity : ℕ) (readings : List K) (shapes entries : List ℕ) → Long capacity readings shapes entries → too_short capacity readings shapes entries ≡ false
not_short capacity readings shapes entries long =
    or_from _ _ (le-ltb (length readings) capacity long.readings_long)
    (or_from _ _ (le-ltb (length shapes) (blocks capacity) long.shapes_long) (le-ltb (length entries) (13 * blocks capacity) long.entries_long))

kept_from_fit : {K : Type 0} {colder : K → K → Bool} {capacity : ℕ} {s : State K} {xs : List K}
    → Fit colder s → s.capacity ≡ capacity → log_of s ≡ xs → Keeps colder capacity s xs
kept_from_fit {s = s} fit is holds = record {
  capacity_is = is;
  few = omega (arith, fit.few);
  long = not_short s.capacity s.readings s.shapes s.entries fit.room;
  within = omega (arith, fit.within);
  sound = fit.sound;
  holds = holds;
}

module _ {K : Type 0} {colder : K → K → Bool} {capacity : ℕ} {s : State K} {xs : List K} (k : Keeps colder capacity s xs) where
  fit_from_kept : Fit colder s
  fit_from_kept = record {
    few = omega (arith, k.few, k.capacity_is);
    within = omega (arith, k.within, k.capacity_is);
    room = long_enough s.capacity s.readings s.shapes s.entries k.long;
    sound = k.sound;
  }

  count_fits : s.count ≤ length s.readings
  count_fits = let room = long_enough s.capacity s.readings s.shapes s.entries k.long in omega (arith, room.readings_long, k.within, k.capacity_is)

  pub count_is : s.count ≡ length xs
  count_is = sym (length-take-le s.count s.readings count_fits) ∙ ap length k.holds

-- ---- append

-- what an append leaves that is answered
record Grown {K : Type 0} (s : State K) (x : K) (done : Result ℕ LogFault × State K) : Type 0 where
  answer : done.0 ≡ Ok (s.count + 1)
  capacity : done.1.capacity ≡ s.capacity
  count : done.1.count ≡ s.count + 1
  readings : done.1.readings ≡ set s.readings s.count x

filled_grown : {K : Type 0} (colder : K → K → Bool) (s : State K) (x : K) (t : ℕ) (es : Option (List ℕ))
    → NotIndex (filled colder s x t es).0 → Grown s x (filled colder s x t es)
filled_grown colder s x t None never = absurd (never refl)
filled_grown colder s x t (Some es) never = record { answer = refl; capacity = refl; count = refl; readings = refl }

put_grown : {K : Type 0} (colder : K → K → Bool) (seats : ℕ → ℕ → ℕ → ℕ) (s : State K) (x : K) (t : ℕ)
    → NotIndex (put colder seats s x t).0 → Grown s x (put colder seats s x t)
put_grown colder seats s x t =
    cond_both (eqb (s.count % 8) 7) _ _ (λ done. NotIndex done.0 → Grown s x done)
    (λ _ never. filled_grown colder s x t _ never)
    (λ _ never. record { answer = refl; capacity = refl; count = refl; readings = refl })

module _ {K : Type 0} {colder : K → K → Bool} (laws : Orders colder) (seats : ℕ → ℕ → ℕ → ℕ) (firsts : AnswersFirsts seats)
    {capacity : ℕ} {s : State K} {xs : List K} (k : Keeps colder capacity s xs) where
  pub append_full : (x : K) → capacity ≤ length xs → appended colder seats s x ≡ (Err Full, s)
  append_full x full =
      let is : s.count ≡ s.capacity = omega (arith, count_is k, k.capacity_is, k.within) in
      cond-false (short s) _ _ k.long ∙ cond-true (eqb s.count s.capacity) _ _ (eq-eqb s.count s.capacity is)

  append_grown : (x : K) → length xs < capacity → Grown s x (appended colder seats s x)
  append_grown x free =
      let differs : s.count ≡ s.capacity → ⊥ = λ e. omega (arith, e, count_is k, k.capacity_is) in
      let t = last_shape colder (set s.readings s.count x) (s.count + 1) in
      let is : appended colder seats s x ≡ put colder seats s x t =
      cond-false (short s) _ _ k.long ∙ cond-false (eqb s.count s.capacity) _ _ (ne_eqb s.count s.capacity differs) in
      subst (Grown s x) (sym is) (put_grown colder seats s x t (subst (λ done. NotIndex done.0) is (appended_fit laws seats firsts s (fit_from_kept k) x).not_index))

  pub append_answer : (x : K) → length xs < capacity → (appended colder seats s x).0 ≡ Ok (length xs + 1)
  append_answer x free = (append_grown x free).answer ∙ ap (λ n. Ok (n + 1)) (count_is k)

  pub append_keeps : (x : K) → length xs < capacity → Keeps colder capacity (appended colder seats s x).1 (xs ++ (x ∷ []))
  append_keeps x free =
      let grown = append_grown x free in
      let within : s.count < length s.readings = omega (arith, (long_enough s.capacity s.readings s.shapes s.entries k.long).readings_long, count_is k, k.capacity_is) in
      kept_from_fit (appended_fit laws seats firsts s (fit_from_kept k) x).fit (grown.capacity ∙ k.capacity_is)
      (ap (λ n. take n (appended colder seats s x).1.readings) grown.count ∙ ap (take (s.count + 1)) grown.readings
      ∙ take_more_set s.readings s.count x within ∙ ap (λ ys. ys ++ (x ∷ [])) k.holds)

-- ---- cut

module _ {K : Type 0} {colder : K → K → Bool} {capacity : ℕ} {s : State K} {xs : List K} (k : Keeps colder capacity s xs) (n : ℕ) where
  pub cut_refused : length xs < n → cut colder s n ≡ (Err CutLength, s)
  cut_refused more = cond-false (short s) _ _ k.long ∙ cond-true (ltb s.count n) _ _ (lt-ltb s.count n (omega (arith, count_is k)))

  module _ (fewer : n ≤ length xs) where
    pub cut_answer : (cut colder s n).0 ≡ Ok n
    cut_answer = ap (λ done. done.0) (cut_done colder s n k.long (omega (arith, count_is k)))

    pub cut_keeps : Keeps colder capacity (cut colder s n).1 (take n xs)
    cut_keeps =
        let is = cut_done colder s n k.long (omega (arith, count_is k)) in
        let fewer_here : n ≤ s.count = omega (arith, count_is k) in
        kept_from_fit (cut_fit s (fit_from_kept k) n).fit (ap (λ done. done.1.capacity) is ∙ k.capacity_is)
        (ap (λ done. log_of done.1) is ∙ sym (take-take n s.count s.readings fewer_here) ∙ ap (take n) k.holds)

-- ---- questions

-- what stands in the front of a list stands in the list
nth_front : {K : Type 0} (n : ℕ) (readings : List K) (p : ℕ) → p < length (take n readings) → slice_get readings p ≡ slice_get (take n readings) p
nth_front n readings p h = ap (λ ys. slice_get ys p) (sym (take-append-drop n readings)) ∙ nth_left (take n readings) (drop n readings) p h

-- a place that is told together with its reading
placed : {K : Type 0} (P : Result (Found K) LogFault → Type 0) (place : ℕ) (o : Option K) (answer : Result (Found K) LogFault)
    → option_map (λ reading. Ok (record { place = place; reading = reading })) o ≡ Some answer
    → ((x : K) → o ≡ Some x → P (Ok (record { place = place; reading = x }))) → P answer
placed P place None answer is tells = cc
placed P place (Some x) answer is tells = let same : Ok (record { place = place; reading = x }) ≡ answer = cc in subst P same (tells x refl)

refused : {K : Type 0} (P : Result (Found K) LogFault → Type 0) (fault : LogFault) (answer : Result (Found K) LogFault)
    → Some (Err fault) ≡ Some answer → P (Err fault) → P answer
refused P fault answer is tells = let same : Err fault ≡ answer = cc in subst P same tells

module _ {K : Type 0} {colder : K → K → Bool} (laws : Orders colder) (seats : ℕ → ℕ → ℕ → ℕ) (firsts : AnswersFirsts seats)
    {capacity : ℕ} {s : State K} {xs : List K} (k : Keeps colder capacity s xs) (l r : ℕ) (answer : Result (Found K) LogFault) where
  module _ (is : asked colder seats s l r ≡ Some answer) where
    backwards : r < l → Tells colder xs l r answer
    backwards h =
        let fault : coldest colder seats s l r ≡ Err Backwards = cond-false (short s) _ _ k.long ∙ cond-true (ltb r l) _ _ (lt-ltb r l h) in
        refused (Tells colder xs l r) Backwards answer (sym (ap (found s.readings) fault) ∙ is) (inl (h, refl))

    beyond : l ≤ r → length xs ≤ r → Tells colder xs l r answer
    beyond h past =
        let fault : coldest colder seats s l r ≡ Err Beyond =
        cond-false (short s) _ _ k.long ∙ cond-false (ltb r l) _ _ (le-ltb r l h) ∙ cond-true (leb s.count r) _ _ (le-leb s.count r (omega (arith, count_is k))) in
        refused (Tells colder xs l r) Beyond answer (sym (ap (found s.readings) fault) ∙ is) (inr (h, past, refl))

    within : l ≤ r → r < length xs → Tells colder xs l r answer
    within h below =
        let finds = coldest_finds laws seats firsts s (fit_from_kept k) l r h (omega (arith, count_is k)) in
        let first : FirstColdest (places colder xs) l r finds.place = subst (λ ys. FirstColdest (places colder ys) l r finds.place) k.holds finds.first in
        placed (Tells colder xs l r) finds.place (slice_get s.readings finds.place) answer (sym (ap (found s.readings) finds.is) ∙ is)
        (λ x stands. (
          below,
          first,
          ap (λ ys. slice_get ys finds.place) (sym k.holds)
              ∙ sym (nth_front s.count s.readings finds.place (omega (arith, ap length k.holds, first.to)))
              ∙ stands,
        ))

    -- the answer to a question tells where the readings were first coldest
    pub asked_tells : Tells colder xs l r answer
    asked_tells = ⊎_elim backwards (λ h. ⊎_elim (within h) (beyond h) (cases_lt r (length xs))) (cases_lt r l)
