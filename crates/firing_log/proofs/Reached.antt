-- Every log that only its own calls have changed is fit: its index numbers are right, and each question is answered with the first coldest place.
-- Assumes nothing.
use Rattle.std.proofs.Common.{◌≡◌, ℕ, Bool, true, false, ◌||◌, eqb, ltb, leb, List, length, IfOk, Some, Result, sym, refl, ap, subst, arith}
use Rattle.std.proofs.lemmas.Bool.{cond_both, cond-true, leb-false, ltb-false, or_parts}
use Rattle.reading.specs.Order.{Orders}
use Rattle.paths.specs.Laws.{AnswersFirsts}
use Rattle.firing_log.specs.Runs.{Call, append_of, cut_to, coldest_over, strip_into, Reached, new, called, called_short, RunsRight, after, handed, refused_by}
use Rattle.firing_log.specs.State.{State, short, too_short}
use Rattle.firing_log.specs.Steps.{coldest, opened}
use Rattle.firing_log.specs.Strip.{strip_length, strip_written}
use Rattle.firing_log.specs.declared.fault.LogFault.{LogFault}
use Rattle.firing_log.specs.declared.fault.LogFault.TheVariants.{Backwards, Beyond, Index, ShortMemory, ShortOutput}
use Rattle.firing_log.proofs.Fits.{Fit, NotIndex, appended_fit, answered_not_index, cut_fit, refused_not_index}
use Rattle.firing_log.proofs.Searches.{coldest_finds, searched_finds}
use Rattle.firing_log.proofs.Short.{long_enough}

-- ---- a new log

opened_fit : {K : Type 0} (colder : K → K → Bool) (capacity : ℕ) (readings : List K) (shapes entries : List ℕ)
    → IfOk (opened capacity readings shapes entries) (Fit colder)
opened_fit colder capacity readings shapes entries =
    cond_both (eqb capacity 0 || ltb 32768 capacity) _ _ (λ answer. IfOk answer (Fit colder)) (λ d. tt)
    (λ (d : (eqb capacity 0 || ltb 32768 capacity) ≡ false).
    cond_both (too_short capacity readings shapes entries) _ _ (λ answer. IfOk answer (Fit colder)) (λ e. tt)
    (λ (e : too_short capacity readings shapes entries ≡ false). record {
      few = ltb-false 32768 capacity (or_parts (eqb capacity 0) (ltb 32768 capacity) d).1;
      within = omega arith;
      room = long_enough capacity readings shapes entries e;
      sound = record { shapes_right = λ b h. absurd (omega arith); entries_right = λ b j h k. absurd (omega arith) };
    }))

-- ---- every log that is reached

module _ {K : Type 0} {colder : K → K → Bool} (laws : Orders colder) (seats : ℕ → ℕ → ℕ → ℕ) (firsts : AnswersFirsts seats) where
  after_fit : (s : State K) (call : Call K) → Fit colder s → Fit colder (after colder seats s call)
  after_fit s (append_of x) fit = (appended_fit laws seats firsts s fit x).fit
  after_fit s (cut_to n) fit = (cut_fit s fit n).fit
  after_fit s (coldest_over l r) fit = fit
  after_fit s (strip_into output) fit = fit

  -- a call on memory that is too short leaves everything as it was
  after_short : (s : State K) (call : Call K) → short s ≡ true → after colder seats s call ≡ s
  after_short s (append_of x) test = ap (λ (answer : Result ℕ LogFault × State K). answer.1) (cond-true (short s) _ _ test)
  after_short s (cut_to n) test = ap (λ (answer : Result ℕ LogFault × State K). answer.1) (cond-true (short s) _ _ test)
  after_short s (coldest_over l r) test = refl
  after_short s (strip_into output) test = refl

  pub reached_fit : (s : State K) → Reached colder seats s → Fit colder s
  reached_fit _ (new capacity readings shapes entries s done) =
      subst (λ (answer : Result (State K) LogFault). IfOk answer (Fit colder)) done (opened_fit colder capacity readings shapes entries)
  reached_fit _ (called s call reached) = after_fit s call (reached_fit s reached)
  reached_fit _ (called_short s other call reached test) =
      subst (λ (t : State K). Fit colder (handed colder seats t s)) (sym (after_short (handed colder seats s other) call test)) (reached_fit s reached)

  coldest_not_index : (s : State K) → Fit colder s → (l r : ℕ) → NotIndex (coldest colder seats s l r)
  coldest_not_index s fit l r =
      cond_both (short s) _ _ NotIndex (λ d. refused_not_index ShortMemory (omega arith))
      (λ d. cond_both (ltb r l) _ _ NotIndex (λ e. refused_not_index Backwards (omega arith))
      (λ (e : ltb r l ≡ false). cond_both (leb s.count r) _ _ NotIndex (λ f. refused_not_index Beyond (omega arith))
      (λ (f : leb s.count r ≡ false).
      let finds = searched_finds laws seats firsts s fit l r (ltb-false r l e) (leb-false s.count r f) in
      subst NotIndex (sym finds.is) (answered_not_index finds.place))))

  strip_not_index : (s : State K) (output : List ℕ) → NotIndex (strip_written colder s output).0
  strip_not_index s output =
      cond_both (short s) _ _ (λ (answer : Result ℕ LogFault × List ℕ). NotIndex answer.0) (λ d. refused_not_index ShortMemory (omega arith))
      (λ d. cond_both (ltb (length output) (strip_length s.count)) _ _ (λ (answer : Result ℕ LogFault × List ℕ). NotIndex answer.0) (λ e. refused_not_index ShortOutput (omega arith))
      (λ e. answered_not_index (strip_length s.count)))

  never_index : (s : State K) → Fit colder s → (call : Call K) → refused_by colder seats s call ≡ Some Index → ⊥
  never_index s fit (append_of x) = (appended_fit laws seats firsts s fit x).not_index
  never_index s fit (cut_to n) = (cut_fit s fit n).not_index
  never_index s fit (coldest_over l r) = coldest_not_index s fit l r
  never_index s fit (strip_into output) = strip_not_index s output

pub runs_right : {K : Type 0} {colder : K → K → Bool} {seats : ℕ → ℕ → ℕ → ℕ} → Orders colder → AnswersFirsts seats → RunsRight colder seats
runs_right {seats = seats} laws firsts = record {
  sound = λ s reached. (reached_fit laws seats firsts s reached).sound;
  no_index_fault = λ s reached. never_index laws seats firsts s (reached_fit laws seats firsts s reached);
  first_coldest = λ s reached l r h within.
      let finds = coldest_finds laws seats firsts s (reached_fit laws seats firsts s reached) l r h within in
      (finds.place, finds.is, finds.first);
}
