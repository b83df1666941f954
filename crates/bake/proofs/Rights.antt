-- On a log that is reached, a clearance is given exactly over a warm window, and a record names the first coldest place.
-- Assumes nothing.
use Rattle.std.proofs.Common.{◌≡◌, ℕ, ◌+◌, ◌-◌, ◌<◌, ◌≤◌, Bool, true, false, ◌||◌, eqb, ltb, get_or, Some, Ok, Err, Result, sym, refl, ap, subst, arith, length-take}
use Rattle.std.specs.List.{slice_get}
use Rattle.std.proofs.lemmas.List.{get_or-take}
use Rattle.std.proofs.lemmas.Option.{slice_get-get_or}
use Rattle.std.proofs.lemmas.Bool.Decides.{nat_tests}
use Rattle.std.proofs.lemmas.Bool.{cond_both, cond-false, eqb-true, ltb-true}
use Rattle.reading.specs.Order.{Orders}
use Rattle.reading.specs.Coldest.{FirstColdest, places}
use Rattle.paths.specs.Laws.{AnswersFirsts}
use Rattle.firing_log.specs.Runs.{Reached}
use Rattle.firing_log.specs.State.{State, log_of, short}
use Rattle.firing_log.specs.Steps.{coldest}
use Rattle.firing_log.proofs.Fits.{Fit}
use Rattle.firing_log.proofs.Grown.{not_short}
use Rattle.firing_log.proofs.Reached.{reached_fit}
use Rattle.firing_log.proofs.Searches.{Finds, coldest_finds}
use Rattle.bake.specs.Runs.{InRange, InWindow, Warm, Clearing, Recorded, Unloading, BakesRight}
use Rattle.bake.specs.Steps.{cleared, judged, loaded, unloaded}
use Rattle.bake.specs.declared.fault.BakeFault.{BakeFault}
use Rattle.bake.specs.declared.fault.BakeFault.TheVariants.{ShortMemory, Window, CutBack, Late, NothingBaked, Index, TooCold}
use Rattle.bake.specs.declared.unloading.Record.{Record}

module _ {K : Type 0} {colder : K → K → Bool} (laws : Orders colder) (seats : ℕ → ℕ → ℕ → ℕ) (firsts : AnswersFirsts seats) (s : State K) (fit : Fit colder s) where
  -- the reading at a place below the count, in memory and in the log; x is any reading
  module _ (x : K) (p : ℕ) (below : p < s.count) where
    in_memory : slice_get s.readings p ≡ Some (get_or s.readings p x)
    in_memory = grind (arith, slice_get-get_or)

    in_log : slice_get (log_of s) p ≡ Some (get_or s.readings p x)
    in_log = grind (arith, slice_get-get_or, get_or-take, length-take)

  -- ---- clear

  module _ (w : ℕ) (set : K) (range : InRange colder s w) where
    -- p is the first coldest place of the window, and y the reading there
    module _ (p : ℕ) (first : FirstColdest (places colder (log_of s)) (s.count - w) (s.count - 1) p) (y : K) (reads : slice_get (log_of s) p ≡ Some y) where
      warm_from : colder y set ≡ false → Warm colder s w set
      warm_from test q x inside =
          let than_coldest : colder x y ≡ false = rw (inside.reads, reads) at (first.coldest q inside.from (omega (arith, inside.to))) in
          laws.chained x y set than_coldest test

      coldest_inside : InWindow colder s w p y
      coldest_inside = record { from = first.from; to = omega arith; reads = reads }

    judged_right : Finds (places colder (log_of s)) (s.count - w) (s.count - 1) (coldest colder seats s (s.count - w) (s.count - 1))
        → Clearing colder s w set (judged colder seats s set (coldest colder seats s (s.count - w) (s.count - 1)))
    judged_right finds =
        let p : ℕ = finds.place in
        let below : p < s.count = omega arith in
        let y : K = get_or s.readings p set in
        rw (finds.is, in_memory set p below)
        (cond_both (colder y set) _ _ (Clearing colder s w set)
        (λ (cold : colder y set ≡ true). (range, (p, y, coldest_inside p finds.first y (in_log set p below), cold)))
        (λ (warm : colder y set ≡ false). (refl, range, warm_from p finds.first y (in_log set p below) warm)))

  clear_fit : (w : ℕ) (set : K) → Clearing colder s w set (cleared colder seats s w set)
  clear_fit w set =
      subst (Clearing colder s w set) (sym (cond-false (short s) _ _ (not_short s fit.room)))
      (cond_both (eqb w 0 || ltb s.count w) _ _ (Clearing colder s w set)
      (λ (outside : (eqb w 0 || ltb s.count w) ≡ true) (range : InRange colder s w). grind (arith, nat_tests))
      (λ (inside : (eqb w 0 || ltb s.count w) ≡ false).
      let range : InRange colder s w = grind (arith, nat_tests) in
      judged_right w set range (coldest_finds laws seats firsts s fit (s.count - w) (s.count - 1) (omega arith) (omega arith))))

  -- ---- unload

  unload_fit : (start : ℕ) → Unloading colder s start (unloaded colder seats s start)
  unload_fit start =
      subst (Unloading colder s start) (sym (cond-false (short s) _ _ (not_short s fit.room)))
      (cond_both (ltb s.count start) _ _ (Unloading colder s start) (ltb-true s.count start)
      (λ (kept : ltb s.count start ≡ false).
      cond_both (eqb s.count start) _ _ (Unloading colder s start) (eqb-true s.count start)
      (λ (more : eqb s.count start ≡ false).
      let below : start < s.count = grind (arith, nat_tests) in
      let finds = coldest_finds laws seats firsts s fit start (s.count - 1) (omega arith) (omega arith) in
      rw finds.is (record { start_is = refl; last_is = omega arith; coldest_is = finds.first }))))

-- ---- the calls' answers

module _ {K : Type 0} {colder : K → K → Bool} (laws : Orders colder) {seats : ℕ → ℕ → ℕ → ℕ} (firsts : AnswersFirsts seats) (s : State K) where
  pub clear_right : {answer : Result ℕ BakeFault} (w : ℕ) (set : K) → answer ≡ cleared colder seats s w set → Reached colder seats s → Clearing colder s w set answer
  clear_right w set is reached = subst (Clearing colder s w set) (sym is) (clear_fit laws seats firsts s (reached_fit laws seats firsts s reached) w set)

  pub unload_right : {answer : Result Record BakeFault} (start : ℕ) → answer ≡ unloaded colder seats s start → Reached colder seats s → Unloading colder s start answer
  unload_right start is reached = subst (Unloading colder s start) (sym is) (unload_fit laws seats firsts s (reached_fit laws seats firsts s reached) start)

-- ---- a whole bake

-- an answer of clear over a warm window in range
given_from : {K : Type 0} {colder : K → K → Bool} (s : State K) (w : ℕ) (set : K) (answer : Result ℕ BakeFault) → Clearing colder s w set answer → InRange colder s w → Warm colder s w set
    → answer ≡ Ok s.count
given_from s w set (Ok kept) says range warm = ap Ok says.0
given_from s w set (Err Window) says range warm = absurd (says range)
given_from s w set (Err TooCold) says range warm = grind (arith, warm says.1.0 says.1.1 says.1.2, says.1.3)
given_from s w set (Err ShortMemory) says range warm = absurd says
given_from s w set (Err CutBack) says range warm = absurd says
given_from s w set (Err Late) says range warm = absurd says
given_from s w set (Err NothingBaked) says range warm = absurd says
given_from s w set (Err Index) says range warm = absurd says

-- what a start says of the counts
load_right : (kept count start : ℕ) → loaded kept count ≡ Ok start → (start ≡ count) × (kept ≤ count) × (count ≤ kept + 60)
load_right kept count start loads = grind (arith, nat_tests)

pub bakes_right : {K : Type 0} {colder : K → K → Bool} {seats : ℕ → ℕ → ℕ → ℕ} → Orders colder → AnswersFirsts seats → BakesRight colder seats
bakes_right {colder = colder} {seats = seats} laws firsts = record {
  given = λ s reached w set. (
    (λ done. let says = clear_right laws firsts s w set (sym done) reached in (says.1, says.2)),
    (λ conditions. given_from s w set (cleared colder seats s w set) (clear_right laws firsts s w set refl reached) conditions.0 conditions.1),
  );
  baked = λ s t u at_clear at_load at-unload w set kept start r clears loads unloads.
      (let cleared_says = clear_right laws firsts s w set (sym clears) at_clear in
      let loaded_says = load_right kept t.count start loads in
      let unloaded_says = unload_right laws firsts u start (sym unloads) at-unload in
      record {
        in_range = cleared_says.1;
        warm = cleared_says.2;
        not_cut = omega (arith, cleared_says.0, loaded_says.1);
        soon = omega (arith, cleared_says.0, loaded_says.2);
        recorded = subst (λ (n : ℕ). Recorded colder u n r) loaded_says.0 unloaded_says;
      });
}
