-- A log of any readings that it has room for is reached by appending them.
-- Assumes nothing.
use Rattle.std.proofs.Common.{◌≡◌, ℕ, ◌+◌, ◌*◌, ◌/◌, ◌%◌, ◌<◌, ◌≤◌, Bool, true, false, eqb, List, [], ◌∷◌, ◌++◌, length, get_or, set, replicate, Some, None, Ok, Option, Result, sym, refl, ap, ◌∙◌, subst, ⊎_elim, append_assoc, append-nil, arith}
use Rattle.std.proofs.lemmas.List.{take_all, take_more_set, length_push}
use Rattle.std.proofs.lemmas.Bool.{cases_Bool, le-ltb, ne_eqb}
use Rattle.reading.specs.Order.{Orders}
use Rattle.reading.specs.Coldest.{places}
use Rattle.paths.specs.Laws.{AnswersFirsts, NeverTie}
use Rattle.paths.specs.Number.{shape}
use Rattle.shape.proofs.Carried.{exact_numbers}
use Rattle.firing_log.specs.Laws.{OneLog}
use Rattle.firing_log.specs.Runs.{append_of, Reached, new, called, after}
use Rattle.firing_log.specs.State.{State, log_of, block, short}
use Rattle.firing_log.specs.Steps.{appended, put, filled, grown, last_shape, entries_of}
use Rattle.firing_log.specs.Strip.{strip_of, strip_length}
use Rattle.firing_log.specs.declared.fault.LogFault.{LogFault}
use Rattle.firing_log.proofs.Alike.{length_strip}
use Rattle.firing_log.proofs.Blocks.{shape_bound}
use Rattle.firing_log.proofs.Fits.{Fit, NotIndex, appended_fit}
use Rattle.firing_log.proofs.Reached.{reached_fit, runs_right}
use Rattle.firing_log.proofs.Short.{Long, long_passes}

-- memory that is long enough is not too short
pub not_short : {K : Type 0} (s : State K) → Long s.capacity s.readings s.shapes s.entries → short s ≡ false
not_short s long = long_passes s.capacity s.readings s.shapes s.entries long

-- s with one reading more
pub record Longer {K : Type 0} (s : State K) (x : K) (t : State K) : Type 0 where
  pub capacity : t.capacity ≡ s.capacity
  pub count : t.count ≡ s.count + 1
  pub log : log_of t ≡ log_of s ++ (x ∷ [])

-- an append that is not refused
pub record Done {K : Type 0} (s : State K) (x : K) (answer : Result ℕ LogFault × State K) : Type 0 where
  pub ok : answer.0 ≡ Ok (s.count + 1)
  pub longer : Longer s x answer.1

module _ {K : Type 0} {colder : K → K → Bool} (laws : Orders colder) (seats : ℕ → ℕ → ℕ → ℕ) (firsts : AnswersFirsts seats) where
  grown_longer : (s : State K) (x : K) (n : ℕ) (entries : List ℕ) → s.count < length s.readings → Longer s x (grown colder s x n entries)
  grown_longer s x n entries within = record { capacity = refl; count = refl; log = take_more_set s.readings s.count x within }

  pub appended_done : (s : State K) → Fit colder s → (x : K) → s.count < s.capacity → Done s x (appended colder seats s x)
  appended_done s fit x room =
      let n : ℕ = last_shape colder (set s.readings s.count x) (s.count + 1) in
      let within : s.count < length s.readings = omega (arith, fit.room.readings_long) in
      let put_is : appended colder seats s x ≡ put colder seats s x n = rw (not_short s fit.room, ne_eqb s.count s.capacity (λ e. omega arith)) in
      let sure : NotIndex (put colder seats s x n).0 = subst (λ (a : Result ℕ LogFault × State K). NotIndex a.0) put_is (appended_fit laws seats firsts s fit x).not_index in
      subst (λ (a : Result ℕ LogFault × State K). Done s x a) (sym put_is)
      (⊎_elim
      (λ (d : eqb (s.count % 8) 7 ≡ true).
      rw d (go s x n within (entries_of (places colder (set s.readings s.count x)) s.entries (s.count / 8) (8 * (s.count / 8) + seats n 0 7))
      (rw d at sure)))
      (λ (d : eqb (s.count % 8) 7 ≡ false). rw d (record { ok = refl; longer = grown_longer s x n s.entries within }))
      (cases_Bool (eqb (s.count % 8) 7)))
    where
      go : (s : State K) (x : K) (n : ℕ) → s.count < length s.readings → (o : Option (List ℕ)) → NotIndex (filled colder s x n o).0 → Done s x (filled colder s x n o)
      go s x n within None sure = absurd (sure refl)
      go s x n within (Some es) sure = record { ok = refl; longer = grown_longer s x n _ within }

  -- a reached log, its readings and its room
  record Holding (capacity : ℕ) (xs : List K) : Type 0 where
    state : State K
    reached : Reached colder seats state
    room : state.capacity ≡ capacity
    log : log_of state ≡ xs
    count : state.count ≡ length xs

  holding_more : (capacity : ℕ) (xs ys : List K) → length xs + length ys ≤ capacity → Holding capacity xs → Holding capacity (xs ++ ys)
  holding_more capacity xs [] fits h = subst (λ (l : List K). Holding capacity l) (sym (append-nil xs)) h
  holding_more capacity xs (y ∷ ys) fits h =
      let s : State K = h.state in
      let longer = (appended_done s (reached_fit laws seats firsts s h.reached) y (omega (arith, h.room, h.count))).longer in
      subst (λ (l : List K). Holding capacity l) (append_assoc xs (y ∷ []) ys)
      (holding_more capacity (xs ++ (y ∷ [])) ys (omega (arith, length_push xs y))
      (record {
        state = after colder seats s (append_of y);
        reached = called s (append_of y) h.reached;
        room = longer.capacity ∙ h.room;
        log = longer.log ∙ ap (λ l. l ++ (y ∷ [])) h.log;
        count = longer.count ∙ ap (λ n. n + 1) h.count ∙ sym (length_push xs y);
      }))

  -- a new log with room for eight readings
  new_eight : (xs : List K) → length xs ≡ 8 → Holding 8 []
  new_eight xs eight =
      let s : State K = record { capacity = 8; count = 0; readings = xs; shapes = 0 ∷ []; entries = replicate 13 0 } in
      record {
        state = s;
        reached = new 8 xs (0 ∷ []) (replicate 13 0) s (rw (le-ltb (length xs) 8 (omega arith)));
        room = refl;
        log = refl;
        count = refl;
      }

  carried_by_log : (xs : List K) → length xs ≡ 8 → NeverTie colder xs → (t : ℕ) → t < 1430
      → (s : State K) × Reached colder seats s × (b : ℕ) × (8 * b + 8 ≤ s.count) × (get_or s.shapes b 0 ≡ t)
  carried_by_log xs eight apart t h =
      let full = (exact_numbers laws).carried xs eight apart t h in
      let held = holding_more 8 [] full.0 (omega (arith, full.1)) (new_eight xs eight) in
      let s : State K = held.state in
      let fit = reached_fit laws seats firsts s held.reached in
      let whole : block 0 (log_of s) ≡ full.0 = ap (block 0) held.log ∙ take_all 8 full.0 (omega (arith, full.1)) in (
        s,
        held.reached,
        0,
        omega (arith, held.count, full.1),
        fit.sound.shapes_right 0 (omega (arith, held.count, full.1)) ∙ ap (shape colder) whole ∙ full.2,
      )

pub one_log : {K : Type 0} {colder : K → K → Bool} → Orders colder → (seats : ℕ → ℕ → ℕ → ℕ) → AnswersFirsts seats → OneLog colder seats
one_log {K} {colder} laws seats firsts = record {
  bounded = λ s reached b full.
      (let fit = reached_fit laws seats firsts s reached in
      subst (λ (n : ℕ). n < 1430) (sym (fit.sound.shapes_right b (omega arith))) (shape_bound colder b (log_of s)));
  carried = carried_by_log laws seats firsts;
  sound = λ s reached. (reached_fit laws seats firsts s reached).sound;
  first_coldest = (runs_right laws firsts).first_coldest;
  strip_right = λ s reached output room.
      (let fit = reached_fit laws seats firsts s reached in
      let long : length (strip_of colder s) ≡ strip_length s.count = length_strip (places colder (log_of s)) s.count in
      rw (long, not_short s fit.room, le-ltb (length output) (strip_length s.count) (omega arith)));
}
