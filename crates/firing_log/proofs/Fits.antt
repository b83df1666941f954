-- A log that fits its memory and whose index numbers are right, and that append and cut keep it so and never answer Index.
-- Assumes nothing.
use Rattle.std.proofs.Common.{◌≡◌, ℕ, suc, ◌+◌, ◌-◌, ◌*◌, ◌/◌, ◌%◌, ◌<◌, ◌≤◌, Bool, true, false, eqb, ltb, ◌≢◌, List, length, get_or, take, set, Some, Ok, Err, Option, Result, sym, refl, ap, ◌∙◌, subst, ⊎_elim, arith}
use Rattle.std.proofs.lemmas.List.{length-set, length-take-le, get_or-set_same, get_or-set_other, take-set, take-take}
use Rattle.std.proofs.lemmas.Bool.{cases_lt, cond_both, eqb-true, eqb-false, ltb-false}
use Rattle.reading.specs.Order.{Orders}
use Rattle.reading.specs.Coldest.{places}
use Rattle.reading.proofs.Orders.{places_orders}
use Rattle.paths.specs.Laws.{AnswersFirsts}
use Rattle.paths.specs.Number.{shape}
use Rattle.firing_log.specs.Runs.{Sound, refusal}
use Rattle.firing_log.specs.State.{State, block, log_of, short}
use Rattle.firing_log.specs.Steps.{appended, cut, entry_at, filled, grown, kept, last_shape, level, log_code, put, written}
use Rattle.firing_log.specs.declared.fault.LogFault.{LogFault}
use Rattle.firing_log.specs.declared.fault.LogFault.TheVariants.{CutLength, Full, Index, ShortMemory}
use Rattle.firing_log.proofs.Blocks.{block_first, block_in_front, first_from_front, first_in_front}
use Rattle.firing_log.proofs.Entries.{EntryRight, RowFound, TableRight, entries_found, length_written, table_more}
use Rattle.firing_log.proofs.Short.{Long}

-- ---- the index numbers of a list and of its front

-- the numbers of the first n blocks are right
abbrev pub ShapesRight : {K : Type 0} → (K → K → Bool) → List K → List ℕ → ℕ → Type 0
ShapesRight colder xs shapes n = (b : ℕ) → b < n → get_or shapes b 0 ≡ shape colder (block b xs)

module _ {K : Type 0} (colder : K → K → Bool) where
  -- the number of block n is written
  shapes_more : (xs : List K) (shapes : List ℕ) (n : ℕ) → n < length shapes → ShapesRight colder xs shapes n
      → ShapesRight colder xs (set shapes n (shape colder (block n xs))) (n + 1)
  shapes_more xs shapes n room before b h =
      ⊎_elim (λ (d : b < n). get_or-set_other shapes n b (shape colder (block n xs)) 0 (omega arith) ∙ before b d)
      (λ (d : n ≤ b). let e : b ≡ n = omega arith in rw e (get_or-set_same shapes n (shape colder (block n xs)) 0 room))
      (cases_lt b n)

  module _ (n : ℕ) (xs : List K) (m : ℕ) (full : 8 * m ≤ n) where
    shapes_in_front : (shapes : List ℕ) → ShapesRight colder xs shapes m → ShapesRight colder (take n xs) shapes m
    shapes_in_front shapes right b h = right b h ∙ ap (shape colder) (sym (block_in_front b n xs (omega arith)))

    shapes_from_front : (shapes : List ℕ) → ShapesRight colder (take n xs) shapes m → ShapesRight colder xs shapes m
    shapes_from_front shapes right b h = right b h ∙ ap (shape colder) (block_in_front b n xs (omega arith))

    module _ (long : n ≤ length xs) (entries : List ℕ) where
      table_in_front : TableRight (places colder xs) entries m → TableRight (places colder (take n xs)) entries m
      table_in_front right b j h k = first_in_front colder n xs long _ (8 * b + 7) _ (omega arith) (right b j h k)

      table_from_front : TableRight (places colder (take n xs)) entries m → TableRight (places colder xs) entries m
      table_from_front right b j h k = first_from_front colder n xs long _ (8 * b + 7) _ (omega arith) (right b j h k)

-- ---- a log

-- a log of a right capacity, within its memory, whose index numbers are right
pub record Fit {K : Type 0} (colder : K → K → Bool) (s : State K) : Type 0 where
  pub few : s.capacity ≤ 32768
  pub within : s.count ≤ s.capacity
  pub room : Long s.capacity s.readings s.shapes s.entries
  pub sound : Sound colder s

sound_from : {K : Type 0} (colder : K → K → Bool) (s : State K) → ShapesRight colder (log_of s) s.shapes ((s.count + 7) / 8)
    → TableRight (places colder (log_of s)) s.entries (s.count / 8) → Sound colder s
sound_from colder s shapes table = record {
  shapes_right = λ b h. shapes b (omega arith);
  entries_right = λ b j h k. table b j (omega arith) k;
}

-- a call does not find index numbers wrong
abbrev pub NotIndex : Result ℕ LogFault → Type 0
NotIndex answer = refusal answer ≡ Some Index → ⊥

pub refused_not_index : (fault : LogFault) → log_code fault ≢ 11 → NotIndex (Err fault)
refused_not_index fault other same = let is : fault ≡ Index = cc in other (ap log_code is)

pub answered_not_index : (n : ℕ) → NotIndex (Ok n)
answered_not_index n same = let z : ◌≡◌ {A = ℕ} 0 1 = cc in omega arith

-- what a call answers and leaves: the log is fit still
pub record KeptFit {K : Type 0} (colder : K → K → Bool) (answer : Result ℕ LogFault × State K) : Type 0 where
  pub fit : Fit colder answer.1
  pub not_index : NotIndex answer.0

refused_fit : {K : Type 0} {colder : K → K → Bool} {s : State K} (fault : LogFault) → log_code fault ≢ 11 → Fit colder s → KeptFit colder (Err fault, s)
refused_fit fault other fit = record { fit = fit; not_index = refused_not_index fault other }

answered_fit : {K : Type 0} {colder : K → K → Bool} {s : State K} (n : ℕ) → Fit colder s → KeptFit colder (Ok n, s)
answered_fit n fit = record { fit = fit; not_index = answered_not_index n }

-- ---- append

module _ {K : Type 0} {colder : K → K → Bool} (s : State K) (fit : Fit colder s) (x : K) (free : s.count < s.capacity) where
  -- the full blocks from before the reading x is put, in the memory with x
  old_shapes : ShapesRight colder (set s.readings s.count x) s.shapes (s.count / 8)
  old_shapes =
      shapes_from_front colder s.count (set s.readings s.count x) (s.count / 8) (omega arith) s.shapes
      (subst (λ (ys : List K). ShapesRight colder ys s.shapes (s.count / 8)) (sym (take-set s.readings s.count x))
      (λ b h. fit.sound.shapes_right b (omega arith)))

  old_table : TableRight (places colder (set s.readings s.count x)) s.entries (s.count / 8)
  old_table =
      table_from_front colder s.count (set s.readings s.count x) (s.count / 8) (omega arith)
      (omega (arith, length-set s.readings s.count x, fit.within, fit.room.readings_long)) s.entries
      (subst (λ (ys : List K). TableRight (places colder ys) s.entries (s.count / 8)) (sym (take-set s.readings s.count x))
      (λ b j h k. fit.sound.entries_right b j (omega arith) k))

  -- the log with x, once the entries of all its full blocks are right
  grown_fit : (entries : List ℕ) → length entries ≡ length s.entries → TableRight (places colder (set s.readings s.count x)) entries ((s.count + 1) / 8)
      → Fit colder (grown colder s x (last_shape colder (set s.readings s.count x) (s.count + 1)) entries)
  grown_fit entries same table =
      let n : ℕ = s.count in
      let xs : List K = set s.readings n x in
      let last : (n + 1 - 1) / 8 ≡ n / 8 = omega arith in
      let begun : (n + 1 + 7) / 8 ≡ n / 8 + 1 = omega arith in
      let long : n + 1 ≤ length xs = omega (arith, length-set s.readings n x, fit.room.readings_long) in
      record {
        few = fit.few;
        within = omega arith;
        room = record {
          readings_long = omega (arith, length-set s.readings n x, fit.room.readings_long);
          shapes_long = rw length-set fit.room.shapes_long;
          entries_long = omega (arith, same, fit.room.entries_long);
        };
        sound = sound_from colder (grown colder s x (last_shape colder xs (n + 1)) entries)
            (rw (last, begun) (shapes_more colder (take (n + 1) xs) s.shapes (n / 8) (omega (arith, fit.room.shapes_long))
            (shapes_in_front colder (n + 1) xs (n / 8) (omega arith) s.shapes old_shapes)))
            (table_in_front colder (n + 1) xs ((n + 1) / 8) (omega arith) long entries table);
      }

module _ {K : Type 0} {colder : K → K → Bool} (laws : Orders colder) (seats : ℕ → ℕ → ℕ → ℕ) (firsts : AnswersFirsts seats) (s : State K) (fit : Fit colder s) (x : K) where
  module _ (free : s.count < s.capacity) where
    -- the first coldest place of the block that is full now
    full_first : s.count % 8 ≡ 7
        → EntryRight (places colder (set s.readings s.count x)) (s.count / 8) 0
        (8 * (s.count / 8) + seats (last_shape colder (set s.readings s.count x) (s.count + 1)) 0 7)
    full_first full =
        let n : ℕ = s.count in
        let xs : List K = set s.readings n x in
        let long : n + 1 ≤ length xs = omega (arith, length-set s.readings n x, fit.room.readings_long) in
        let last : (n + 1 - 1) / 8 ≡ n / 8 = omega arith in
        let from : 8 * (n / 8 + 1 - 1) ≡ 8 * (n / 8) + 0 = omega arith in
        rw (last, from) (first_from_front colder (n + 1) xs long _ (8 * (n / 8) + 7) _ (omega arith)
        (block_first laws seats firsts (take (n + 1) xs) (n / 8) 0 7 (omega arith) (omega arith) (omega (arith, length-take-le (n + 1) xs long))))

    -- the entries of the block that is full now are written
    filled_fit : (found : Option (List ℕ)) → s.count % 8 ≡ 7
        → RowFound (places colder (set s.readings s.count x)) (s.count / 8) 0 (suc (level (s.count / 8 + 1))) found
        → KeptFit colder (filled colder s x (last_shape colder (set s.readings s.count x) (s.count + 1)) found)
    filled_fit found full row =
        let n : ℕ = s.count in
        let xs : List K = set s.readings n x in
        let ends : (n + 1) / 8 ≡ n / 8 + 1 = omega arith in
        let entries : List ℕ = written s.entries (entry_at (n / 8) 0) row.es in
        let table : TableRight (places colder xs) entries (n / 8 + 1) =
        table_more s.entries (omega (arith, fit.few)) (omega (arith, fit.room.entries_long)) (old_table s fit x free) row in
        subst (λ (es : Option (List ℕ)). KeptFit colder (filled colder s x (last_shape colder xs (n + 1)) es)) (sym row.some)
        (answered_fit (n + 1) (grown_fit s fit x free entries (length_written s.entries (entry_at (n / 8) 0) row.es) (rw ends table)))

    put_fit : KeptFit colder (put colder seats s x (last_shape colder (set s.readings s.count x) (s.count + 1)))
    put_fit =
        let n : ℕ = s.count in
        let xs : List K = set s.readings n x in
        cond_both (eqb (n % 8) 7) _ _ (KeptFit colder)
        (λ (d : eqb (n % 8) 7 ≡ true).
        let full : n % 8 ≡ 7 = eqb-true (n % 8) 7 d in
        filled_fit _ full (entries_found (places_orders laws xs) s.entries (n / 8) (old_table s fit x free) _ (omega (arith, fit.few)) (full_first full)))
        (λ (d : eqb (n % 8) 7 ≡ false).
        let same : (n + 1) / 8 ≡ n / 8 = omega (arith, eqb-false (n % 8) 7 d) in
        answered_fit (n + 1) (grown_fit s fit x free s.entries refl (rw same (old_table s fit x free))))

  pub appended_fit : KeptFit colder (appended colder seats s x)
  appended_fit =
      cond_both (short s) _ _ (KeptFit colder)
      (λ (d : short s ≡ true). refused_fit ShortMemory (omega arith) fit)
      (λ (d : short s ≡ false).
      cond_both (eqb s.count s.capacity) _ _ (KeptFit colder)
      (λ (e : eqb s.count s.capacity ≡ true). refused_fit Full (omega arith) fit)
      (λ (e : eqb s.count s.capacity ≡ false). put_fit (omega (arith, fit.within, eqb-false s.count s.capacity e))))

-- ---- cut

module _ {K : Type 0} {colder : K → K → Bool} (s : State K) (fit : Fit colder s) where
  module _ (n : ℕ) (fewer : n ≤ s.count) where
    front_of_log : take n (log_of s) ≡ take n s.readings
    front_of_log = take-take n s.count s.readings fewer

    kept_shapes : (length (kept colder s n).shapes ≡ length s.shapes) × ShapesRight colder (take n s.readings) (kept colder s n).shapes ((n + 7) / 8)
    kept_shapes =
        let full : ShapesRight colder (take n s.readings) s.shapes (n / 8) =
        rw front_of_log at (shapes_in_front colder n (log_of s) (n / 8) (omega arith) s.shapes (λ b h. fit.sound.shapes_right b (omega arith))) in
        let number : ℕ = last_shape colder s.readings n in
        cond_both (eqb (n % 8) 0) s.shapes (set s.shapes (n / 8) number)
        (λ (shapes : List ℕ). (length shapes ≡ length s.shapes) × ShapesRight colder (take n s.readings) shapes ((n + 7) / 8))
        (λ (d : eqb (n % 8) 0 ≡ true).
        let begun : (n + 7) / 8 ≡ n / 8 = omega (arith, eqb-true (n % 8) 0 d) in
        (refl, rw begun full))
        (λ (d : eqb (n % 8) 0 ≡ false).
        let some : n % 8 ≡ 0 → ⊥ = eqb-false (n % 8) 0 d in
        let begun : (n + 7) / 8 ≡ n / 8 + 1 = omega arith in
        let last : (n - 1) / 8 ≡ n / 8 = omega arith in (
          length-set s.shapes (n / 8) number,
          rw (last, begun) (shapes_more colder (take n s.readings) s.shapes (n / 8) (omega (arith, fit.within, fit.room.shapes_long)) full),
        ))

    kept_fit : Fit colder (kept colder s n)
    kept_fit =
        let long : n ≤ length (log_of s) = omega (arith, length-take-le s.count s.readings (omega (arith, fit.within, fit.room.readings_long))) in
        record {
          few = fit.few;
          within = omega (arith, fit.within);
          room = record {
            readings_long = fit.room.readings_long;
            shapes_long = omega (arith, kept_shapes.0, fit.room.shapes_long);
            entries_long = fit.room.entries_long;
          };
          sound = sound_from colder (kept colder s n) kept_shapes.1
              (rw front_of_log at (table_in_front colder n (log_of s) (n / 8) (omega arith) long s.entries
              (λ b j h k. fit.sound.entries_right b j (omega arith) k)));
        }

  pub cut_fit : (n : ℕ) → KeptFit colder (cut colder s n)
  cut_fit n =
      cond_both (short s) _ _ (KeptFit colder)
      (λ (d : short s ≡ true). refused_fit ShortMemory (omega arith) fit)
      (λ (d : short s ≡ false).
      cond_both (ltb s.count n) _ _ (KeptFit colder)
      (λ (e : ltb s.count n ≡ true). refused_fit CutLength (omega arith) fit)
      (λ (e : ltb s.count n ≡ false). answered_fit n (kept_fit n (ltb-false s.count n e))))
