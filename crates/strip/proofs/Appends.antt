-- A strip's readings appended one after another to a log that has room for them.
-- Assumes nothing.
use Rattle.std.proofs.Common.{◌≡◌, ℕ, zero, suc, ◌+◌, ◌*◌, ◌<◌, ◌≤◌, Bool, true, false, cond, ◌||◌, eqb, ltb, List, [], ◌∷◌, length, get_or, drop, ◌^◌, IsOk, Ok, Err, sym, ap, ◌∙◌, subst, arith}
use Rattle.std.proofs.lemmas.List.FromFn.{length-map-range_with_len, get_or-map-range_with_len}
use Rattle.std.proofs.lemmas.List.{drop_more, drop_all}
use Rattle.reading.specs.Order.{Orders}
use Rattle.reading.specs.declared.tenths.Tenths.{Tenths}
use Rattle.paths.specs.Laws.{AnswersFirsts}
use Rattle.paths.specs.Path.{depths}
use Rattle.firing_log.specs.Runs.{Reached, called, append_of}
use Rattle.firing_log.specs.State.{State, too_short}
use Rattle.firing_log.specs.Steps.{appended, opened}
use Rattle.firing_log.specs.declared.fault.LogFault.TheVariants.{Capacity, ShortMemory}
use Rattle.firing_log.proofs.Grown.{Done, appended_done}
use Rattle.firing_log.proofs.Reached.{reached_fit}
use Rattle.strip.specs.Bits.{count_of, strip_bits, depth_of}
use Rattle.reading.specs.Tenths.{tenths_colder}
use Rattle.strip.specs.Outcomes.{accepted}
use Rattle.strip.specs.Replay.{replay_reading, replay_readings, appended_all}
use Rattle.strip.proofs.Least.{depth_positive}
use Rattle.strip.proofs.Strips.{sound_strip, strip_grounded}

-- a place's depth is at most one more than the place
depth_bound : (h q : ℕ) (bits : List Bool) → get_or (depths h bits) q 0 ≤ h + q + 1
depth_bound h q [] = omega arith
depth_bound h zero (true ∷ bits) = omega arith
depth_bound h (suc q) (true ∷ bits) = omega (arith, depth_bound (suc h) q bits)
depth_bound zero q (false ∷ bits) = depth_bound zero q bits
depth_bound (suc h) q (false ∷ bits) = omega (arith, depth_bound h q bits)

pub depth_most : (bytes : List ℕ) (p : ℕ) → depth_of bytes p ≤ p + 1
depth_most bytes p = omega (arith, depth_bound 0 p (strip_bits bytes))

-- the first readings of the strip are appended, and the log is s
pub record Replaying (seats : ℕ → ℕ → ℕ → ℕ) (bytes : List ℕ) (start : State Tenths) (place : ℕ) (s : State Tenths) : Type 0 where
  pub reached : Reached tenths_colder seats s
  pub rest : appended_all seats start (replay_readings bytes) ≡ appended_all seats s (drop place (replay_readings bytes))
  pub count : s.count ≡ start.count + place
  pub capacity : s.capacity ≡ start.capacity

module _ (laws : Orders tenths_colder) (seats : ℕ → ℕ → ℕ → ℕ) (firsts : AnswersFirsts seats) (bytes : List ℕ) (start : State Tenths) (place : ℕ) (s : State Tenths)
    (r : Replaying seats bytes start place s) (more : place < count_of bytes) (room : start.count + count_of bytes ≤ start.capacity) where
  done : (x : Tenths) → Done s x (appended tenths_colder seats s x)
  done x = appended_done laws seats firsts s (reached_fit laws seats firsts s r.reached) x (omega (arith, r.count, r.capacity))

  pub never_refused : (x : Tenths) → IsOk (appended tenths_colder seats s x).0
  never_refused x = rw (done x).ok

  pub replay_more : (x : Tenths) (t : State Tenths) → x ≡ replay_reading bytes place → t ≡ (appended tenths_colder seats s x).1 → Replaying seats bytes start (place + 1) t
  replay_more x t value is =
      let y : Tenths = replay_reading bytes place in
      let within : place < length (replay_readings bytes) = omega (arith, length-map-range_with_len (replay_reading bytes) 0 (count_of bytes)) in
      let here : get_or (replay_readings bytes) place y ≡ y = get_or-map-range_with_len (replay_reading bytes) 0 (count_of bytes) place place y more (omega arith) in
      let next : drop place (replay_readings bytes) ≡ y ∷ drop (place + 1) (replay_readings bytes) = drop_more (replay_readings bytes) place y within ∙ ap (λ z. z ∷ drop (place + 1) (replay_readings bytes)) here in
      let same : t ≡ (appended tenths_colder seats s y).1 = is ∙ ap (λ z. (appended tenths_colder seats s z).1) value in
      subst (λ (u : State Tenths). Replaying seats bytes start (place + 1) u) (sym same)
      (record {
        reached = called s (append_of y) r.reached;
        rest = r.rest ∙ ap (appended_all seats s) next;
        count = omega (arith, (done y).longer.count, r.count);
        capacity = (done y).longer.capacity ∙ r.capacity;
      })

pub replay_ends : (seats : ℕ → ℕ → ℕ → ℕ) (bytes : List ℕ) (start : State Tenths) (place : ℕ) (s : State Tenths) → Replaying seats bytes start place s → count_of bytes ≤ place
    → s ≡ appended_all seats start (replay_readings bytes)
replay_ends seats bytes start place s r all =
    sym (r.rest ∙ ap (appended_all seats s) (drop_all place (replay_readings bytes) (omega (arith, length-map-range_with_len (replay_reading bytes) 0 (count_of bytes)))))

-- the reading of a place is a small natural number
pub reading_fits : (bytes : List ℕ) → accepted bytes ≡ true → (p h : ℕ) → p < count_of bytes → h ≡ depth_of bytes p → (p ≤ 32768 * h) × (32768 * h < 2 ^ 31)
reading_fits bytes sound p h within is =
    let s = sound_strip bytes sound in
    let some = depth_positive bytes (strip_grounded s) p within in
    (omega (arith, s.few), omega (arith, s.few, depth_most bytes p))

-- a log that was opened
pub opened_is : (capacity : ℕ) (readings : List Tenths) (shapes entries : List ℕ) (s : State Tenths) → opened capacity readings shapes entries ≡ Ok s → (s.capacity ≡ capacity) × (s.count ≡ 0)
opened_is capacity readings shapes entries s is = go (eqb capacity 0 || ltb 32768 capacity) (too_short capacity readings shapes entries) is
  where
    go : (a b : Bool) → cond a (Err Capacity) (cond b (Err ShortMemory) (Ok (record { capacity = capacity; count = 0; readings = readings; shapes = shapes; entries = entries }))) ≡ Ok s
        → (s.capacity ≡ capacity) × (s.count ≡ 0)
    go true b e = cc
    go false true e = cc
    go false false e =
        let t : State Tenths = record { capacity = capacity; count = 0; readings = readings; shapes = shapes; entries = entries } in
        let same : t ≡ s = cc in
        (sym (ap (λ x. x.capacity) same), sym (ap (λ x. x.count) same))
