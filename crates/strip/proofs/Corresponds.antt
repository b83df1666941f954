-- Strips and logs correspond.
-- Assumes nothing.
use Rattle.std.proofs.Common.{◌≡◌, ℕ, ◌+◌, ◌<◌, ◌≤◌, Bool, List, [], ◌∷◌, ◌++◌, length, take, Some, sym, ap, ◌∙◌, subst, append_assoc, append-nil, arith}
use Rattle.std.specs.List.{slice_get}
use Rattle.std.proofs.lemmas.List.FromFn.{length-map-range_with_len, get_or-map-range_with_len}
use Rattle.std.proofs.lemmas.List.{length_push}
use Rattle.std.proofs.lemmas.Option.{slice_get-get_or}
use Rattle.reading.specs.Order.{Orders}
use Rattle.reading.specs.Coldest.{places, colder_or_missing}
use Rattle.reading.specs.declared.tenths.Tenths.{Tenths}
use Rattle.reading.proofs.Orders.{places_orders}
use Rattle.paths.specs.Laws.{AnswersFirsts}
use Rattle.paths.proofs.Moves.{Agree}
use Rattle.firing_log.specs.Runs.{Reached, new, called, append_of}
use Rattle.firing_log.specs.State.{State, log_of}
use Rattle.firing_log.specs.Steps.{appended}
use Rattle.firing_log.specs.Strip.{bits_of, strip, strip_of}
use Rattle.firing_log.proofs.Draws.{same_strip}
use Rattle.firing_log.proofs.Fits.{Fit}
use Rattle.firing_log.proofs.Grown.{appended_done}
use Rattle.firing_log.proofs.Reached.{reached_fit}
use Rattle.firing_log.proofs.Searches.{coldest_finds}
use Rattle.strip.specs.Bits.{count_of, strip_bits, IsStrip}
use Rattle.strip.specs.Laws.{StripAnswers, WrittenStrips, ReplaysBack}
use Rattle.reading.specs.Tenths.{tenths_colder}
use Rattle.strip.specs.Replay.{replay_reading, replay_readings, appended_all}
use Rattle.reading.proofs.Lawful.{tenths_orders}
use Rattle.strip.proofs.Appends.{opened_is}
use Rattle.strip.proofs.Least.{least_from_first}
use Rattle.strip.proofs.Strips.{bits_written, strip_count, written_is_strip, strip_back, depth_order, depth_bits}

-- ---- a strip and a log with its bits answer alike

module _ {K : Type 0} {colder : K → K → Bool} (laws : Orders colder) (seats : ℕ → ℕ → ℕ → ℕ) (firsts : AnswersFirsts seats) (s : State K) (reached : Reached colder seats s) where
  fit : Fit colder s
  fit = reached_fit laws seats firsts s reached

  pub answers_alike : (bytes : List ℕ) → IsStrip bytes → count_of bytes ≡ s.count → bits_of (places colder (log_of s)) (count_of bytes) ≡ strip_bits bytes → StripAnswers colder seats bytes s
  answers_alike bytes is count bits l r h within =
      let f = coldest_finds laws seats firsts s fit l r h within in
      (f.place, least_from_first bytes is (places_orders laws (log_of s)) bits l r f.place h (omega arith) f.first, f.is)

  small : s.count ≤ 32768
  small = omega (arith, fit.within, fit.few)

  written_accepted : IsStrip (strip_of colder s)
  written_accepted = written_is_strip (places colder (log_of s)) s.count small

  written_answers : StripAnswers colder seats (strip_of colder s) s
  written_answers =
      let o : ℕ → ℕ → Bool = places colder (log_of s) in
      let count = strip_count o s.count small in
      answers_alike (strip_of colder s) written_accepted count (ap (bits_of o) count ∙ sym (bits_written o s.count small))

pub written_strips : {K : Type 0} {colder : K → K → Bool} → Orders colder → (seats : ℕ → ℕ → ℕ → ℕ) → AnswersFirsts seats → WrittenStrips colder seats
written_strips laws seats firsts = record { accepted = written_accepted laws seats firsts; answers = written_answers laws seats firsts }

-- ---- a strip replayed

-- a log of tenths and its readings
record Holding (seats : ℕ → ℕ → ℕ → ℕ) (capacity : ℕ) (xs : List Tenths) (s : State Tenths) : Type 0 where
  reached : Reached tenths_colder seats s
  room : s.capacity ≡ capacity
  log : log_of s ≡ xs
  count : s.count ≡ length xs

module _ (seats : ℕ → ℕ → ℕ → ℕ) (firsts : AnswersFirsts seats) where
  holding_all : (capacity : ℕ) (xs ys : List Tenths) (s : State Tenths) → length xs + length ys ≤ capacity → Holding seats capacity xs s → Holding seats capacity (xs ++ ys) (appended_all seats s ys)
  holding_all capacity xs [] s fits h = subst (λ (l : List Tenths). Holding seats capacity l s) (sym (append-nil xs)) h
  holding_all capacity xs (y ∷ ys) s fits h =
      let done = appended_done tenths_orders seats firsts s (reached_fit tenths_orders seats firsts s h.reached) y (omega (arith, h.room, h.count)) in
      subst (λ (l : List Tenths). Holding seats capacity l (appended_all seats (appended tenths_colder seats s y).1 ys)) (append_assoc xs (y ∷ []) ys)
      (holding_all capacity (xs ++ (y ∷ [])) ys (appended tenths_colder seats s y).1 (omega (arith, length_push xs y))
      (record {
        reached = called s (append_of y) h.reached;
        room = done.longer.capacity ∙ h.room;
        log = done.longer.log ∙ ap (λ l. l ++ (y ∷ [])) h.log;
        count = done.longer.count ∙ ap (λ n. n + 1) h.count ∙ sym (length_push xs y);
      }))

  readings_agree : (bytes : List ℕ) → Agree (count_of bytes) (places tenths_colder (replay_readings bytes)) (depth_order bytes)
  readings_agree bytes i j hi hj =
      let f = replay_reading bytes in
      let n : ℕ = count_of bytes in
      let at : (k : ℕ) → k < n → slice_get (replay_readings bytes) k ≡ Some (f k) =
      λ k h. slice_get-get_or (replay_readings bytes) k (f k) (omega (arith, length-map-range_with_len f 0 n)) ∙ ap Some (get_or-map-range_with_len f 0 n k k (f k) h (omega arith)) in
      ap (λ a. colder_or_missing tenths_colder a (slice_get (replay_readings bytes) j)) (at i hi) ∙ ap (λ b. colder_or_missing tenths_colder (Some (f i)) b) (at j hj)

  pub replays_back : ReplaysBack seats
  replays_back bytes small is capacity readings shapes entries s made room =
      let t : State Tenths = appended_all seats s (replay_readings bytes) in
      let n : ℕ = count_of bytes in
      let fresh = opened_is capacity readings shapes entries s made in
      let long : length (replay_readings bytes) ≡ n = length-map-range_with_len (replay_reading bytes) 0 n in
      let empty : log_of s ≡ [] = ap (λ k. take k s.readings) fresh.1 in
      let held : Holding seats capacity (replay_readings bytes) t =
      holding_all capacity [] (replay_readings bytes) s (omega (arith, long))
      (record { reached = new capacity readings shapes entries s made; room = fresh.0; log = empty; count = fresh.1 }) in
      let count : t.count ≡ n = held.count ∙ long in
      let same : strip_of tenths_colder t ≡ bytes =
      ap (λ l. strip (places tenths_colder l) t.count) held.log ∙ ap (strip (places tenths_colder (replay_readings bytes))) count
      ∙ same_strip (places tenths_colder (replay_readings bytes)) (depth_order bytes) n (readings_agree bytes)
      ∙ strip_back bytes small is (depth_order bytes) (depth_bits bytes is) in
      let tn : t.count ≤ 32768 = omega (arith, count, is.few) in
      let o : ℕ → ℕ → Bool = places tenths_colder (log_of t) in
      record {
        reached = held.reached;
        same_strip = same;
        answers = answers_alike tenths_orders seats firsts t held.reached bytes is (sym count) (ap (bits_of o) (sym count) ∙ sym (bits_written o t.count tn) ∙ ap strip_bits same);
      }
