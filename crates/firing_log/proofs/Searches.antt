-- On a fit log a question within the count is answered with the first coldest place.
-- Assumes nothing.
use Rattle.std.proofs.Common.{◌≡◌, ℕ, ◌+◌, ◌-◌, ◌*◌, ◌/◌, ◌%◌, ◌^◌, ◌<◌, ◌≤◌, Bool, true, false, eqb, length, get_or, Ok, Result, refl, arith}
use native.Mathlib.Nat.{pow-succ'}
use Rattle.std.proofs.lemmas.List.{length-take-le}
use Rattle.std.proofs.lemmas.Bool.{cond_both, eqb-true, eqb-false, le-ltb, lt-leb, lt-ltb}
use Rattle.reading.specs.Order.{Orders}
use Rattle.reading.specs.Coldest.{FirstColdest, places}
use Rattle.reading.proofs.Orders.{places_orders}
use Rattle.paths.specs.Laws.{AnswersFirsts}
use Rattle.firing_log.specs.State.{State, log_of}
use Rattle.firing_log.specs.Steps.{across, between, coldest, entry_at, in_block, join, level, numbered, searched}
use Rattle.firing_log.specs.declared.fault.LogFault.{LogFault}
use Rattle.firing_log.proofs.Blocks.{block_first, first_from_front, first_in_front, shape_bound}
use Rattle.firing_log.proofs.Entries.{EntryRight, entry_in_blocks}
use Rattle.firing_log.proofs.Firsts.{first_joined}
use Rattle.firing_log.proofs.Fits.{Fit}
use Rattle.firing_log.proofs.Levels.{Level, level_right}
use Rattle.firing_log.proofs.Short.{long_passes}

-- an answer is the first coldest place of l to r
pub record Finds (o : ℕ → ℕ → Bool) (l r : ℕ) (answer : Result ℕ LogFault) : Type 0 where
  pub place : ℕ
  pub is : answer ≡ Ok place
  pub first : FirstColdest o l r place

found : {o : ℕ → ℕ → Bool} {l r : ℕ} (p : ℕ) → FirstColdest o l r p → Finds o l r (Ok p)
found p first = record { place = p; is = refl; first = first }

module _ {K : Type 0} {colder : K → K → Bool} (laws : Orders colder) (seats : ℕ → ℕ → ℕ → ℕ) (firsts : AnswersFirsts seats) (s : State K) (fit : Fit colder s) where
  log_long : s.count ≤ length s.readings
  log_long = omega (arith, fit.within, fit.room.readings_long)

  is_numbered : (b : ℕ) → 8 * b < s.count → numbered colder s b ≡ true
  is_numbered b begun = lt-ltb (get_or s.shapes b 0) 1430 (rw (fit.sound.shapes_right b begun) (shape_bound colder b (log_of s)))

  -- a place that a block's number gives, and one that an entry names, among all readings in memory
  in_block_first : (b i j : ℕ) → i ≤ j → j < 8 → 8 * b + j < s.count → FirstColdest (places colder s.readings) (8 * b + i) (8 * b + j) (in_block colder seats s b i j)
  in_block_first b i j h small within =
      rw (fit.sound.shapes_right b (omega arith)) (
      first_from_front colder s.count s.readings log_long _ _ _ within
      (block_first laws seats firsts (log_of s) b i j h small (omega (arith, length-take-le s.count s.readings log_long))))

  entry_first : (b j : ℕ) → 8 * b + 8 ≤ s.count → 2 ^ j ≤ b + 1 → EntryRight (places colder s.readings) b j (get_or s.entries (entry_at b j) 0)
  entry_first b j full h =
      first_from_front colder s.count s.readings log_long _ (8 * b + 7) _ (omega arith) (fit.sound.entries_right b j full h)

  -- from l in block b to r in a later block c
  module _ (l r b c p q : ℕ) (start : l ≤ 8 * b + 7) (end : 8 * c ≤ r) (within : r < s.count)
      (left : FirstColdest (places colder s.readings) l (8 * b + 7) p) (right : FirstColdest (places colder s.readings) (8 * c) r q) where
    across_finds : (j : ℕ) → b + 1 < c → Level (c - b - 1) j → Finds (places colder s.readings) l r (across colder s b c j p q)
    across_finds j apart lev =
        let o : ℕ → ℕ → Bool = places colder s.readings in
        let laws_here : Orders o = places_orders laws s.readings in
        let w : ℕ = 2 ^ j in
        let over : c - b - 1 < 2 * w = omega (arith, lev.above, pow-succ' 2 j) in
        let under : w ≤ c - b - 1 = lev.within in
        let one : ℕ = get_or s.entries (entry_at (b + w) j) 0 in
        let two : ℕ = get_or s.entries (entry_at (c - 1) j) 0 in
        let one_right : EntryRight o (b + w) j one = entry_first (b + w) j (omega arith) (omega arith) in
        let two_right : EntryRight o (c - 1) j two = entry_first (c - 1) j (omega arith) (omega arith) in
        let one_from : 8 * (b + w + 1 - w) ≡ 8 * (b + 1) = omega arith in
        let two_from : 8 * (c - 1 + 1 - w) ≡ 8 * (c - w) = omega arith in
        let one_inside = entry_in_blocks o (b + w) j one (b + 1) (b + 1 + w) one_right (omega arith) (omega arith) in
        let two_inside = entry_in_blocks o (c - 1) j two (c - w) c two_right (omega arith) (omega arith) in
        let to_one : FirstColdest o l (8 * (b + w) + 7) (join o p one) =
        first_joined laws_here l (8 * b + 7) (8 * (b + 1)) (8 * (b + w) + 7) p one (omega arith) (omega arith) (omega arith) left (rw one_from at one_right) in
        let to_two : FirstColdest o l (8 * (c - 1) + 7) (join o (join o p one) two) =
        first_joined laws_here l (8 * (b + w) + 7) (8 * (c - w)) (8 * (c - 1) + 7) (join o p one) two (omega arith) (omega arith) (omega arith) to_one (rw two_from at two_right) in
        rw (one_inside, two_inside) (found (join o (join o (join o p one) two) q)
        (first_joined laws_here l (8 * (c - 1) + 7) (8 * c) r (join o (join o p one) two) q (omega arith) (omega arith) (omega arith) to_two right))

    between_finds : b < c → Finds (places colder s.readings) l r (between colder s b c p q)
    between_finds apart =
        let o : ℕ → ℕ → Bool = places colder s.readings in
        cond_both (eqb (c - b) 1) _ _ (Finds o l r)
        (λ (d : eqb (c - b) 1 ≡ true).
        let next : c - b ≡ 1 = eqb-true (c - b) 1 d in
        found (join o p q) (first_joined (places_orders laws s.readings) l (8 * b + 7) (8 * c) r p q (omega arith) (omega arith) (omega arith) left right))
        (λ (d : eqb (c - b) 1 ≡ false).
        let more : c - b ≡ 1 → ⊥ = eqb-false (c - b) 1 d in
        across_finds (level (c - b - 1)) (omega arith)
        (level_right (c - b - 1) (omega arith) (omega (arith, fit.few, fit.within))))

  pub searched_finds : (l r : ℕ) → l ≤ r → r < s.count → Finds (places colder s.readings) l r (searched colder seats s l r)
  searched_finds l r h within =
      let o : ℕ → ℕ → Bool = places colder s.readings in
      let b : ℕ = l / 8 in
      let c : ℕ = r / 8 in
      let l_is : 8 * b + l % 8 ≡ l = omega arith in
      let r_is : 8 * c + r % 8 ≡ r = omega arith in
      let c_is : 8 * c + 0 ≡ 8 * c = omega arith in
      rw (is_numbered b (omega arith), is_numbered c (omega arith))
      (cond_both (eqb b c) _ _ (Finds o l r)
      (λ (d : eqb b c ≡ true).
      let same : b ≡ c = eqb-true b c d in
      let r_in_b : 8 * b + r % 8 ≡ r = omega arith in
      found (in_block colder seats s b (l % 8) (r % 8)) (rw (l_is, r_in_b) at (in_block_first b (l % 8) (r % 8) (omega arith) (omega arith) (omega arith))))
      (λ (d : eqb b c ≡ false).
      let apart : b ≡ c → ⊥ = eqb-false b c d in
      between_finds l r b c (in_block colder seats s b (l % 8) 7) (in_block colder seats s c 0 (r % 8)) (omega arith) (omega arith) within
      (rw l_is at (in_block_first b (l % 8) 7 (omega arith) (omega arith) (omega arith)))
      (rw (c_is, r_is) at (in_block_first c 0 (r % 8) (omega arith) (omega arith) (omega arith))) (omega arith)))

  pub coldest_finds : (l r : ℕ) → l ≤ r → r < s.count → Finds (places colder (log_of s)) l r (coldest colder seats s l r)
  coldest_finds l r h within =
      let f = searched_finds l r h within in
      record {
        place = f.place;
        is = rw (long_passes s.capacity s.readings s.shapes s.entries fit.room, le-ltb r l h, lt-leb s.count r within) f.is;
        first = first_in_front colder s.count s.readings log_long l r f.place within f.first;
      }
