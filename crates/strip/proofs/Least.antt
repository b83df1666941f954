-- The last place of least depth is the first coldest place of every log that has the strip.
-- Assumes nothing.
use Rattle.std.proofs.Common.{◌≡◌, ℕ, zero, suc, ◌*◌, ◌<◌, ◌≤◌, Bool, true, false, List, [], ◌∷◌, get_or, sym, ◌∙◌, subst, arith}
use Rattle.std.proofs.lemmas.Bool.{ltb-false}
use Rattle.reading.specs.Order.{Orders}
use Rattle.reading.specs.Coldest.{FirstColdest}
use Rattle.paths.specs.Path.{depths}
use Rattle.paths.proofs.Answers.{firsts_from_moves}
use Rattle.paths.proofs.Paths.{leads_from_first, first_unique}
use Rattle.shape.proofs.Replays.{by_key, key_orders, replay_key}
use Rattle.firing_log.specs.Strip.{bits_of}
use Rattle.firing_log.proofs.Alike.{moves_from_bits}
use Rattle.strip.specs.Bits.{count_of, strip_bits, height_after, ones, IsStrip, depth_of, LastLeast}
use Rattle.strip.specs.Outcomes.{grounded}
use Rattle.strip.proofs.Balances.{height_counts, length_counts}
use Rattle.strip.proofs.Bytes.{length_bits_from}
use Rattle.strip.proofs.Strips.{depth_order, depth_bits, grounded_zero, least_first, strip_grounded}

pub depth_some : (h q : ℕ) (bits : List Bool) → q < ones bits → 0 < get_or (depths h bits) q 0
depth_some h q [] l = absurd (omega arith)
depth_some h zero (true ∷ bits) l = omega arith
depth_some h (suc q) (true ∷ bits) l = depth_some (suc h) q bits (omega arith)
depth_some zero q (false ∷ bits) l = depth_some zero q bits l
depth_some (suc h) q (false ∷ bits) l = depth_some h q bits l

pub depth_positive : (bytes : List ℕ) → grounded (height_after 0 (strip_bits bytes)) ≡ true → (q : ℕ) → q < count_of bytes → 0 < depth_of bytes q
depth_positive bytes sound q h =
    let ground = grounded_zero (height_after 0 (strip_bits bytes)) sound in
    depth_some 0 q (strip_bits bytes) (omega (arith, height_counts 0 0 (strip_bits bytes) ground, length_counts (strip_bits bytes), length_bits_from (2 * count_of bytes) 16 bytes))

first_least : (d : ℕ → ℕ) (n l r p : ℕ) → n ≤ 32768 → r < n → ((q : ℕ) → q < n → 0 < d q) → FirstColdest (by_key (replay_key d)) l r p → LastLeast d l r p
first_least d n l r p few within pos first =
    let leads = leads_from_first (key_orders (replay_key d)) l r p first in
    record {
      from = first.from;
      to = first.to;
      least = λ q low high. omega (arith, ltb-false (replay_key d q) (replay_key d p) (first.coldest q low high), pos q (omega arith), pos p (omega (arith, first.to)), first.to);
      last = λ q low high. omega (arith, ltb-false (replay_key d q) (replay_key d p) (leads.after q low high), pos q (omega arith), pos p (omega (arith, first.to)), first.to);
    }

module _ (bytes : List ℕ) (s : IsStrip bytes) {o : ℕ → ℕ → Bool} (laws : Orders o) (same : bits_of o (count_of bytes) ≡ strip_bits bytes) where
  some_depth : (q : ℕ) → q < count_of bytes → 0 < depth_of bytes q
  some_depth = depth_positive bytes (strip_grounded s)

  -- for a caller: what a strip answers is what a log with its bits answers
  pub first_from_least : (l r p : ℕ) → l ≤ r → r < count_of bytes → LastLeast (depth_of bytes) l r p → FirstColdest o l r p
  first_from_least l r p h within least =
      let f = firsts_from_moves laws (key_orders (replay_key (depth_of bytes))) (count_of bytes) (moves_from_bits o (depth_order bytes) (count_of bytes) (same ∙ sym (depth_bits bytes s))) l r h within in
      let at : f.0 ≡ p = first_unique f.2 (least_first (depth_of bytes) (count_of bytes) l r p s.few within some_depth least) in
      subst (λ (q : ℕ). FirstColdest o l r q) at f.1

  -- and the other way round
  pub least_from_first : (l r p : ℕ) → l ≤ r → r < count_of bytes → FirstColdest o l r p → LastLeast (depth_of bytes) l r p
  least_from_first l r p h within first =
      let f = firsts_from_moves laws (key_orders (replay_key (depth_of bytes))) (count_of bytes) (moves_from_bits o (depth_order bytes) (count_of bytes) (same ∙ sym (depth_bits bytes s))) l r h within in
      let at : f.0 ≡ p = first_unique f.1 first in
      subst (λ (q : ℕ). LastLeast (depth_of bytes) l r q) at (first_least (depth_of bytes) (count_of bytes) l r f.0 s.few within some_depth f.2)
