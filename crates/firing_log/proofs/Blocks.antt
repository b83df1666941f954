-- The front of a list and its blocks: their places, and the first coldest place in a block by its shape number.
-- Assumes nothing.
use Rattle.std.proofs.Common.{◌≡◌, ℕ, ◌+◌, ◌-◌, ◌*◌, ◌<◌, ◌≤◌, min, Bool, List, length, take, drop, sym, ap, ◌∙◌, ap₂, arith}
use Rattle.std.proofs.iter.runs.Lists.{nth_drop}
use Rattle.std.proofs.lemmas.List.{length-take, length-drop, take-take, drop-take}
use Rattle.reading.specs.Order.{Orders}
use Rattle.reading.specs.Coldest.{FirstColdest, places, colder_or_missing}
use Rattle.reading.proofs.Orders.{places_orders}
use Rattle.paths.specs.Laws.{AnswersFirsts}
use Rattle.paths.specs.Number.{shape}
use Rattle.paths.proofs.Moves.{agree_sym}
use Rattle.paths.proofs.Ranks.{number_bound}
use Rattle.shape.proofs.Stacks.{places_front}
use Rattle.firing_log.specs.State.{block}
use Rattle.firing_log.proofs.Firsts.{AgreeFrom, first_agreed, first_moved}

-- ---- the front of a list

module _ {K : Type 0} (colder : K → K → Bool) (n : ℕ) (xs : List K) (long : n ≤ length xs) (l r p : ℕ) (within : r < n) where
  -- for a range in the front of a list it does not matter what comes after
  pub first_in_front : FirstColdest (places colder xs) l r p → FirstColdest (places colder (take n xs)) l r p
  first_in_front = first_agreed (length (take n xs)) l r p (places_front colder n xs) (omega (arith, length-take n xs))

  pub first_from_front : FirstColdest (places colder (take n xs)) l r p → FirstColdest (places colder xs) l r p
  first_from_front =
      first_agreed (length (take n xs)) l r p (agree_sym (length (take n xs)) (places_front colder n xs)) (omega (arith, length-take n xs))

-- ---- blocks

pub length_block : {K : Type 0} (b : ℕ) (xs : List K) → length (block b xs) ≡ min 8 (length xs - 8 * b)
length_block b xs = length-take 8 (drop (8 * b) xs) ∙ ap (min 8) (length-drop (8 * b) xs)

-- a full block of the front of a list is the list's
pub block_in_front : {K : Type 0} (b n : ℕ) (xs : List K) → 8 * b + 8 ≤ n → block b (take n xs) ≡ block b xs
block_in_front b n xs h =
    let e : n ≡ 8 * b + (n - 8 * b) = omega arith in
    ap (λ m. take 8 (drop (8 * b) (take m xs))) e
    ∙ ap (take 8) (drop-take (8 * b) (n - 8 * b) xs)
    ∙ take-take 8 (n - 8 * b) (drop (8 * b) xs) (omega arith)

places_dropped : {K : Type 0} (colder : K → K → Bool) (n : ℕ) (xs : List K) (i j : ℕ) → places colder (drop n xs) i j ≡ places colder xs (n + i) (n + j)
places_dropped colder n xs i j = ap₂ (colder_or_missing colder) (nth_drop n xs i) (nth_drop n xs j)

pub block_places : {K : Type 0} (colder : K → K → Bool) (b : ℕ) (xs : List K)
    → AgreeFrom (8 * b) (length (block b xs)) (places colder (block b xs)) (places colder xs)
block_places colder b xs i j hi hj = sym (places_front colder 8 (drop (8 * b) xs) i j hi hj) ∙ places_dropped colder (8 * b) xs i j

pub shape_bound : {K : Type 0} (colder : K → K → Bool) (b : ℕ) (xs : List K) → shape colder (block b xs) < 1430
shape_bound colder b xs = number_bound (places colder (block b xs)) (length (block b xs)) (omega (arith, length_block b xs))

-- an answerer's place in a block, by the block's number, is the first coldest of the list
pub block_first : {K : Type 0} {colder : K → K → Bool} → Orders colder → (seats : ℕ → ℕ → ℕ → ℕ) → AnswersFirsts seats
    → (xs : List K) (b i j : ℕ) → i ≤ j → j < 8 → 8 * b + j < length xs
    → FirstColdest (places colder xs) (8 * b + i) (8 * b + j) (8 * b + seats (shape colder (block b xs)) i j)
block_first {colder = colder} laws seats firsts xs b i j h below within =
    let inside : j < length (block b xs) = omega (arith, length_block b xs) in
    first_moved (8 * b) (length (block b xs)) i j (seats (shape colder (block b xs)) i j) (block_places colder b xs) inside
    (firsts (places colder (block b xs)) (places_orders laws (block b xs)) (length (block b xs)) i j (omega (arith, length_block b xs)) h inside)
