-- Shape numbers and answers of blocks, from what holds of every order of their places.
-- Assumes nothing.
use Rattle.std.proofs.Common.{◌≡◌, ℕ, ◌<◌, ◌≤◌, Bool, List, length, sym, ap, ◌∙◌, arith}
use Rattle.std.proofs.lemmas.Grind.{common_steps}
use Rattle.std.proofs.lemmas.Bool.{cases_Bool, le-ltb, ltb-true, ltb-false}
use Rattle.reading.specs.Order.{Orders}
use Rattle.reading.specs.Coldest.{places}
use Rattle.reading.proofs.Orders.{places_orders}
use Rattle.shape.specs.Blocks.{FirstColdestOfBlocks, CellsArePaths, BlockAnswer}
use Rattle.paths.specs.Cell.{mask}
use Rattle.paths.specs.Laws.{AnswersFirsts, EqualNumbers}
use Rattle.paths.specs.Number.{number, shape, weigh}
use Rattle.shape.specs.Outcomes.{seat_answer}
use Rattle.paths.specs.Path.{moves}
use Rattle.paths.proofs.Answers.{path_of_number, firsts_from_moves, moves_from_firsts}
use Rattle.paths.proofs.Ranks.{full_same, full_moves, number_bound}

shape_full : {K : Type 0} (colder : K → K → Bool) (xs : List K) → length xs ≡ 8 → shape colder xs ≡ number (places colder xs) 8
shape_full colder xs e = ap (number (places colder xs)) e

-- moves of eight places are known by their weight
moves_from_number : (o u : ℕ → ℕ → Bool) → number o 8 ≡ number u 8 → moves o 8 ≡ moves u 8
moves_from_number o u same = full_same 0 0 (moves o 8) (moves u 8) (omega arith) (omega arith) (full_moves o 8) (full_moves u 8) same

pub equal_numbers : {K L : Type 0} {colder : K → K → Bool} {other : L → L → Bool} → Orders colder → Orders other → EqualNumbers colder other
equal_numbers {K} {L} {colder} {other} ko lo = record {
  answers = λ xs ys ex ey same.
      firsts_from_moves (places_orders ko xs) (places_orders lo ys) 8
      (moves_from_number (places colder xs) (places other ys) (sym (shape_full colder xs ex) ∙ same ∙ shape_full other ys ey));
  numbers = λ xs ys ex ey firsts.
      shape_full colder xs ex
      ∙ ap (weigh 0 0) (moves_from_firsts (places_orders ko xs) (places_orders lo ys) 8 firsts).1
      ∙ sym (shape_full other ys ey);
}

pub cells_show_paths : {K : Type 0} (colder : K → K → Bool) → CellsArePaths colder
cells_show_paths colder block j few k = ap mask (path_of_number (places colder block) (length block) j few k)

module _ {K : Type 0} {colder : K → K → Bool} (orders : Orders colder) (f : ℕ → ℕ → ℕ → ℕ) (firsts : AnswersFirsts f) where
  pub first_coldest_of_blocks : FirstColdestOfBlocks colder f
  first_coldest_of_blocks block i j few l k = firsts (places colder block) (places_orders orders block) (length block) i j few l k

  -- an answer from the number of a block, for a range that ends within it or past eight places
  pub block_answered : (block : List K) (i j : ℕ) → length block ≤ 8 → (j < 8 → j < length block) → BlockAnswer colder block i j (seat_answer f (shape colder block) i j)
  block_answered block i j few ends = grind (arith, common_steps, cases_Bool, first_coldest_of_blocks, le-ltb, ltb-false, ltb-true, number_bound)
