-- The first coldest place of a range, read off the cell of a number and an end.
-- Assumes nothing.
use Rattle.std.proofs.Common.{◌≡◌, ℕ, zero, suc, ◌+◌, ◌-◌, ◌*◌, ◌/◌, ◌^◌, ◌<◌, ◌≤◌, Bool, true, false, List, [], ◌∷◌, sym, ap, ◌∙◌, ⊎_elim, add-mul, arith, pow_pos, pow-add}
use lib.Bits.{bit_and}
use lib.Count.{count_leading_zeros}
use Rattle.std.proofs.lemmas.Nat.{shr_high}
use Rattle.std.proofs.lemmas.Bool.{cases_Bool, le-leb}
use Rattle.paths.specs.Cell.{path_of, seat, lowest_from, mask, cell}
use Rattle.paths.specs.Path.{left, path}
use Rattle.paths.proofs.Answers.{path_of_number}
use Rattle.shape.proofs.Masks.{Falling, leading_lowest}
use Rattle.paths.proofs.Moves.{left_below, path_below}
use Rattle.shape.proofs.Replays.{by_key, sample_key, sample_number}

-- the bits from place i on
pub bits_from : (i : ℕ) → i ≤ 8 → 255 / 2 ^ i ≡ 2 ^ (8 - i) - 1
bits_from i h =
    let high : ℕ = 2 ^ (8 - i) - 1 in
    let low : ℕ = 2 ^ i - 1 in
    let pos = pow_pos i in
    let whole : 2 ^ (8 - i) * 2 ^ i ≡ 256 = sym (pow-add 2 (8 - i) i) ∙ (let e : 8 - i + i ≡ 8 = omega arith in ap (λ k. 2 ^ k) e) in
    let more : high + 1 ≡ 2 ^ (8 - i) = omega (arith, pow_pos (8 - i)) in
    let split : high * 2 ^ i + low ≡ 255 = omega (arith, add-mul high 1 (2 ^ i), ap (λ n. n * 2 ^ i) more, whole, pos) in
    ap (λ n. n / 2 ^ i) (sym split) ∙ shr_high high i low (omega (arith, pos))

module _ (o : ℕ → ℕ → Bool) where
  left_falling : (c : ℕ) (st : List ℕ) → Falling st → Falling (left o c st)
  left_falling c [] f = tt
  left_falling c (t ∷ st) f =
      ⊎_elim (λ (d : o c t ≡ true). rw d (left_falling c st f.1)) (λ (d : o c t ≡ false). rw d f) (cases_Bool (o c t))

  path_falling : (n : ℕ) → Falling (path o n)
  unfolding path
  path_falling zero = tt
  path_falling (suc n) = (left_below o n n (path o n) (path_below o n), left_falling n (path o n) (path_falling n))

  seat_on_path : (i j : ℕ) → i ≤ j → j < 8 → count_leading_zeros 8 (bit_and (mask (path o (suc j))) (255 / 2 ^ i)) ≡ lowest_from i j (path o (suc j))
  unfolding path
  seat_on_path i j h k =
      rw (le-leb i j h)
      (ap (λ m. count_leading_zeros 8 (bit_and (mask (j ∷ left o j (path o j))) m)) (bits_from i (omega arith))
      ∙ leading_lowest i j (left o j (path o j)) (path_falling (suc j)) h k)

-- for a caller: each number below 1,430 has a path that begins with the end
pub sampled : (t j : ℕ) → t < 1430 → j < 8 → path_of t j ≡ path (by_key (sample_key t)) (suc j)
sampled t j h k = ap (λ n. path_of n j) (sym (sample_number t h)) ∙ path_of_number (by_key (sample_key t)) 8 j (omega arith) k

pub cell_seat : (t i j : ℕ) → t < 1430 → i ≤ j → j < 8 → count_leading_zeros 8 (bit_and (cell t j) (255 / 2 ^ i)) ≡ seat t i j
unfolding seat
cell_seat t i j h l k = rw (sampled t j h k) (seat_on_path (by_key (sample_key t)) i j l k)
