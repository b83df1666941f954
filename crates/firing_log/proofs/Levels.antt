-- Levels: the largest power of two that is not above a number.
-- Assumes nothing.
use Rattle.std.proofs.Common.{◌≡◌, ℕ, zero, suc, ◌+◌, ◌-◌, ◌*◌, ◌%◌, ◌^◌, ◌<◌, ◌≤◌, true, false, leb, ⊎_elim, arith, pow_mono}
use native.Mathlib.Nat.{pow-succ'}
use Rattle.std.proofs.lemmas.Nat.{one_shl}
use Rattle.std.proofs.lemmas.Bool.{cases_Bool, cases_lt, leb-true, leb-false}
use Rattle.firing_log.specs.Steps.{level_up_to, level}

-- j is the level of m
pub record Level (m j : ℕ) : Type 0 where
  pub within : 2 ^ j ≤ m
  pub above : m < 2 ^ suc j

level_up_to_right : (k m : ℕ) → 1 ≤ m → m < 2 ^ suc k → Level m (level_up_to k m)
level_up_to_right zero m some below = record { within = some; above = below }
level_up_to_right (suc k) m some below =
    ⊎_elim (λ (d : leb (2 ^ suc k) m ≡ true). rw d (record { within = leb-true (2 ^ suc k) m d; above = below }))
    (λ (d : leb (2 ^ suc k) m ≡ false). rw d (level_up_to_right k m some (leb-false (2 ^ suc k) m d)))
    (cases_Bool (leb (2 ^ suc k) m))

pub level_right : (m : ℕ) → 1 ≤ m → m ≤ 4096 → Level m (level m)
unfolding level
level_right m some few = level_up_to_right 12 m some (omega arith)

-- a power of two that is below another, or not above what another is above, has the smaller exponent
pub exponent_below : (i j m : ℕ) → 2 ^ i ≤ m → m < 2 ^ j → i < j
exponent_below i j m within above =
    ⊎_elim (λ (h : i < j). h) (λ (h : j ≤ i). absurd (omega (arith, pow_mono h))) (cases_lt i j)

-- a level is at most 12, so that a block's thirteen entries hold all of them
pub few_levels : (j m : ℕ) → 2 ^ j ≤ m → m ≤ 4096 → j < 13
few_levels j m within few = exponent_below j 13 m within (omega arith)

-- the level, as a logarithm rounded down gives it
pub level_is : (m j : ℕ) → 1 ≤ m → m ≤ 4096 → 2 ^ j ≤ m → m < 2 * 2 ^ j → j ≡ level m
level_is m j some few within above =
    let right : Level m (level m) = level_right m some few in
    let double : 2 ^ suc j ≡ 2 * 2 ^ j = pow-succ' 2 j in
    omega (arith, exponent_below j (suc (level m)) m within right.above, exponent_below (level m) (suc j) m right.within (omega (arith, double, above)))

-- what the logarithm of the number of whole blocks between two blocks says
pub record Covering (b c j : ℕ) : Type 0 where
  pub shifted : (1 * 2 ^ j) % 2 ^ 64 ≡ 2 ^ j
  pub covers : b + 2 ^ j < c
  pub few : j < 13
  pub levelled : j ≡ level (c - b - 1)

pub covering : (b c j : ℕ) → b + 1 < c → c ≤ 4096 → 2 ^ j ≤ c - b - 1 → c - b - 1 < 2 * 2 ^ j → Covering b c j
covering b c j apart few within above =
    let small : j < 13 = few_levels j (c - b - 1) within (omega arith) in
    record { shifted = one_shl j 64 (omega arith); covers = omega arith; few = small; levelled = level_is (c - b - 1) j (omega arith) (omega arith) within above }
