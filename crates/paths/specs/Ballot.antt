-- Ballot numbers, by their recurrence.
-- Assumes nothing.
use Rattle.std.specs.Prelude.{◌≡◌, ℕ, zero, suc, ◌+◌, ◌<◌, ◌≤◌, cond, nat_le}

-- row p, below row p - 1
abbrev pub next_row : (ℕ → ℕ) → ℕ → ℕ → ℕ
next_row above p zero = 0
next_row above p (suc q) = cond (nat_le p (suc q)) (next_row above p q + above (suc q)) 0

unfoldable pub ballot : ℕ → ℕ → ℕ
ballot zero q = 1
ballot (suc p) q = next_row (ballot p) (suc p) q

-- the rule C(0,0) = 1, C(p,q) = C(p,q-1) + C(p-1,q) where p ≤ q and q is not 0, a term with a negative index being 0, and 0 elsewhere
pub record BallotRule (C : ℕ → ℕ → ℕ) : Type 0 where
  pub start : C 0 0 ≡ 1
  pub edge : (q : ℕ) → C 0 (suc q) ≡ C 0 q
  pub inner : (p q : ℕ) → p ≤ q → C (suc p) (suc q) ≡ C (suc p) q + C p (suc q)
  pub elsewhere : (p q : ℕ) → q < p → C p q ≡ 0
