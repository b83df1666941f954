-- Which two numbers are a sheet's.
-- Assumes nothing.
use Rattle.std.specs.Prelude.{◌≡◌, ℕ, Bool, false, ◌||◌, ◌==◌, nat_lt}
use Rattle.firing_log.specs.declared.sheet.Sheet.{Sheet}

-- no call gives a sheet with these numbers: the capacity is 0 or above 32,768, or the count is above it
abbrev pub never_given : ℕ → ℕ → Bool
never_given capacity count = capacity == 0 || (nat_lt 32768 capacity || nat_lt capacity count)

-- the sheet has these numbers, which some call gives
pub record Resumed (capacity count : ℕ) (sheet : Sheet) : Type 0 where
  pub given : never_given capacity count ≡ false
  pub capacity_is : sheet.capacity ≡ capacity
  pub count_is : sheet.count ≡ count
