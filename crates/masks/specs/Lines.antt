-- The lines of the printed mask table.
-- Assumes nothing.
use Rattle.std.specs.Prelude.{ℕ, ◌+◌, ◌/◌, ◌%◌, cond, List, [], ◌∷◌, ◌++◌, decimal, nat_lt}
use Rattle.std.specs.List.{flat_map}

-- the digit of a value below 16, in lower case
abbrev pub digit : ℕ → ℕ
digit value = cond (nat_lt value 10) (48 + value) (87 + value)

-- a cell in two digits, after a space
abbrev pub cell_text : ℕ → List ℕ
cell_text cell = 32 ∷ digit (cell / 16) ∷ digit (cell % 16) ∷ []

-- a number and its cells
abbrev pub line_text : ℕ → List ℕ → List ℕ
line_text number cells = decimal number ++ flat_map cell_text cells
