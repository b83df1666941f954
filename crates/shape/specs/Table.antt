-- What is right about a table of ballot numbers, as one test over the whole table.
-- Assumes nothing.
use Rattle.std.specs.Prelude.{ℕ, suc, Bool, true, ◌&&◌, List, [], ◌∷◌, length, ◌==◌, nat_eq}
use Rattle.paths.specs.Ballot.{ballot}
use Rattle.shape.specs.declared.ballot.Row.{Row}

-- f passes at each entry and its place, counted from i
abbrev pub every : {X : Type 0} → (ℕ → X → Bool) → ℕ → List X → Bool
every f i [] = true
every f i (x ∷ xs) = f i x && every f (suc i) xs

-- row p has nine columns, each its ballot number
abbrev pub right_row : ℕ → Row → Bool
right_row p row = length row.columns == 9 && every (λ q x. nat_eq x (ballot p q)) 0 row.columns

-- there are nine rows, each right
abbrev pub right_rows : List Row → Bool
right_rows rows = length rows == 9 && every right_row 0 rows
