-- The path: the monotone stack of places that no later reading has been colder than, and the moves that make it.
-- `o i j` says that the reading at place i is colder than the one at place j. Places arrive in order, from place 0 on.
-- Assumes nothing.
use Rattle.std.specs.Prelude.{ℕ, zero, suc, Bool, true, false, cond, List, [], ◌∷◌, ◌++◌}

-- what is left of a path, its last place first, when place c arrives: c removes the last place while it is colder than the reading there
abbrev pub left : (ℕ → ℕ → Bool) → ℕ → List ℕ → List ℕ
left o c [] = []
left o c (t ∷ path) = cond (o c t) (left o c path) (t ∷ path)

-- the moves of that arrival: `false` for each removal, then `true` for c, which joins the end
abbrev pub arrival : (ℕ → ℕ → Bool) → ℕ → List ℕ → List Bool
arrival o c [] = true ∷ []
arrival o c (t ∷ path) = cond (o c t) (false ∷ arrival o c path) (true ∷ [])

-- the path after the first n places have arrived, its last place first
unfoldable pub path : (ℕ → ℕ → Bool) → ℕ → List ℕ
path o zero = []
path o (suc n) = n ∷ left o n (path o n)

-- all moves of the first n places
unfoldable pub moves : (ℕ → ℕ → Bool) → ℕ → List Bool
moves o zero = []
moves o (suc n) = moves o n ++ arrival o n (path o n)

-- the depth of each place that arrives, where h places are on the path: ones minus zeros up to and including its one
abbrev pub depths : ℕ → List Bool → List ℕ
depths h [] = []
depths h (true ∷ rest) = suc h ∷ depths (suc h) rest
depths zero (false ∷ rest) = depths zero rest
depths (suc h) (false ∷ rest) = depths h rest
