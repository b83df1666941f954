-- From a shape number back to the path: the moves of every block that carries it, the path after each arrival, and the first coldest place read off the path.
-- Assumes nothing.
use Rattle.std.specs.Prelude.{ℕ, zero, suc, ◌+◌, ◌-◌, ◌^◌, Bool, true, false, cond, List, [], ◌∷◌, nat_le, nat_lt}
use Rattle.paths.specs.Ballot.{ballot}

-- the moves that weigh t where c places have arrived and k were removed, at most `steps` of them: an arrival while t is below what a removal would add
abbrev pub unrank : ℕ → ℕ → ℕ → ℕ → List Bool
unrank zero c k t = []
unrank (suc steps) c k t =
    cond (nat_lt c 8)
    (cond (nat_lt t (ballot (7 - c) (8 - k))) (true ∷ unrank steps (suc c) k t) (false ∷ unrank steps c (suc k) (t - ballot (7 - c) (8 - k))))
    []

-- the moves of the full blocks with number t: eight arrivals and at most seven removals
unfoldable pub moves_of : ℕ → List Bool
moves_of t = unrank 16 0 0 t

-- the moves up to the arrival of place j
abbrev pub up_to : ℕ → List Bool → List Bool
up_to j [] = []
up_to zero (true ∷ rest) = true ∷ []
up_to (suc j) (true ∷ rest) = true ∷ up_to j rest
up_to j (false ∷ rest) = false ∷ up_to j rest

abbrev pub without_last : List ℕ → List ℕ
without_last [] = []
without_last (t ∷ path) = path

-- the path that moves make of a path, its last place first, where c is the next place to arrive
abbrev pub retrace : ℕ → List ℕ → List Bool → List ℕ
retrace c path [] = path
retrace c path (true ∷ rest) = retrace (suc c) (c ∷ path) rest
retrace c path (false ∷ rest) = retrace c (without_last path) rest

-- the path of the blocks with number t just after place j arrived
unfoldable pub path_of : ℕ → ℕ → List ℕ
path_of t j = retrace 0 [] (up_to j (moves_of t))

-- the lowest place from i on, of a path that goes on downward below place p
abbrev pub lowest_from : ℕ → ℕ → List ℕ → ℕ
lowest_from i p [] = p
lowest_from i p (t ∷ path) = cond (nat_le i t) (lowest_from i t path) p

-- the first coldest place over i to j in the blocks with number t
unfoldable pub seat : ℕ → ℕ → ℕ → ℕ
seat t i j = lowest_from i j (path_of t j)

-- places as the bits of a byte, place 0 the most significant
abbrev pub mask : List ℕ → ℕ
mask [] = 0
mask (p ∷ path) = 2 ^ (7 - p) + mask path

-- the cell of the mask table for number t and end j
abbrev pub cell : ℕ → ℕ → ℕ
cell t j = mask (path_of t j)
