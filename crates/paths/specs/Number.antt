-- Shape numbers: eight places, by the order of their readings, as a number from 0 to 1,429.
-- Assumes nothing.
use Rattle.std.specs.Prelude.{ℕ, suc, ◌+◌, ◌-◌, Bool, true, false, List, [], ◌∷◌, length}
use Rattle.reading.specs.Coldest.{places}
use Rattle.paths.specs.Ballot.{ballot}
use Rattle.paths.specs.Path.{moves}

-- what moves add up to, where c places have arrived and k were removed before: a removal adds C(7 - c, 8 - k)
abbrev pub weigh : ℕ → ℕ → List Bool → ℕ
weigh c k [] = 0
weigh c k (true ∷ rest) = weigh (suc c) k rest
weigh c k (false ∷ rest) = ballot (7 - c) (8 - k) + weigh c (suc k) rest

-- the number of the first m places, at most eight
abbrev pub number : (ℕ → ℕ → Bool) → ℕ → ℕ
number o m = weigh 0 0 (moves o m)

-- the number that a block of at most eight readings carries
abbrev pub shape : {K : Type 0} → (K → K → Bool) → List K → ℕ
shape colder block = number (places colder block) (length block)
