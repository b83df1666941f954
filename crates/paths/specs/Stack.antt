-- A path held in an array, its lowest place first, as the list that the path rule speaks of.
-- Assumes nothing.
use Rattle.std.specs.Prelude.{ℕ, zero, suc, ◌<◌, Bool, List, [], ◌∷◌, Some, slice_index}
use Rattle.std.specs.List.{slice_get}
use Rattle.reading.specs.Coldest.{colder_or_missing}

-- the path of the first h entries, its last place first
abbrev pub stacked : List ℕ → ℕ → List ℕ
stacked entries zero = []
stacked entries (suc h) = slice_index entries h ∷ stacked entries h

-- each place of a path is below c
abbrev pub Below : ℕ → List ℕ → Type 0
Below c [] = Unit {0}
Below c (t ∷ path) = (t < c) × Below c path

-- whether a reading that arrives is colder than the one at place t of a block, whatever place it arrives at
abbrev pub against : {K : Type 0} → (K → K → Bool) → List K → K → ℕ → ℕ → Bool
against colder block reading c t = colder_or_missing colder (Some reading) (slice_get block t)
