-- What the working out of a shape number keeps of the readings that have arrived.
-- Assumes nothing.
use Rattle.std.specs.Prelude.{◌≡◌, ℕ, suc, ◌+◌, ◌*◌, Bool, List, [], ◌∷◌, length}
use Rattle.reading.specs.Coldest.{places}
use Rattle.paths.specs.Number.{shape}
use Rattle.paths.specs.Path.{path}
use Rattle.shape.specs.declared.number.Climb.{Climb}

-- places as the digits of a number to base 256, the first of the list lowest, each as one more than the place
abbrev pub packed : List ℕ → ℕ
packed [] = 0
packed (p ∷ path) = 256 * packed path + suc p

-- the readings of a block have arrived
pub record Climbs {K : Type 0} (colder : K → K → Bool) (block : List K) (climb : Climb) : Type 0 where
  pub path_is : climb.path ≡ packed (path (places colder block) (length block))
  pub column_is : climb.column + length block ≡ 8 + length (path (places colder block) (length block))
  pub number_is : climb.number ≡ shape colder block
