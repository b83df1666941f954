-- What an answerer promises of blocks: lists of at most eight readings.
-- Assumes nothing.
use Rattle.std.specs.Prelude.{◌≡◌, ℕ, suc, ◌<◌, ◌≤◌, Bool, List, length, Ok, Err, Result}
use Rattle.reading.specs.Coldest.{FirstColdest, places}
use Rattle.paths.specs.Cell.{mask, cell}
use Rattle.paths.specs.Number.{shape}
use Rattle.paths.specs.Path.{path}
use Rattle.shape.specs.declared.fault.RangeFault.{RangeFault}
use Rattle.shape.specs.declared.fault.RangeFault.TheVariants.{OutOfRange}

-- f gives the first coldest place, from the shape number, of every range within every block, full or begun
abbrev pub FirstColdestOfBlocks : {K : Type 0} → (K → K → Bool) → (ℕ → ℕ → ℕ → ℕ) → Type 0
FirstColdestOfBlocks colder f =
    (block : List _) (i j : ℕ) → length block ≤ 8 → i ≤ j → j < length block → FirstColdest (places colder block) i j (f (shape colder block) i j)

-- a cell, by the number of a block and a place of it, holds the path of the block just after that place arrived
abbrev pub CellsArePaths : {K : Type 0} → (K → K → Bool) → Type 0
CellsArePaths colder =
    (block : List _) (j : ℕ) → length block ≤ 8 → j < length block → cell (shape colder block) j ≡ mask (path (places colder block) (suc j))

-- an answer over i to j of a block: the first coldest place, or that the range runs backward or past the block
abbrev pub BlockAnswer : {K : Type 0} → (K → K → Bool) → List K → ℕ → ℕ → Result ℕ RangeFault → Type 0
BlockAnswer colder block i j (Ok p) = (j < length block) × FirstColdest (places colder block) i j p
BlockAnswer colder block i j (Err OutOfRange) = i ≤ j → j < length block → ⊥
