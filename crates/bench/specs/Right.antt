-- What holds between any two bytes of the input.
-- Assumes nothing.
use Rattle.std.specs.Prelude.{ℕ, List}
use Rattle.panel.specs.Firing.{Firing}
use Rattle.panel.specs.Input.{Stands}
use Rattle.panel.specs.declared.bench.Bench.{Bench}

-- the bench keeps some firing of logs of 2,048 readings, and has read some bytes of a line: its next answer is right
abbrev pub RightSoFar : Bench → Type 0
RightSoFar bench = (f : Firing) × (bs : List ℕ) × Stands 2048 bench f bs
