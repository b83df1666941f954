-- The number of each case in which a reading is refused.
-- Assumes nothing.
use Rattle.std.specs.Prelude.{ℕ}
use Rattle.reading.specs.declared.fault.ProbeFault.{ProbeFault}
use Rattle.reading.specs.declared.fault.ProbeFault.TheVariants.{NoSuchProbe}

abbrev pub code : ProbeFault → ℕ
code NoSuchProbe = 16
