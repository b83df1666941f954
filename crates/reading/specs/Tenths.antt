-- The order of tenths.
-- Assumes nothing.
use Rattle.std.specs.Prelude.{Bool, int_lt}
use Rattle.reading.specs.declared.tenths.Tenths.{Tenths}

-- the smaller is colder
abbrev pub tenths_colder : Tenths → Tenths → Bool
tenths_colder a b = int_lt a.0 b.0
