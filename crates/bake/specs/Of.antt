-- What the two tokens and a log's sheet keep.
-- Assumes nothing.
use Rattle.std.specs.Prelude.{ℕ}
use Rattle.firing_log.specs.declared.sheet.Sheet.{Sheet}
use Rattle.bake.specs.declared.tokens.Bake.{Bake}
use Rattle.bake.specs.declared.tokens.Clearance.{Clearance}

-- the log's count when the clearance was given
abbrev pub clearance_count : Clearance → ℕ
clearance_count clearance = clearance.count

-- the log's count when the bake was loaded
abbrev pub start_of : Bake → ℕ
start_of bake = bake.start

-- how many readings the log of a sheet holds
abbrev pub sheet_count : Sheet → ℕ
sheet_count sheet = sheet.count
