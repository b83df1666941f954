-- What a place for a mask table holds.
-- Assumes nothing.
use Rattle.std.specs.Prelude.{ℕ, List, Option}
use Rattle.std.specs.Option.{option_map}
use Rattle.shape.specs.declared.mask_table.MaskTable.{MaskTable}

-- the cells of the table that is open, if one is
abbrev pub table_cells : MaskTable → Option (List ℕ)
table_cells t = option_map (λ cells. cells.now) t.cells
