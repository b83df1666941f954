-- The mask table: its 11,440 cells, by number and then by end, and how a table is opened.
-- Assumes nothing.
use Rattle.std.specs.Prelude.{◌≡◌, ℕ, suc, ◌+◌, ◌*◌, ◌/◌, ◌%◌, ◌<◌, cond, ◌≢◌, ◌⊎◌, List, [], ◌∷◌, map, length, is_some, Some, None, Ok, Err, Option, Result, ◌==◌, slice_index, slice_index_or}
use Rattle.std.specs.Borrow.{Bor}
use Rattle.std.specs.List.{range_with_len}
use Rattle.std.specs.Option.{option_map, unwrap_or}
use Rattle.paths.specs.Cell.{cell}
use Rattle.shape.specs.declared.fault.TableFault.{TableFault}
use Rattle.shape.specs.declared.fault.TableFault.TheVariants.{WrongLength, WrongCell}

-- the cell at index k of the table: number t and end j stand at index 8 * t + j
abbrev pub cell_at : ℕ → ℕ
cell_at k = cell (k / 8) (k % 8)

-- the whole table
unfoldable pub all_cells : List ℕ
all_cells = map cell_at (range_with_len 0 11440)

-- filling memory: refused, with nothing changed, where its length is not that of the table
abbrev pub filling_answer : List ℕ → Result (Unit {0}) TableFault
filling_answer cells = cond (length cells == 11440) (Ok tt) (Err WrongLength)

abbrev pub filled : List ℕ → List ℕ
filled cells = cond (length cells == 11440) all_cells cells

-- the first wrong cell, as its index, of cells that stand at index k and on
unfoldable pub first_wrong : ℕ → List ℕ → Option ℕ
first_wrong k [] = None
first_wrong k (x ∷ xs) = cond (x == cell_at k) (first_wrong (suc k) xs) (Some k)

abbrev pub cells_answer : Option ℕ → Result (Unit {0}) TableFault
cells_answer None = Ok tt
cells_answer (Some k) = Err (WrongCell (k / 8) (k % 8))

-- opening a table: refused where its length is wrong, and else where a cell is, by the first such cell
abbrev pub opening_answer : List ℕ → Result (Unit {0}) TableFault
opening_answer cells = cond (length cells == 11440) (cells_answer (first_wrong 0 cells)) (Err WrongLength)

-- the cell of number t and end j comes before that of number n and end e: by number, and then by end
abbrev pub Before : ℕ → ℕ → ℕ → ℕ → Type 0
Before t j n e = (t < n) ⊎ ((t ≡ n) × (j < e))

-- cell (n, e) is the first that differs from the table's
pub record FirstWrong (cells : List ℕ) (n e : ℕ) : Type 0 where
  pub number : n < 1430
  pub end : e < 8
  pub differs : slice_index_or cells (8 * n + e) 0 ≢ cell n e
  pub before : (t j : ℕ) → j < 8 → Before t j n e → slice_index cells (8 * t + j) ≡ cell t j

-- what each answer of an opening says: the cells are the table's, or they are not 11,440, or they are and the named one is the first that differs
abbrev pub Opening : List ℕ → Result (Unit {0}) TableFault → Type 0
Opening cells (Ok _) = cells ≡ all_cells
Opening cells (Err WrongLength) = length cells ≢ 11440
Opening cells (Err (WrongCell n e)) = (length cells ≡ 11440) × FirstWrong cells n e

-- a table that is open is the whole table
abbrev pub RightTable : Option (Bor (List ℕ)) → Type 0
RightTable table = unwrap_or (option_map (λ cells. cells.now) table) [] ≡ cond (is_some table) all_cells []
