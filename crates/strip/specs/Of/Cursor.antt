-- What lies ahead of a cursor, and where a step takes it.
-- Assumes nothing.
use Rattle.std.specs.Prelude.{◌≡◌, ℕ, ◌+◌, ◌%◌, ◌<◌}
use Rattle.strip.specs.Cursors.{ones_at}
use Rattle.strip.specs.declared.cursor.Cursor.{Cursor}

-- the next bit begins a byte, behind whose ones the next place is below `end`
abbrev pub ByteBelow : Cursor → ℕ → Type 0
ByteBelow c end = (c.at % 8 ≡ 0) × (c.place + ones_at c.strip.bytes.now c.at < end)

-- on the same strip, further along
pub record Further (old new : Cursor) : Type 0 where
  pub strip : new.strip ≡ old.strip
  pub at : old.at < new.at
