-- The line that is being read. Assumes nothing.
use Rattle.std.specs.Prelude.{ℕ, List, take}
use Rattle.console.specs.declared.buffer.LineBuffer.{LineBuffer}

-- the bytes of the line
abbrev pub bytes_of : LineBuffer → List ℕ
bytes_of line = take line.len line.text
