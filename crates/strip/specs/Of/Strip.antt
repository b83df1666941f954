-- What an opened strip holds.
-- Assumes nothing.
use Rattle.std.specs.Prelude.{ℕ, List}
use Rattle.strip.specs.declared.opened.Strip.{Strip}

-- the bytes that it was opened over
abbrev pub strip_bytes : Strip → List ℕ
strip_bytes s = s.bytes.now
