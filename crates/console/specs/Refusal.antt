-- The numbers of the refusals, and their text. Assumes nothing.
use Rattle.std.specs.Prelude.{ℕ, List, ◌++◌, codes, decimal}

-- the number of a line that is none of the grammar
abbrev pub malformed_code : ℕ
malformed_code = 23

-- `no` and the number of the refusal
abbrev pub refused_text : ℕ → List ℕ
refused_text code = codes "no " ++ decimal code
