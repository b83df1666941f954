-- The text of an answer. Assumes nothing.
use Rattle.std.specs.Prelude.{ℕ, List, ◌++◌, Some, codes, decimal, Option}
use Rattle.std.specs.Fmt.{option_append}
use Rattle.console.specs.declared.reply.Done.{Done}
use Rattle.console.specs.declared.reply.Found.{Found}

-- `ok` and the count
abbrev pub done_text : Done → List ℕ
done_text done = codes "ok " ++ decimal done.0

-- the place and the reading, known where the text of a reading is
abbrev pub shown_found : {T : Type 0} → (T → Option (List ℕ)) → Found T → Option (List ℕ)
shown_found shown found = option_append (Some (decimal found.place)) (option_append (Some (codes " ")) (shown found.reading))
