-- The text of an answer.
-- Assumes nothing.
use Rattle.std.specs.Prelude.{ℕ, List, ◌++◌, Some, codes, decimal, Option}
use Rattle.shift.specs.Refusals.{refusal_code}
use Rattle.shift.specs.declared.refusal.Refusal.{Refusal}
use Rattle.shift.specs.declared.reply.Reply.{Reply}
use Rattle.shift.specs.declared.reply.Reply.TheVariants.{Count, Clear, Loaded, Unloaded, Abandoned}

-- a word and the count or the start, or the record's three places
abbrev pub shown_reply : Reply → Option (List ℕ)
shown_reply (Count count) = Some (codes "ok " ++ decimal count)
shown_reply (Clear count) = Some (codes "clear " ++ decimal count)
shown_reply (Loaded start) = Some (codes "bake " ++ decimal start)
shown_reply (Unloaded r) = Some (decimal r.start ++ (codes " " ++ (decimal r.last ++ (codes " " ++ decimal r.coldest))))
shown_reply (Abandoned start) = Some (codes "ended " ++ decimal start)

-- the number of the refusal
abbrev pub shown_refusal : Refusal → Option (List ℕ)
shown_refusal refusal = Some (codes "no " ++ decimal (refusal_code refusal))
