-- The text of an answer.
-- Assumes nothing.
use Rattle.std.specs.Prelude.{ℕ, List, ◌++◌, take, codes, decimal}
use Rattle.reading.specs.Text.{tenths_text, probe_text}
use Rattle.console.specs.Hex.{hex_text}
use Rattle.console.specs.Reply.{done_text}
use Rattle.console.specs.declared.reply.Found.{Found}
use Rattle.panel.specs.declared.answer.Answer.{Answer}
use Rattle.panel.specs.declared.answer.Answer.TheVariants.{Changed, Cold, Hot, Probes, Written}

-- the text of a place and the reading there, where each reading has one
abbrev pub found_text : {K : Type 0} → (K → List ℕ) → Found K → List ℕ
found_text text found = decimal found.place ++ (codes " " ++ text found.reading)

abbrev pub answer_text : Answer → List ℕ
answer_text (Changed log done) = done_text done
answer_text (Cold found) = found_text tenths_text found
answer_text (Hot found) = found_text (λ x. tenths_text x.0) found
answer_text (Probes found) = found_text probe_text found
answer_text (Written strip) = hex_text (take strip.len strip.output)
