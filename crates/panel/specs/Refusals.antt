-- The numbers of the panel's refusals, and their text.
-- Assumes nothing.
use Rattle.std.specs.Prelude.{ℕ, List}
use Rattle.firing_log.specs.Steps.{log_code}
use Rattle.console.specs.Refusal.{malformed_code, refused_text}
use Rattle.panel.specs.declared.refusal.Refusal.{Refusal}
use Rattle.panel.specs.declared.refusal.Refusal.TheVariants.{Line, Log, Probe as NoProbe}

abbrev pub refusal_code : Refusal → ℕ
refusal_code (Line fault) = malformed_code
refusal_code (NoProbe fault) = malformed_code
refusal_code (Log log fault) = log_code fault

abbrev pub refusal_text : Refusal → List ℕ
refusal_text refusal = refused_text (refusal_code refusal)
