-- The number of each refusal.
-- Assumes nothing.
use Rattle.std.specs.Prelude.{ℕ}
use Rattle.firing_log.specs.Steps.{log_code}
use Rattle.bake.specs.Faults.{bake_code}
use Rattle.shift.specs.declared.refusal.Refusal.{Refusal}
use Rattle.shift.specs.declared.refusal.Refusal.TheVariants.{Malformed, Log, Bake}

abbrev pub refusal_code : Refusal → ℕ
refusal_code Malformed = 23
refusal_code (Log fault) = log_code fault
refusal_code (Bake fault) = bake_code fault
