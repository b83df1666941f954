use Rattle.std.proofs.Common.{ℕ, ap, ◌∙◌}
use Rattle.std.proofs.lemmas.Int.{to_z-of_z}
use Rattle.deck.proofs.probe.deck_probe_clear.Goals as goal

pub returns-clause-cleared : goal.returns-clause-cleared
returns-clause-cleared c = simp (to_z-of_z, c.ranges.set_margin) at (ap (λ (n : ℕ). (n, c.clear.new.clearance)) c.status.ensures ∙ c.clear.ensures)
