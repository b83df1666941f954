-- The number of each refusal, and what a call returns.
-- Assumes nothing.
use Rattle.std.specs.Prelude.{ℕ, Result}
use Rattle.reading.specs.Faults.{code}
use Rattle.shape.specs.Outcomes.{table_code}
use Rattle.firing_log.specs.Steps.{log_code}
use Rattle.bake.specs.Faults.{bake_code}
use Rattle.strip.specs.Outcomes.{strip_code}
use Rattle.strip.specs.Questions.{question_code}
use Rattle.strip.specs.Replay.{replay_code}
use Rattle.deck.specs.Answers.{numbered, status}
use Rattle.deck.specs.declared.fault.DeckFault.{DeckFault}
use Rattle.deck.specs.declared.fault.DeckFault.TheVariants.{NoSheet, NoClearance, NoBake, BakeHeld}
use Rattle.deck.specs.declared.fault.Refusal.{Refusal}
use Rattle.deck.specs.declared.fault.Refusal.TheVariants.{OfDeck, OfProbe, OfTable, OfLog, OfBake, OfStrip, OfQuestion, OfReplay}

-- of a refusal of the boundary's own
abbrev pub deck_code : DeckFault → ℕ
deck_code NoSheet = 64
deck_code NoClearance = 65
deck_code NoBake = 66
deck_code BakeHeld = 67

-- of any refusal: the number that its crate gives it
abbrev pub refusal_code : Refusal → ℕ
refusal_code (OfDeck fault) = deck_code fault
refusal_code (OfProbe fault) = code fault
refusal_code (OfTable fault) = table_code fault
refusal_code (OfLog fault) = log_code fault
refusal_code (OfBake fault) = bake_code fault
refusal_code (OfStrip fault) = strip_code fault
refusal_code (OfQuestion fault) = question_code fault
refusal_code (OfReplay fault) = replay_code fault

-- what a call returns: 0, or the number of its refusal
abbrev pub returned : Result (Unit {0}) Refusal → ℕ
returned answer = status (numbered refusal_code answer)
