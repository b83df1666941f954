-- Readings as a caller in C writes them, and which of two is colder.
-- Assumes nothing.
use Rattle.std.specs.Prelude.{◌≡◌, ℕ, Bool, false, true, cond, not, ◌&&◌, ◌||◌, ℤ, Ok, Err, Result, int_lt, nat_lt}
use Rattle.reading.specs.Faults.{code}
use Rattle.reading.specs.declared.fault.ProbeFault.{ProbeFault}
use Rattle.reading.specs.declared.fault.ProbeFault.TheVariants.{NoSuchProbe}
use Rattle.reading.specs.declared.tenths.Tenths.{Tenths}
use Rattle.reading.specs.Tenths.{tenths_colder}
use Rattle.deck.specs.declared.kinds.DeckHot.{DeckHot}
use Rattle.deck.specs.declared.kinds.DeckProbe.{DeckProbe}

abbrev pub cold_of : ℤ → Tenths
cold_of tenths = record { 0 = tenths }

abbrev pub hot_of : ℤ → DeckHot
hot_of tenths = record { tenths = tenths }

-- the order of tenths turned round
abbrev pub hot_colder : DeckHot → DeckHot → Bool
hot_colder a b = tenths_colder (cold_of b.tenths) (cold_of a.tenths)

abbrev pub deck_probe_of : ℤ → ℕ → DeckProbe
deck_probe_of margin number = record { margin = margin; number = number }

-- a has the smaller margin, or the same one and the lower number: the order of probe readings, for every number
abbrev pub deck_probe_colder : DeckProbe → DeckProbe → Bool
deck_probe_colder a b = int_lt a.margin b.margin || (not (int_lt b.margin a.margin) && nat_lt a.number b.number)

-- what is returned and left, unless there is no probe of that number
abbrev pub if_probe : {X : Type 0} → ℕ → X → ℕ × X → ℕ × X
if_probe number before done = cond (nat_lt 7 number) (code NoSuchProbe, before) done

-- the reading of a margin and a number, or the refusal where there is no probe of that number
abbrev pub ProbeMade : ℤ → ℕ → Result DeckProbe ProbeFault → Type 0
ProbeMade margin number (Ok reading) = (reading ≡ deck_probe_of margin number) × (nat_lt 7 number ≡ false)
ProbeMade margin number (Err fault) = nat_lt 7 number ≡ true
