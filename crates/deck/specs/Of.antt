-- What the caller keeps and lends, beside a log's own sheet and memory.
-- Assumes nothing.
use Rattle.std.specs.Prelude.{◌≡◌, ℕ, true, List, Ok, Err, Result}
use Rattle.std.specs.Borrow.{MutBor}
use Rattle.reading.specs.declared.tenths.Tenths.{Tenths}
use Rattle.firing_log.specs.Resume.{never_given, Resumed}
use Rattle.firing_log.specs.State.{State}
use Rattle.firing_log.specs.declared.memory.Memory.{Memory}
use Rattle.firing_log.specs.declared.sheet.Sheet.{Sheet}
use Rattle.deck.specs.Logs.{log_in, SameMemory, deck_opened}
use Rattle.deck.specs.declared.cold.DeckColdMemory.{DeckColdMemory}
use Rattle.deck.specs.declared.fault.DeckFault.{DeckFault}
use Rattle.deck.specs.declared.fault.DeckFault.TheVariants.{NoSheet}
use Rattle.deck.specs.declared.hot.DeckHotMemory.{DeckHotMemory}
use Rattle.deck.specs.declared.kinds.DeckHot.{DeckHot}
use Rattle.deck.specs.declared.kinds.DeckProbe.{DeckProbe}
use Rattle.deck.specs.declared.probe.DeckProbeMemory.{DeckProbeMemory}
use Rattle.deck.specs.declared.sheet.DeckSheet.{DeckSheet}

-- ---- the sheet

-- the log's own sheet with these two numbers, or the refusal where no call gives one
abbrev pub OwnSheet : DeckSheet → Result Sheet DeckFault → Type 0
OwnSheet kept (Ok own) = Resumed kept.capacity kept.count own
OwnSheet kept (Err fault) = (fault ≡ NoSheet) × (never_given kept.capacity kept.count ≡ true)

-- the two numbers of a log's own sheet
abbrev pub sheet_kept : Sheet → DeckSheet
sheet_kept own = record { capacity = own.capacity; count = own.count }

-- ---- the memory

-- the memory that a call is lent
abbrev pub cold_lent : DeckColdMemory → Memory Tenths
cold_lent memory = record { readings = memory.readings; shapes = memory.shapes; entries = memory.entries }

abbrev pub hot_lent : DeckHotMemory → Memory DeckHot
hot_lent memory = record { readings = memory.readings; shapes = memory.shapes; entries = memory.entries }

abbrev pub probe_lent : DeckProbeMemory → Memory DeckProbe
probe_lent memory = record { readings = memory.readings; shapes = memory.shapes; entries = memory.entries }

-- that memory as the call leaves it: there a clause has the three slices in pairs
abbrev pub left : {K : Type 0} → MutBor (List K) × (MutBor (List ℕ) × (MutBor (List ℕ) × Unit {0})) → Memory K
left memory = record { readings = memory.0; shapes = memory.1.0; entries = memory.1.1.0 }

-- memory that the call leaves as it was
abbrev pub Same : {K : Type 0} → Memory K → Memory K → Type 0
Same before after = SameMemory before.readings.now before.shapes.now before.entries.now after.readings.now after.shapes.now after.entries.now

-- the log of a sheet and its memory
abbrev pub log_at : {K : Type 0} → DeckSheet → Memory K → State K
log_at sheet memory = log_in sheet memory.readings.now memory.shapes.now memory.entries.now

-- a sheet to keep, for a new log in this memory
abbrev pub opened_in : {K : Type 0} → ℕ → Memory K → Result DeckSheet ℕ
opened_in capacity memory = deck_opened capacity memory.readings.now memory.shapes.now memory.entries.now
