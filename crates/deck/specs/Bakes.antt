-- What the calls of a bake answer and leave, with tokens that may be any numbers: a token is held where `held` is 1.
-- What C cannot keep, that a clearance is used once and a bake spent, is looked at before anything that is defined for bakes.
-- Assumes nothing.
use Rattle.std.specs.Prelude.{ℕ, Bool, cond, not, Ok, Err, Result, ◌==◌}
use Rattle.std.specs.Result.{result_map_both}
use Rattle.paths.specs.Cell.{seat}
use Rattle.firing_log.specs.Resume.{never_given}
use Rattle.firing_log.specs.State.{State}
use Rattle.bake.specs.Faults.{bake_code}
use Rattle.bake.specs.Steps.{cleared, loaded, unloaded}
use Rattle.bake.specs.declared.fault.BakeFault.{BakeFault}
use Rattle.bake.specs.declared.unloading.Record.{Record}
use Rattle.deck.specs.Faults.{deck_code}
use Rattle.deck.specs.Logs.{no_sheet, if_given}
use Rattle.deck.specs.declared.fault.DeckFault.TheVariants.{NoSheet, NoClearance, NoBake, BakeHeld}
use Rattle.deck.specs.declared.sheet.DeckSheet.{DeckSheet}
use Rattle.deck.specs.declared.tokens.DeckBake.{DeckBake}
use Rattle.deck.specs.declared.tokens.DeckClearance.{DeckClearance}

-- ---- tokens

abbrev pub given_clearance : ℕ → DeckClearance
given_clearance count = record { count = count; held = 1 }

abbrev pub used_up : DeckClearance → DeckClearance
used_up clearance = record { count = clearance.count; held = 0 }

abbrev pub loaded_bake : ℕ → DeckBake
loaded_bake start = record { start = start; held = 1 }

abbrev pub spent : DeckBake → DeckBake
spent bake = record { start = bake.start; held = 0 }

-- ---- load

-- the clearance is used up and the bake stands in its place, or both are as they were
abbrev pub load_done : DeckClearance → DeckBake → Result ℕ BakeFault → ℕ × DeckClearance × DeckBake
load_done clearance bake (Ok start) = (0, used_up clearance, loaded_bake start)
load_done clearance bake (Err fault) = (bake_code fault, clearance, bake)

-- what load returns and leaves in the clearance and in the place for the bake
abbrev pub deck_loaded : DeckSheet → DeckClearance → DeckBake → ℕ × DeckClearance × DeckBake
deck_loaded sheet clearance bake =
    cond (never_given sheet.capacity sheet.count) (deck_code NoSheet, clearance, bake)
    (cond (not (clearance.held == 1)) (deck_code NoClearance, clearance, bake)
    (cond (bake.held == 1) (deck_code BakeHeld, clearance, bake)
    (load_done clearance bake (loaded clearance.count sheet.count))))

-- ---- abandon

-- what abandon returns, and leaves in the bake and in the place for its start
abbrev pub deck_abandoned : DeckBake → ℕ → ℕ × DeckBake × ℕ
deck_abandoned bake start = cond (not (bake.held == 1)) (deck_code NoBake, bake, start) (0, spent bake, bake.start)

module _ {K : Type 0} (colder : K → K → Bool) where
  -- ---- clear

  -- the clearance that is given
  abbrev pub deck_cleared : State K → ℕ → K → Result DeckClearance ℕ
  deck_cleared s w set = if_given s (result_map_both given_clearance bake_code (cleared colder seat s w set))

  -- ---- unload

  -- the bake is spent and its record stands in its place, or both are as they were
  abbrev pub unload_done : DeckBake → Record → Result Record BakeFault → ℕ × DeckBake × Record
  unload_done bake before (Ok made) = (0, spent bake, made)
  unload_done bake before (Err fault) = (bake_code fault, bake, before)

  -- what unload returns, and leaves in the bake and in the place for the record
  abbrev pub deck_unloaded : State K → DeckBake → Record → ℕ × DeckBake × Record
  deck_unloaded s bake before =
      cond (no_sheet s) (deck_code NoSheet, bake, before)
      (cond (not (bake.held == 1)) (deck_code NoBake, bake, before)
      (unload_done bake before (unloaded colder seat s bake.start)))
