-- A sheet that some call gives: the log's own sheet has its numbers, and each call does what is defined for the log.
-- Assumes nothing.
use Rattle.std.proofs.Common.{◌≡◌, ℕ, Bool, false, List, Some, Ok, Err, Result, sym, refl, ap, ◌∙◌, subst}
use Rattle.std.specs.List.{slice_get}
use Rattle.std.proofs.lemmas.Bool.{cond-false}
use Rattle.paths.specs.Cell.{seat}
use Rattle.firing_log.specs.Of.{state_of, Found}
use Rattle.firing_log.specs.State.{State}
use Rattle.firing_log.specs.Steps.{log_code, coldest}
use Rattle.firing_log.specs.declared.fault.LogFault.{LogFault}
use Rattle.firing_log.specs.declared.memory.Memory.{Memory}
use Rattle.firing_log.specs.declared.sheet.Sheet.{Sheet}
use Rattle.deck.specs.Answers.{numbered, status, stored, ReadingStored}
use Rattle.deck.specs.Logs.{no_sheet, deck_coldest, Asked}
use Rattle.deck.specs.Of.{log_at}
use Rattle.deck.specs.declared.sheet.DeckSheet.{DeckSheet}

-- the log's own sheet, resumed, is the boundary's
pub same_log : {K : Type 0} (sheet : DeckSheet) (own : Sheet) (memory : Memory K) → own.capacity ≡ sheet.capacity → own.count ≡ sheet.count → state_of own memory ≡ log_at sheet memory
same_log sheet own memory capacity count = cc

-- ---- a question

found_place : {K : Type 0} (readings : List K) (answer : Result ℕ LogFault) (found : ℕ × K) → Found readings answer (Ok found)
    → (numbered log_code answer ≡ Ok found.0) × (slice_get readings found.0 ≡ Some found.1)
found_place readings (Ok place) found finds = (ap Ok (sym finds.0), finds.1)
found_place readings (Err fault) found finds = absurd finds

found_fault : {K : Type 0} (readings : List K) (answer : Result ℕ LogFault) (fault : LogFault) → Found readings answer (Err fault) → numbered log_code answer ≡ Err (log_code fault)
found_fault readings (Ok found) fault finds = absurd finds
found_fault readings (Err own) fault finds = ap (λ e. Err (log_code e)) (sym finds)

module _ {K : Type 0} (colder : K → K → Bool) (s t : State K) (l r place : ℕ) (reading : K) (is : t ≡ s) (given : no_sheet s ≡ false) where
  asked_is : {answer : Result ℕ ℕ} → numbered log_code (coldest colder seat t l r) ≡ answer → deck_coldest colder s l r ≡ answer
  asked_is answers =
      cond-false (no_sheet s) _ _ given ∙ ap (λ (u : State K). numbered log_code (coldest colder seat u l r)) (sym is) ∙ answers

  pub asked_place : (found : ℕ × K) → Found t.readings (coldest colder seat t l r) (Ok found) → Asked colder s l r place reading 0 found.0 found.1
  asked_place found finds =
      let both = found_place t.readings (coldest colder seat t l r) found finds in
      let answers : deck_coldest colder s l r ≡ Ok found.0 = asked_is both.0 in
      record {
        code_is = ap status (sym answers);
        place_is = ap (λ a. stored a place) (sym answers);
        reading_is = subst (λ (a : Result ℕ ℕ). ReadingStored s.readings a reading found.1) (sym answers)
            (subst (λ (u : State K). slice_get u.readings found.0 ≡ Some found.1) is both.1);
      }

  pub asked_fault : {code : ℕ} (fault : LogFault) → Found t.readings (coldest colder seat t l r) (Err fault) → code ≡ log_code fault → Asked colder s l r place reading code place reading
  asked_fault fault finds code_is =
      let answers : deck_coldest colder s l r ≡ Err (log_code fault) = asked_is (found_fault t.readings (coldest colder seat t l r) fault finds) in
      record {
        code_is = code_is ∙ ap status (sym answers);
        place_is = ap (λ a. stored a place) (sym answers);
        reading_is = subst (λ (a : Result ℕ ℕ). ReadingStored s.readings a reading reading) (sym answers) refl;
      }
