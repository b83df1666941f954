-- An answerer's place lies in the range that it is asked for, whatever number is read.
-- Assumes nothing.
use Rattle.std.proofs.Common.{◌≡◌, ℕ, ap, Result, ◌<◌, ◌≤◌, true, false, ◌||◌, ltb, Ok, Err, ◌∙◌, subst, ⊎_elim, arith}
use Rattle.std.proofs.lemmas.Bool.{cases_Bool, or_from, le-ltb, lt-ltb, ltb-true, ltb-false}
use Rattle.reading.specs.Coldest.{FirstColdest}
use Rattle.paths.specs.Laws.{AnswersFirsts}
use Rattle.shape.specs.Outcomes.{seat_answer}
use Rattle.shape.specs.declared.fault.RangeFault.{RangeFault}
use Rattle.shape.specs.declared.fault.RangeFault.TheVariants.{OutOfRange}
use Rattle.std.specs.Result.{is_ok, MatchResult}
use Rattle.firing_log.specs.declared.fault.LogFault.{LogFault}
use Rattle.shape.proofs.Replays.{by_key, key_orders, sample_key, sample_number}

pub seats_within : (seats : ℕ → ℕ → ℕ → ℕ) → AnswersFirsts seats → (t i j : ℕ) → t < 1430 → i ≤ j → j < 8 → (i ≤ seats t i j) × (seats t i j ≤ j)
seats_within seats firsts t i j h l k =
    let first : FirstColdest (by_key (sample_key t)) i j (seats t i j) =
    subst (λ (n : ℕ). FirstColdest (by_key (sample_key t)) i j (seats n i j)) (sample_number t h)
    (firsts (by_key (sample_key t)) (key_orders (sample_key t)) 8 i j (omega arith) l k) in
    (first.from, first.to)

-- what an accepted question says: the number is one that a block can carry, and the place is the answerer's, within the range
pub record Seated (seats : ℕ → ℕ → ℕ → ℕ) (t i j p : ℕ) : Type 0 where
  pub numbered : ltb t 1430 ≡ true
  pub place : p ≡ seats t i j
  pub from : i ≤ p
  pub to : p ≤ j

module _ (seats : ℕ → ℕ → ℕ → ℕ) (firsts : AnswersFirsts seats) (t i j : ℕ) (range : i ≤ j) (few : j < 8) where
  in_range : (ltb 7 j || ltb j i) ≡ false
  in_range = or_from (ltb 7 j) (ltb j i) (le-ltb 7 j (omega arith)) (le-ltb j i range)

  pub seated : (p : ℕ) → Ok p ≡ seat_answer seats t i j → Seated seats t i j p
  seated p e =
      ⊎_elim
      (λ (d : ltb 1429 t ≡ true).
      let z : ◌≡◌ {A = ℕ} 0 1 = let same : Ok p ≡ Err OutOfRange = e ∙ rw d in cc in
      absurd (omega arith))
      (λ (d : ltb 1429 t ≡ false).
      let same : Ok p ≡ Ok (seats t i j) = e ∙ rw (d, in_range) in
      let is : p ≡ seats t i j = cc in
      let small : t < 1430 = omega (arith, ltb-false 1429 t d) in
      let within = seats_within seats firsts t i j small range few in
      record { numbered = lt-ltb t 1430 small; place = is; from = omega (arith, within.0, is); to = omega (arith, within.1, is) })
      (cases_Bool (ltb 1429 t))

  -- what is refused is the number
  pub unseated : (f : RangeFault) → Err f ≡ seat_answer seats t i j → ltb t 1430 ≡ false
  unseated f e =
      ⊎_elim
      (λ (d : ltb 1429 t ≡ true). le-ltb t 1430 (ltb-true 1429 t d))
      (λ (d : ltb 1429 t ≡ false).
      let same : Err f ≡ Ok (seats t i j) = e ∙ rw (d, in_range) in
      let z : ◌≡◌ {A = ℕ} 0 1 = cc in absurd (omega arith))
      (cases_Bool (ltb 1429 t))

-- an answer that passed `map_err`
pub passed : (r : Result ℕ RangeFault) (p : ℕ) (refused : RangeFault → Type 0) → true ≡ is_ok r → MatchResult r (λ x. ◌≡◌ {A = Result ℕ LogFault} (Ok p) (Ok x)) refused → Ok p ≡ r
passed (Ok x) p refused ok same = let is : p ≡ x = cc in ap Ok is
passed (Err fault) p refused ok same = let z : ◌≡◌ {A = ℕ} 0 1 = cc in absurd (omega arith)
