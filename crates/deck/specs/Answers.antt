-- How a call for C answers: by 0 or the number of a refusal, and through places of the caller's that a refusal leaves as they were.
-- An answer here is what is to be stored, or the number of the refusal.
-- Assumes nothing.
use Rattle.std.specs.Prelude.{◌≡◌, ℕ, List, Some, Ok, Err, Result}
use Rattle.std.specs.List.{slice_get}
use Rattle.std.specs.Result.{result_map_both}

-- an answer with the number of its refusal in place of the refusal
abbrev pub numbered : {X E : Type 0} → (E → ℕ) → Result X E → Result X ℕ
numbered code answer = result_map_both (λ x. x) code answer

-- what the call returns
abbrev pub status : {X : Type 0} → Result X ℕ → ℕ
status (Ok x) = 0
status (Err number) = number

-- what stands in a place that held `before`
abbrev pub stored : {X : Type 0} → Result X ℕ → X → X
stored (Ok x) before = x
stored (Err number) before = before

-- what the call returns, and what then stands in the place for its answer
abbrev pub answered : {X : Type 0} → Result X ℕ → X → ℕ × X
answered answer before = (status answer, stored answer before)

-- the reading at the place that was answered, or the one that stood there before
abbrev pub ReadingStored : {K : Type 0} → List K → Result ℕ ℕ → K → K → Type 0
ReadingStored readings (Ok place) before after = slice_get readings place ≡ Some after
ReadingStored readings (Err number) before after = after ≡ before
