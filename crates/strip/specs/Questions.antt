-- What opening and asking promise, in the words of the subject.
-- Assumes nothing.
use Rattle.std.specs.Prelude.{ℕ, ◌<◌, ◌≤◌, List, Ok, Err, Result}
use Rattle.strip.specs.Bits.{count_of, depth_of, IsStrip, LastLeast}
use Rattle.strip.specs.declared.fault.QuestionFault.{QuestionFault}
use Rattle.strip.specs.declared.fault.QuestionFault.TheVariants.{Backwards, Beyond}
use Rattle.strip.specs.declared.fault.StripFault.{StripFault}

-- the number of a refusal
abbrev pub question_code : QuestionFault → ℕ
question_code Backwards = 5
question_code Beyond = 6

-- bytes are accepted exactly when they are a strip
abbrev pub Opens : List ℕ → Result (Unit {0}) StripFault → Type 0
Opens bytes (Ok x) = IsStrip bytes
Opens bytes (Err fault) = IsStrip bytes → ⊥

-- a strip answers the last place of least depth, and refuses a range that runs backward or beyond the count
abbrev pub Asked : List ℕ → ℕ → ℕ → Result ℕ QuestionFault → Type 0
Asked bytes l r (Ok p) = (l ≤ r) × (r < count_of bytes) × LastLeast (depth_of bytes) l r p
Asked bytes l r (Err Backwards) = r < l
Asked bytes l r (Err Beyond) = (l ≤ r) × (count_of bytes ≤ r)
