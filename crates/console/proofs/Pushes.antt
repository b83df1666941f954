-- For a caller: what a reader has read after one byte more. Assumes nothing.
use Rattle.std.proofs.Common.{◌≡◌, ℕ, List, [], ◌∷◌, ◌++◌, sym, ap, ◌∙◌}
use Rattle.std.proofs.lemmas.List.Sums.{fold_push}
use Rattle.console.specs.Reading.{state_of, HasRead}
use Rattle.console.specs.States.{next}
use Rattle.console.specs.declared.reader.LineReader.{LineReader}
use Rattle.console.specs.declared.state.State.TheVariants.{Start}

pub has_read_push : (q r : LineReader) (bs : List ℕ) (b : ℕ) → state_of r ≡ next (state_of q) b → HasRead q bs → HasRead r (bs ++ (b ∷ []))
has_read_push q r bs b e read = e ∙ ap (λ s. next s b) read ∙ sym (fold_push next Start bs b)
