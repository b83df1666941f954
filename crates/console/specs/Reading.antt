-- What the line reader has read. Assumes nothing.
use Rattle.std.specs.Prelude.{◌≡◌, ℕ, List}
use Rattle.console.specs.States.{after_all}
use Rattle.console.specs.declared.reader.LineReader.{LineReader}
use Rattle.console.specs.declared.state.State.{State}

abbrev pub state_of : LineReader → State
state_of r = r.state

-- bs are the bytes that the reader was fed, one after another, since its line began
abbrev pub HasRead : LineReader → List ℕ → Type 0
HasRead r bs = state_of r ≡ after_all bs
