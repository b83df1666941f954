-- What may still follow in a state, so that the whole line asks for a command. Assumes nothing.
use Rattle.std.proofs.Common.{◌≡◌, ℕ, ◌+◌, ◌-◌, ◌<◌, ◌≤◌, Bool, true, List, [], ◌∷◌, ◌++◌, length, Ok}
use Rattle.std.specs.Str.Parse.{AllDigits, digits_value_after}
use Rattle.console.specs.Grammar.{Line}
use Rattle.console.specs.Numbers.{blank, is_blank_number}
use Rattle.console.specs.States.{no_number, one_number, two_numbers}
use Rattle.console.specs.declared.command.Command.{Command}
use Rattle.console.specs.declared.number.NumberSoFar.{NumberSoFar}
use Rattle.console.specs.declared.state.Letter.{Letter}
use Rattle.console.specs.declared.state.State.{State}
use Rattle.console.specs.declared.state.State.TheVariants.{Start, Named, First, Second, Refused}

-- after the digits of n, the digits ds make the value v
pub record More (n : NumberSoFar) (ds : List ℕ) (v : ℕ) : Type 0 where
  pub digits : AllDigits 10 ds
  pub some : 0 < n.digits + length ds
  pub few : length ds ≤ 9 - n.digits
  pub writes : digits_value_after 10 n.value ds ≡ v

-- the same of a first number, before which a minus sign may still come
pub data MoreSigned (n : NumberSoFar) (ds : List ℕ) (minus : Bool) (v : ℕ) : Type 0 where
  digits_only : minus ≡ n.minus → More n ds v → MoreSigned n ds minus v
  sign_first : (es : List ℕ) → is_blank_number n ≡ true → ds ≡ 45 ∷ es → minus ≡ true → More n es v → MoreSigned n ds minus v

-- what may follow the first number
pub data AfterFirst (l : Letter) (minus : Bool) (v : ℕ) (rest : List ℕ) (c : Command) : Type 0 where
  one : rest ≡ [] → one_number l minus v ≡ Ok c → AfterFirst l minus v rest c
  two : (es : List ℕ) (w : ℕ) → rest ≡ 32 ∷ es → More blank es w → two_numbers l minus v w ≡ Ok c → AfterFirst l minus v rest c

-- what may follow while the first number is n so far
pub record InFirst (l : Letter) (n : NumberSoFar) (rest : List ℕ) (c : Command) : Type 0 where
  pub front : List ℕ
  pub back : List ℕ
  pub sign : Bool
  pub size : ℕ
  pub parts : rest ≡ front ++ back
  pub number : MoreSigned n front sign size
  pub after : AfterFirst l sign size back c

-- what may follow the letter
pub data AfterLetter (l : Letter) (rest : List ℕ) (c : Command) : Type 0 where
  alone : rest ≡ [] → no_number l ≡ Ok c → AfterLetter l rest c
  numbers : (ds : List ℕ) → rest ≡ 32 ∷ ds → InFirst l blank ds c → AfterLetter l rest c

abbrev pub Rest : State → List ℕ → Command → Type 0
Rest Start bs c = Line bs c
Rest (Named l) bs c = AfterLetter l bs c
Rest (First l n) bs c = InFirst l n bs c
Rest (Second l m n) bs c = (w : ℕ) × More n bs w × (two_numbers l m.minus m.value w ≡ Ok c)
Rest Refused bs c = ⊥
