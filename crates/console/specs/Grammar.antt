-- The grammar of the bench program's lines, and what a right answer to a line is. Assumes nothing.
use Rattle.std.specs.Prelude.{◌≡◌, ℕ, ◌≤◌, List, ◌++◌, length, ℤ, pos, neg_ℤ, Ok, Err, codes, Result}
use Rattle.std.specs.Str.Parse.{IsNumeral, digits_value}
use Rattle.console.specs.declared.command.Command.{Command}
use Rattle.console.specs.declared.command.Command.TheVariants.{Append, AppendProbe, Cut, Coldest, Hottest, Weakest, Strip}
use Rattle.console.specs.declared.command.Malformed.{Malformed}

-- one to nine decimal digits, which write n
pub record Number (ds : List ℕ) (n : ℕ) : Type 0 where
  pub digits : IsNumeral 10 ds
  pub few : length ds ≤ 9
  pub writes : digits_value 10 ds ≡ n

-- a number, or a minus sign and a number
pub data SignedNumber (bs : List ℕ) (z : ℤ) : Type 0 where
  plain : (n : ℕ) → Number bs n → z ≡ pos n → SignedNumber bs z
  minus : (ds : List ℕ) (n : ℕ) → bs ≡ codes "-" ++ ds → Number ds n → z ≡ neg_ℤ (pos n) → SignedNumber bs z

-- bs is the word, and then two numbers with one space between them
abbrev pub TwoNumbers : List ℕ → List ℕ → ℕ → ℕ → Type 0
TwoNumbers word bs m n = (ds : List ℕ) × (es : List ℕ) × (bs ≡ word ++ (ds ++ (codes " " ++ es))) × Number ds m × Number es n

-- the line bs asks for the command
abbrev pub Line : List ℕ → Command → Type 0
Line bs (Append tenths) = (ds : List ℕ) × (bs ≡ codes "A " ++ ds) × SignedNumber ds tenths
Line bs (AppendProbe margin number) = (ds : List ℕ) × (es : List ℕ) × (bs ≡ codes "P " ++ (ds ++ (codes " " ++ es))) × SignedNumber ds margin × Number es number
Line bs (Cut n) = (ds : List ℕ) × (bs ≡ codes "C " ++ ds) × Number ds n
Line bs (Coldest from to) = TwoNumbers (codes "Q ") bs from to
Line bs (Hottest from to) = TwoNumbers (codes "H ") bs from to
Line bs (Weakest from to) = TwoNumbers (codes "W ") bs from to
Line bs Strip = bs ≡ codes "S"

-- the line asks for the command and for no other, and is shorter than the 32 bytes that a line may have
pub record AsksFor (bs : List ℕ) (c : Command) : Type 0 where
  pub line : Line bs c
  pub only : (d : Command) → Line bs d → d ≡ c
  pub short : length bs ≤ 22

-- the right answer to the line bs: the command that it asks for, or a refusal where it asks for none
abbrev pub Answers : List ℕ → Result Command Malformed → Type 0
Answers bs (Ok c) = AsksFor bs c
Answers bs (Err e) = (c : Command) → Line bs c → ⊥
