-- The line reader's states, and how a byte leads from one to the next. Assumes nothing.
use Rattle.std.specs.Prelude.{◌≡◌, ℕ, ◌-◌, Bool, true, false, cond, ◌&&◌, List, Ok, Err, fold, Result, ◌==◌, nat_lt}
use Rattle.std.specs.Char.{is_ascii_digit}
use Rattle.console.specs.Numbers.{small, blank, has_room, is_blank_number, negated, extended, signed_value}
use Rattle.console.specs.declared.command.Command.{Command}
use Rattle.console.specs.declared.command.Command.TheVariants.{Append, AppendProbe, Cut, Coldest, Hottest, Weakest, Strip}
use Rattle.console.specs.declared.command.Malformed.{Malformed}
use Rattle.console.specs.declared.state.Letter.{Letter}
use Rattle.console.specs.declared.state.Letter.TheVariants.{A, C, H, P, Q, S, W}
use Rattle.console.specs.declared.state.State.{State}
use Rattle.console.specs.declared.state.State.TheVariants.{Start, Named, First, Second, Refused}

-- the state after the first character of a line
abbrev pub named : ℕ → State
named b = cond (b == 65) (Named A) (cond (b == 67) (Named C) (cond (b == 72) (Named H) (cond (b == 80) (Named P) (cond (b == 81) (Named Q) (cond (b == 83) (Named S) (cond (b == 87) (Named W) Refused))))))

-- the state that a byte leads to
abbrev pub next : State → ℕ → State
next Start b = named b
next (Named l) b = cond (b == 32) (First l blank) Refused
next (First l n) b =
    cond (b == 45 && is_blank_number n) (First l (negated n))
    (cond (is_ascii_digit b && has_room n) (First l (extended n (b - 48)))
    (cond (b == 32 && nat_lt 0 n.digits) (Second l n blank) Refused))
next (Second l m n) b = cond (is_ascii_digit b && has_room n) (Second l m (extended n (b - 48))) Refused
next Refused b = Refused

-- the state after the bytes bs of a line, one after another
abbrev pub after_all : List ℕ → State
after_all bs = fold next Start bs

-- a byte has led here
abbrev pub begun : State → Bool
begun Start = false
begun (Named l) = true
begun (First l n) = true
begun (Second l m n) = true
begun Refused = true

-- the numbers of a state are small
abbrev pub sound : State → Bool
sound Start = true
sound (Named l) = true
sound (First l n) = small n
sound (Second l m n) = small m && small n
sound Refused = true

abbrev pub Sound : State → Type 0
Sound s = sound s ≡ true

abbrev pub malformed : Result Command Malformed
malformed = Err (record {})

-- the command, if the number that has to be plain has no minus sign
abbrev pub if_plain : Bool → Command → Result Command Malformed
if_plain minus c = cond minus malformed (Ok c)

-- the command of a line with that letter and nothing more
abbrev pub no_number : Letter → Result Command Malformed
no_number A = malformed
no_number C = malformed
no_number H = malformed
no_number P = malformed
no_number Q = malformed
no_number S = Ok Strip
no_number W = malformed

-- the command of a line with that letter and one number, the value v after a minus sign or none
abbrev pub one_number : Letter → Bool → ℕ → Result Command Malformed
one_number A minus v = Ok (Append (signed_value minus v))
one_number C minus v = if_plain minus (Cut v)
one_number H minus v = malformed
one_number P minus v = malformed
one_number Q minus v = malformed
one_number S minus v = malformed
one_number W minus v = malformed

-- the same with two numbers, the second of which is w
abbrev pub two_numbers : Letter → Bool → ℕ → ℕ → Result Command Malformed
two_numbers A minus v w = malformed
two_numbers C minus v w = malformed
two_numbers H minus v w = if_plain minus (Hottest v w)
two_numbers P minus v w = Ok (AppendProbe (signed_value minus v) w)
two_numbers Q minus v w = if_plain minus (Coldest v w)
two_numbers S minus v w = malformed
two_numbers W minus v w = if_plain minus (Weakest v w)

-- what a line that ends in a state asks for
abbrev pub answer : State → Result Command Malformed
answer Start = malformed
answer (Named l) = no_number l
answer (First l n) = cond (nat_lt 0 n.digits) (one_number l n.minus n.value) malformed
answer (Second l m n) = cond (nat_lt 0 n.digits) (two_numbers l m.minus m.value n.value) malformed
answer Refused = malformed
