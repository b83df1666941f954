-- What the public calls of this crate answer: the value, or the refusal and exactly when it comes.
-- Assumes nothing.
use Rattle.std.specs.Prelude.{ℕ, cond, ◌||◌, Ok, Err, Result, nat_lt}
use Rattle.paths.specs.Ballot.{ballot}
use Rattle.shape.specs.declared.fault.RangeFault.{RangeFault}
use Rattle.shape.specs.declared.fault.RangeFault.TheVariants.{OutOfRange}
use Rattle.shape.specs.declared.fault.TableFault.{TableFault}
use Rattle.shape.specs.declared.fault.TableFault.TheVariants.{WrongLength, WrongCell}

-- the number of a refusal
abbrev pub range_code : RangeFault → ℕ
range_code OutOfRange = 13

abbrev pub table_code : TableFault → ℕ
table_code WrongLength = 14
table_code (WrongCell n e) = 15

-- a ballot number, refused where p or q is above 8
abbrev pub ballot_answer : ℕ → ℕ → Result ℕ RangeFault
ballot_answer p q = cond (nat_lt 8 p || nat_lt 8 q) (Err OutOfRange) (Ok (ballot p q))

-- an answerer's place for number t over i to j, by its meaning f; refused where t is above 1,429, j above 7 or i above j
abbrev pub seat_answer : (ℕ → ℕ → ℕ → ℕ) → ℕ → ℕ → ℕ → Result ℕ RangeFault
seat_answer f t i j = cond (nat_lt 1429 t || (nat_lt 7 j || nat_lt j i)) (Err OutOfRange) (Ok (f t i j))
