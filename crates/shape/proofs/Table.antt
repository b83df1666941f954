-- The table of ballot numbers: one test over the whole table gives its rule at each entry.
-- Assumes nothing.
use Rattle.std.proofs.Common.{◌≡◌, ℕ, zero, suc, ◌+◌, ◌<◌, ◌≤◌, Bool, true, leb, List, [], ◌∷◌, length, get_or, refl, arith}
use Rattle.std.proofs.lemmas.Grind.{common_steps}
use Rattle.std.proofs.lemmas.Bool.{and_parts, eqb-true, leb-true}
use Rattle.paths.specs.Ballot.{ballot}
use Rattle.shape.specs.Table.{every, right_rows}
use Rattle.shape.specs.declared.ballot.Row.{Row}

pub every_at : {X : Type 0} (f : ℕ → X → Bool) (xs : List X) (i k : ℕ) (d : X) → every f i xs ≡ true → k < length xs → f (i + k) (get_or xs k d) ≡ true
every_at f [] i k d t h = absurd (omega arith)
every_at f (x ∷ xs) i zero d t h = let e : i + 0 ≡ i = omega arith in rw e (and_parts (f i x) (every f (suc i) xs) t).0
every_at f (x ∷ xs) i (suc k) d t h =
    grind (arith, common_steps, and_parts, every_at f xs (suc i) k d (and_parts (f i x) (every f (suc i) xs) t).1 (omega arith))

pub table_entry : (rows : List Row) (p q : ℕ) (d : Row) → right_rows rows ≡ true → p ≤ 8 → q ≤ 8 → get_or (get_or rows p d).columns q 0 ≡ ballot p q
table_entry rows p q d t hp hq = grind (arith, common_steps, and_parts, eqb-true, every_at)

-- every ballot number of the table fits
abbrev upto : ℕ → List ℕ
upto zero = []
upto (suc n) = 0 ∷ upto n

abbrev small_rows : Bool
small_rows = every (λ p _. every (λ q _. leb (ballot p q) 1430) 0 (upto 9)) 0 (upto 9)

small : small_rows ≡ true
unfolding ballot
small = refl

pub ballot_small : (p q : ℕ) → p ≤ 8 → q ≤ 8 → ballot p q ≤ 1430
ballot_small p q hp hq =
    let row = every_at (λ p _. every (λ q _. leb (ballot p q) 1430) 0 (upto 9)) (upto 9) 0 p 0 small (omega arith) in
    let at = every_at (λ q _. leb (ballot (0 + p) q) 1430) (upto 9) 0 q 0 row (omega arith) in
    let e : 0 + p ≡ p = omega arith in
    let f : 0 + q ≡ q = omega arith in
    leb-true (ballot p q) 1430 (rw (e, f) at at)
