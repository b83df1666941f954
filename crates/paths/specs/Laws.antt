-- What shape numbers and answers promise, over every kind of reading.
-- Assumes nothing.
use Rattle.std.specs.Prelude.{◌≡◌, ℕ, ◌<◌, ◌≤◌, Bool, true, ◌||◌, List, [], ◌∷◌, length}
use Rattle.reading.specs.Order.{Orders}
use Rattle.reading.specs.Coldest.{FirstColdest, places}
use Rattle.paths.specs.Number.{number, shape}

-- each range below n has the same first coldest place under both orders
abbrev pub SameFirsts : ℕ → (ℕ → ℕ → Bool) → (ℕ → ℕ → Bool) → Type 0
SameFirsts n o u = (i j : ℕ) → i ≤ j → j < n → (p : ℕ) × FirstColdest o i j p × FirstColdest u i j p

-- two full blocks, of one kind or two, have the same number exactly when each of their 36 ranges has the same first coldest place
pub record EqualNumbers {K L : Type 0} (colder : K → K → Bool) (other : L → L → Bool) : Type 0 where
  pub answers : (xs : List K) (ys : List L) → length xs ≡ 8 → length ys ≡ 8 → shape colder xs ≡ shape other ys → SameFirsts 8 (places colder xs) (places other ys)
  pub numbers : (xs : List K) (ys : List L) → length xs ≡ 8 → length ys ≡ 8 → SameFirsts 8 (places colder xs) (places other ys) → shape colder xs ≡ shape other ys

-- x ties with none of the readings
abbrev pub Apart : {K : Type 0} → (K → K → Bool) → K → List K → Type 0
Apart colder x [] = Unit {0}
Apart colder x (y ∷ ys) = ((colder x y || colder y x) ≡ true) × Apart colder x ys

-- no two of the readings tie
abbrev pub NeverTie : {K : Type 0} → (K → K → Bool) → List K → Type 0
NeverTie colder [] = Unit {0}
NeverTie colder (x ∷ xs) = Apart colder x xs × NeverTie colder xs

-- the numbers of full blocks are below 1,430, and each of those is carried by a full block, where the kind has eight readings that never tie
pub record ExactNumbers {K : Type 0} (colder : K → K → Bool) : Type 0 where
  pub bounded : (block : List K) → length block ≡ 8 → shape colder block < 1430
  pub carried : (xs : List K) → length xs ≡ 8 → NeverTie colder xs → (t : ℕ) → t < 1430 → (block : List K) × (length block ≡ 8) × (shape colder block ≡ t)

-- f answers the first coldest place, of every range of every order of at most eight places, from the number alone
abbrev pub AnswersFirsts : (ℕ → ℕ → ℕ → ℕ) → Type 0
AnswersFirsts f = (o : ℕ → ℕ → Bool) → Orders o → (m i j : ℕ) → m ≤ 8 → i ≤ j → j < m → FirstColdest o i j (f (number o m) i j)
