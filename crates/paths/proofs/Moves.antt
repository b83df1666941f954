-- Moves and paths: the moves of an order, retraced, make its paths.
-- Assumes nothing.
use Rattle.std.proofs.Common.{◌≡◌, ℕ, zero, suc, ◌+◌, ◌-◌, ◌<◌, ◌≤◌, Bool, true, false, List, [], ◌∷◌, ◌++◌, length, sym, refl, ap, ◌∙◌, ⊎_elim, append_assoc, append-nil, arith}
use Rattle.std.proofs.lemmas.Grind.{common_steps}
use Rattle.std.proofs.lemmas.Bool.{cases_Bool}
use Rattle.paths.specs.Path.{left, arrival, path, moves}
use Rattle.paths.specs.Cell.{up_to, retrace, without_last}
use Rattle.paths.specs.Stack.{Below}

-- how many places arrive, and how many are removed
abbrev pub arrivals : List Bool → ℕ
arrivals [] = 0
arrivals (true ∷ rest) = suc (arrivals rest)
arrivals (false ∷ rest) = arrivals rest

abbrev pub removals : List Bool → ℕ
removals [] = 0
removals (true ∷ rest) = removals rest
removals (false ∷ rest) = suc (removals rest)

pub arrivals_append : (a b : List Bool) → arrivals (a ++ b) ≡ arrivals a + arrivals b
arrivals_append [] b = omega arith
arrivals_append (true ∷ a) b = omega (arith, arrivals_append a b)
arrivals_append (false ∷ a) b = omega (arith, arrivals_append a b)

pub removals_append : (a b : List Bool) → removals (a ++ b) ≡ removals a + removals b
removals_append [] b = omega arith
removals_append (true ∷ a) b = omega (arith, removals_append a b)
removals_append (false ∷ a) b = omega (arith, removals_append a b)

pub retrace_append : (c : ℕ) (st : List ℕ) (a b : List Bool) → retrace c st (a ++ b) ≡ retrace (c + arrivals a) (retrace c st a) b
retrace_append c st [] b = let e : c + 0 ≡ c = omega arith in rw e
retrace_append c st (true ∷ a) b = grind (arith, common_steps, retrace_append (suc c) (c ∷ st) a b)
retrace_append c st (false ∷ a) b = retrace_append c (without_last st) a b

module _ (o : ℕ → ℕ → Bool) where
  -- ---- one arrival

  pub arrivals_arrival : (c : ℕ) (st : List ℕ) → arrivals (arrival o c st) ≡ 1
  arrivals_arrival c [] = refl
  arrivals_arrival c (t ∷ st) =
      ⊎_elim (λ (d : o c t ≡ true). rw d (arrivals_arrival c st)) (λ (d : o c t ≡ false). rw d) (cases_Bool (o c t))

  pub removals_arrival : (c : ℕ) (st : List ℕ) → removals (arrival o c st) + length (left o c st) ≡ length st
  removals_arrival c [] = refl
  removals_arrival c (t ∷ st) =
      ⊎_elim (λ (d : o c t ≡ true). rw d (omega (arith, removals_arrival c st))) (λ (d : o c t ≡ false). rw d (omega arith)) (cases_Bool (o c t))

  pub retrace_arrival : (c : ℕ) (st : List ℕ) → retrace c st (arrival o c st) ≡ c ∷ left o c st
  retrace_arrival c [] = refl
  retrace_arrival c (t ∷ st) =
      ⊎_elim (λ (d : o c t ≡ true). rw d (retrace_arrival c st)) (λ (d : o c t ≡ false). rw d) (cases_Bool (o c t))

  pub up_to_arrival : (c : ℕ) (st : List ℕ) → up_to 0 (arrival o c st) ≡ arrival o c st
  up_to_arrival c [] = refl
  up_to_arrival c (t ∷ st) =
      ⊎_elim (λ (d : o c t ≡ true). rw d (ap (λ ms. false ∷ ms) (up_to_arrival c st))) (λ (d : o c t ≡ false). rw d) (cases_Bool (o c t))

  -- ---- all arrivals

  pub arrivals_moves : (n : ℕ) → arrivals (moves o n) ≡ n
  unfolding moves
  arrivals_moves zero = refl
  arrivals_moves (suc n) =
      omega (arith, arrivals_append (moves o n) (arrival o n (path o n)), arrivals_moves n, arrivals_arrival n (path o n))

  -- what arrived and was not removed is on the path
  pub removals_moves : (n : ℕ) → removals (moves o n) + length (path o n) ≡ n
  unfolding moves path
  removals_moves zero = refl
  removals_moves (suc n) =
      omega (arith, removals_append (moves o n) (arrival o n (path o n)), removals_moves n, removals_arrival n (path o n))

  pub retrace_moves : (n : ℕ) → retrace 0 [] (moves o n) ≡ path o n
  unfolding moves path
  retrace_moves zero = refl
  retrace_moves (suc n) =
      retrace_append 0 [] (moves o n) (arrival o n (path o n))
      ∙ ap (λ c. retrace c (retrace 0 [] (moves o n)) (arrival o n (path o n))) (let e : 0 + arrivals (moves o n) ≡ n = omega (arith, arrivals_moves n) in e)
      ∙ ap (λ st. retrace n st (arrival o n (path o n))) (retrace_moves n)
      ∙ retrace_arrival n (path o n)

-- ---- the moves up to an arrival

pub up_to_within : (j : ℕ) (a b : List Bool) → j < arrivals a → up_to j (a ++ b) ≡ up_to j a
up_to_within j [] b h = absurd (omega arith)
up_to_within zero (true ∷ a) b h = refl
up_to_within (suc j) (true ∷ a) b h = ap (λ ms. true ∷ ms) (up_to_within j a b (omega arith))
up_to_within j (false ∷ a) b h = ap (λ ms. false ∷ ms) (up_to_within j a b h)

pub up_to_past : (j : ℕ) (a b : List Bool) → up_to (arrivals a + j) (a ++ b) ≡ a ++ up_to j b
up_to_past j [] b = let e : 0 + j ≡ j = omega arith in rw e
up_to_past j (true ∷ a) b = grind (arith, common_steps, up_to_past j a b)
up_to_past j (false ∷ a) b = ap (λ ms. false ∷ ms) (up_to_past j a b)

pub up_to_moves : (o : ℕ → ℕ → Bool) (n : ℕ) → up_to n (moves o (suc n)) ≡ moves o (suc n)
unfolding moves
up_to_moves o n =
    let e : n ≡ arrivals (moves o n) + 0 = omega (arith, arrivals_moves o n) in
    ap (λ j. up_to j (moves o n ++ arrival o n (path o n))) e
    ∙ up_to_past 0 (moves o n) (arrival o n (path o n))
    ∙ ap (λ ms. moves o n ++ ms) (up_to_arrival o n (path o n))

-- the moves of the first places stand in front of the others
pub moves_split : (o : ℕ → ℕ → Bool) (n m : ℕ) → (rest : List Bool) × (moves o (n + m) ≡ moves o n ++ rest)
unfolding moves
moves_split o n zero = ([], ap (moves o) (let e : n + 0 ≡ n = omega arith in e) ∙ sym (append-nil (moves o n)))
moves_split o n (suc m) =
    let s = moves_split o n m in (
      s.0 ++ arrival o (n + m) (path o (n + m)),
      ap (moves o) (let e : n + suc m ≡ suc (n + m) = omega arith in e)
          ∙ ap (λ ms. ms ++ arrival o (n + m) (path o (n + m))) s.1
          ∙ append_assoc (moves o n) s.0 (arrival o (n + m) (path o (n + m))),
    )

pub up_to_of_moves : (o : ℕ → ℕ → Bool) (j m : ℕ) (b : List Bool) → j < m → up_to j (moves o m ++ b) ≡ moves o (suc j)
up_to_of_moves o j m b h =
    let s = moves_split o (suc j) (m - suc j) in
    let e : moves o m ≡ moves o (suc j) ++ s.0 = ap (moves o) (let k : m ≡ suc j + (m - suc j) = omega arith in k) ∙ s.1 in
    let within : j < arrivals (moves o (suc j)) = omega (arith, arrivals_moves o (suc j)) in
    ap (λ ms. up_to j (ms ++ b)) e
    ∙ ap (up_to j) (append_assoc (moves o (suc j)) s.0 b)
    ∙ up_to_within j (moves o (suc j)) (s.0 ++ b) within
    ∙ up_to_moves o j

-- ---- orders that agree on the places below n

abbrev pub Agree : ℕ → (ℕ → ℕ → Bool) → (ℕ → ℕ → Bool) → Type 0
Agree n o u = (i j : ℕ) → i < n → j < n → o i j ≡ u i j

pub agree_less : {o u : ℕ → ℕ → Bool} (m n : ℕ) → m ≤ n → Agree n o u → Agree m o u
agree_less m n h agree i j a b = agree i j (omega arith) (omega arith)

pub agree_sym : {o u : ℕ → ℕ → Bool} (n : ℕ) → Agree n o u → Agree n u o
agree_sym n agree i j a b = sym (agree i j a b)

pub below_more : (c : ℕ) (st : List ℕ) → Below c st → Below (suc c) st
below_more c [] b = tt
below_more c (t ∷ st) b = (omega (arith, b.0), below_more c st b.1)

pub left_below : (o : ℕ → ℕ → Bool) (c n : ℕ) (st : List ℕ) → Below n st → Below n (left o c st)
left_below o c n [] b = tt
left_below o c n (t ∷ st) b =
    ⊎_elim (λ (d : o c t ≡ true). rw d (left_below o c n st b.1)) (λ (d : o c t ≡ false). rw d b) (cases_Bool (o c t))

pub path_below : (o : ℕ → ℕ → Bool) (n : ℕ) → Below n (path o n)
unfolding path
path_below o zero = tt
path_below o (suc n) = (omega arith, below_more n (left o n (path o n)) (left_below o n n (path o n) (path_below o n)))

-- an order is asked only whether the arriving place is colder than one of the path
pub same_arrival : (o u : ℕ → ℕ → Bool) (c : ℕ) (st : List ℕ) → ((t : ℕ) → t < c → o c t ≡ u c t) → Below c st
    → (left o c st ≡ left u c st) × (arrival o c st ≡ arrival u c st)
same_arrival o u c [] same below = (refl, refl)
same_arrival o u c (t ∷ st) same below = grind (arith, common_steps, same_arrival o u c st same below.1)

pub same_moves : (o u : ℕ → ℕ → Bool) (n : ℕ) → Agree n o u → (path o n ≡ path u n) × (moves o n ≡ moves u n)
unfolding path moves
same_moves o u zero agree = (refl, refl)
same_moves o u (suc n) agree =
    let before = same_moves o u n (agree_less n (suc n) (omega arith) agree) in
    let here = same_arrival o u n (path o n) (λ t h. agree n t (omega arith) (omega arith)) (path_below o n) in (
      ap (λ st. n ∷ st) (here.0 ∙ ap (left u n) before.0),
      ap (λ ms. ms ++ arrival o n (path o n)) before.1 ∙ ap (λ ms. moves u n ++ ms) (here.1 ∙ ap (arrival u n) before.0),
    )
