-- Shape numbers as ranks: moves with eight arrivals and their weights correspond one to one, and the weights are those below 1,430.
-- Assumes nothing.
use Rattle.std.proofs.Common.{◌≡◌, ℕ, zero, suc, ◌+◌, ◌-◌, ◌<◌, ◌≤◌, Bool, true, false, ltb, List, [], ◌∷◌, ◌++◌, length, replicate, sym, refl, ap, ◌∙◌, subst, ⊎_elim, arith}
use Rattle.std.proofs.lemmas.Grind.{common_steps}
use Rattle.std.proofs.lemmas.Bool.{cases_Bool, cases_lt, ltb-true, ltb-false, le-leb, lt-leb}
use Rattle.paths.specs.Ballot.{ballot, BallotRule}
use Rattle.paths.specs.Number.{weigh}
use Rattle.paths.specs.Path.{arrival, moves}
use Rattle.paths.specs.Cell.{unrank, moves_of}
use Rattle.paths.proofs.Moves.{arrivals, removals, removals_moves}

-- ---- the recurrence

ballot_edge : (q : ℕ) → ballot 0 q ≡ 1
unfolding ballot
ballot_edge q = refl

ballot_inner : (p q : ℕ) → p ≤ q → ballot (suc p) (suc q) ≡ ballot (suc p) q + ballot p (suc q)
unfolding ballot
ballot_inner p q h = rw (le-leb (suc p) (suc q) (omega arith))

ballot_elsewhere : (p q : ℕ) → q < p → ballot p q ≡ 0
unfolding ballot
ballot_elsewhere zero q h = absurd (omega arith)
ballot_elsewhere (suc p) zero h = refl
ballot_elsewhere (suc p) (suc q) h = rw (lt-leb (suc p) (suc q) h)

pub ballot_rule : BallotRule ballot
ballot_rule = record {
  start = ballot_edge 0;
  edge = λ q. ballot_edge (suc q) ∙ sym (ballot_edge q);
  inner = ballot_inner;
  elsewhere = ballot_elsewhere;
}

-- the rule, one step back from p and q
pub ballot_back : (p q : ℕ) → p ≤ q → 0 < p → 0 < q → ballot p q ≡ ballot p (q - 1) + ballot (p - 1) q
ballot_back p q h pp pq =
    let e : p ≡ suc (p - 1) = omega arith in
    let f : q ≡ suc (q - 1) = omega arith in
    subst (λ (x : ℕ). ballot x q ≡ ballot x (q - 1) + ballot (p - 1) q) (sym e)
    (subst (λ (y : ℕ). ballot (suc (p - 1)) y ≡ ballot (suc (p - 1)) (q - 1) + ballot (p - 1) y) (sym f) (ballot_inner (p - 1) (q - 1) (omega arith)))

pub ballot_count : ballot 8 8 ≡ 1430
unfolding ballot
ballot_count = refl

-- where c places have arrived and k were removed: the moves that go on with a removal, and those that go on with an arrival
pub ballot_parts : (c k : ℕ) → c < 8 → k ≤ c → ballot (8 - c) (8 - k) ≡ ballot (8 - c) (8 - suc k) + ballot (7 - c) (8 - k)
ballot_parts c k h l =
    let p : 8 - c ≡ suc (7 - c) = omega arith in
    let q : 8 - k ≡ suc (7 - k) = omega arith in
    let r : 8 - suc k ≡ 7 - k = omega arith in
    rw (p, q, r) (ballot_inner (7 - c) (7 - k) (omega arith))

-- a ballot number above the diagonal is 0, so moves go on with a removal only where a place is on the path
pub ballot_some : (c k : ℕ) {x : ℕ} → c < 8 → k ≤ c → x < ballot (8 - c) (8 - suc k) → k < c
ballot_some c k {x} lt l below = grind (arith, common_steps, ballot_elsewhere, cases_lt)

-- ---- moves with n arrivals in all, the last of which ends them, where c places have arrived and k were removed

abbrev pub Full : ℕ → ℕ → ℕ → List Bool → Type 0
Full n c k [] = c ≡ n
Full n c k (true ∷ rest) = (c < n) × Full n (suc c) k rest
Full n c k (false ∷ rest) = (c < n) × (k < c) × Full n c (suc k) rest

pub full_append : (n m c k : ℕ) (a b : List Bool) → m ≤ n → Full m c k a → Full n m (k + removals a) b → Full n c k (a ++ b)
full_append n m c k [] b h fa fb = let e : k + 0 ≡ k = omega arith in subst (λ (j : ℕ). Full n c j b) e (subst (λ (i : ℕ). Full n i (k + 0) b) (sym fa) fb)
full_append n m c k (true ∷ a) b h fa fb = (omega (arith, fa.0), full_append n m (suc c) k a b h fa.1 fb)
full_append n m c k (false ∷ a) b h fa fb =
    let e : k + suc (removals a) ≡ suc k + removals a = omega arith in
    (omega (arith, fa.0), fa.1, full_append n m c (suc k) a b h fa.2 (subst (λ (j : ℕ). Full n m j b) e fb))

pub full_arrivals : (n c k : ℕ) → c ≤ n → Full n c k (replicate (n - c) true)
full_arrivals n c k h = go (n - c) c (omega arith)
  where
    go : (m i : ℕ) → i + m ≡ n → Full n i k (replicate m true)
    go zero i e = omega arith
    go (suc m) i e = (omega arith, go m (suc i) (omega arith))

module _ (o : ℕ → ℕ → Bool) where
  full_arrival : (c k : ℕ) (st : List ℕ) → k + length st ≡ c → Full (suc c) c k (arrival o c st)
  full_arrival c k [] h = (omega arith, refl)
  full_arrival c k (t ∷ st) h = grind (arith, common_steps, cases_Bool, full_arrival c (suc k) st (omega arith))

  pub full_moves : (n : ℕ) → Full n 0 0 (moves o n)
  unfolding moves
  full_moves zero = refl
  full_moves (suc n) = grind (arith, common_steps, full_append, full_arrival, removals, removals_moves, full_moves n)

-- ---- weights

pub weigh_append : (c k : ℕ) (a b : List Bool) → weigh c k (a ++ b) ≡ weigh c k a + weigh (c + arrivals a) (k + removals a) b
weigh_append c k [] b =
    let e : c + 0 ≡ c = omega arith in let f : k + 0 ≡ k = omega arith in rw (e, f) (omega arith)
weigh_append c k (true ∷ a) b =
    let e : c + suc (arrivals a) ≡ suc c + arrivals a = omega arith in rw e (weigh_append (suc c) k a b)
weigh_append c k (false ∷ a) b = grind (arith, common_steps, removals, weigh_append c (suc k) a b)

pub weigh_arrivals : (n c k : ℕ) → weigh c k (replicate n true) ≡ 0
weigh_arrivals zero c k = refl
weigh_arrivals (suc n) c k = weigh_arrivals n (suc c) k

pub full_bound : (c k : ℕ) (ms : List Bool) → k ≤ c → c ≤ 8 → Full 8 c k ms → weigh c k ms < ballot (8 - c) (8 - k)
full_bound c k [] l h full =
    let e : 8 - c ≡ 0 = omega (arith, full) in rw (e, ballot_edge (8 - k)) (omega arith)
full_bound c k (true ∷ ms) l h full = grind (arith, common_steps, ballot_parts, full_bound (suc c) k ms (omega arith) full.0 full.1)
full_bound c k (false ∷ ms) l h full =
    omega (arith, full_bound c (suc k) ms full.1 h full.2, ballot_parts c k full.0 l)

pub full_same : (c k : ℕ) (xs ys : List Bool) → k ≤ c → c ≤ 8 → Full 8 c k xs → Full 8 c k ys → weigh c k xs ≡ weigh c k ys → xs ≡ ys
full_same c k [] [] l h fa fb e = refl
full_same c k [] (true ∷ ys) l h fa fb e = absurd (omega (arith, fa, fb.0))
full_same c k [] (false ∷ ys) l h fa fb e = absurd (omega (arith, fa, fb.0))
full_same c k (true ∷ xs) [] l h fa fb e = absurd (omega (arith, fb, fa.0))
full_same c k (false ∷ xs) [] l h fa fb e = absurd (omega (arith, fb, fa.0))
full_same c k (true ∷ xs) (true ∷ ys) l h fa fb e = ap (λ ms. true ∷ ms) (full_same (suc c) k xs ys (omega arith) fa.0 fa.1 fb.1 e)
full_same c k (false ∷ xs) (false ∷ ys) l h fa fb e = ap (λ ms. false ∷ ms) (full_same c (suc k) xs ys fa.1 h fa.2 fb.2 (omega arith))
full_same c k (true ∷ xs) (false ∷ ys) l h fa fb e = grind (arith, common_steps, full_bound)
full_same c k (false ∷ xs) (true ∷ ys) l h fa fb e = grind (arith, common_steps, full_bound)

-- ---- from a weight back to the moves

pub record Unranked (c k t : ℕ) (ms : List Bool) : Type 0 where
  pub full : Full 8 c k ms
  pub weight : weigh c k ms ≡ t

pub unranked : (steps c k t : ℕ) → (8 - c) + (8 - k) ≤ steps → k ≤ c → c ≤ 8 → t < ballot (8 - c) (8 - k) → Unranked c k t (unrank steps c k t)
unranked zero c k t few l h below =
    let e : 8 - c ≡ 0 = omega arith in
    record { full = omega arith; weight = omega (arith, rw (e, ballot_edge (8 - k)) at below) }
unranked (suc steps) c k t few l h below =
    ⊎_elim
    (λ (more : ltb c 8 ≡ true).
    let lt : c < 8 = ltb-true c 8 more in
    ⊎_elim
    (λ (d : ltb t (ballot (7 - c) (8 - k)) ≡ true).
    let e : 8 - suc c ≡ 7 - c = omega arith in
    let r : Unranked (suc c) k t (unrank steps (suc c) k t) = unranked steps (suc c) k t (omega arith) (omega arith) lt (rw e (ltb-true t (ballot (7 - c) (8 - k)) d)) in
    rw (more, d) (record { full = (lt, r.full); weight = r.weight }))
    (λ (d : ltb t (ballot (7 - c) (8 - k)) ≡ false).
    let w : ℕ = ballot (7 - c) (8 - k) in
    let le : w ≤ t = ltb-false t w d in
    let parts = ballot_parts c k lt l in
    let left : t - w < ballot (8 - c) (8 - suc k) = omega (arith, parts, le, below) in
    let on : k < c = ballot_some c k lt l left in
    let r : Unranked c (suc k) (t - w) (unrank steps c (suc k) (t - w)) = unranked steps c (suc k) (t - w) (omega arith) on h left in
    rw (more, d) (record { full = (lt, on, r.full); weight = omega (arith, r.weight, le) }))
    (cases_Bool (ltb t (ballot (7 - c) (8 - k)))))
    (λ (more : ltb c 8 ≡ false).
    let e : 8 - c ≡ 0 = omega (arith, ltb-false c 8 more) in
    rw more (record { full = omega (arith, ltb-false c 8 more); weight = omega (arith, rw (e, ballot_edge (8 - k)) at below) }))
    (cases_Bool (ltb c 8))

pub moves_of_unranked : (t : ℕ) → t < 1430 → Unranked 0 0 t (moves_of t)
unfolding moves_of
moves_of_unranked t h = unranked 16 0 0 t (omega arith) (omega arith) (omega arith) (rw ballot_count h)

-- the moves of the first m places, and then arrivals only
abbrev pub completed : (ℕ → ℕ → Bool) → ℕ → List Bool
completed o m = moves o m ++ replicate (8 - m) true

pub full_completed : (o : ℕ → ℕ → Bool) (m : ℕ) → m ≤ 8 → Full 8 0 0 (completed o m)
full_completed o m h =
    full_append 8 m 0 0 (moves o m) (replicate (8 - m) true) h (full_moves o m) (full_arrivals 8 m (0 + removals (moves o m)) h)

pub weigh_completed : (o : ℕ → ℕ → Bool) (m : ℕ) → weigh 0 0 (completed o m) ≡ weigh 0 0 (moves o m)
weigh_completed o m = grind (arith, common_steps, arrivals, removals, replicate, weigh_append, weigh_arrivals)

-- for a caller: a shape number is below 1,430
pub number_bound : (o : ℕ → ℕ → Bool) (m : ℕ) → m ≤ 8 → weigh 0 0 (moves o m) < 1430
number_bound o m h =
    let b = full_bound 0 0 (completed o m) (omega arith) (omega arith) (full_completed o m h) in
    omega (arith, b, ballot_count, weigh_completed o m)

-- for a caller: the moves of a block are those of its number
pub moves_of_number : (o : ℕ → ℕ → Bool) (m : ℕ) → m ≤ 8 → moves_of (weigh 0 0 (moves o m)) ≡ completed o m
moves_of_number o m h =
    let u = moves_of_unranked (weigh 0 0 (moves o m)) (number_bound o m h) in
    full_same 0 0 (moves_of (weigh 0 0 (moves o m))) (completed o m) (omega arith) (omega arith) u.full (full_completed o m h)
    (u.weight ∙ sym (weigh_completed o m))
