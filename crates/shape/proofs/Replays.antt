-- Any moves are the moves of some order: a place is colder than another where its depth, the path's length when it joined, is less, and at equal depths where it is later.
-- Assumes nothing.
use Rattle.std.proofs.Common.{◌≡◌, ℕ, zero, suc, ◌+◌, ◌-◌, ◌*◌, ◌<◌, ◌≤◌, Bool, true, false, ltb, List, [], ◌∷◌, ◌++◌, length, get_or, sym, refl, ap, ◌∙◌, subst, append_assoc, append-nil, arith}
use Rattle.std.proofs.lemmas.Grind.{common_steps}
use Rattle.std.proofs.lemmas.Bool.{ltb-true, ltb-false, lt-ltb, le-ltb}
use Rattle.reading.specs.Order.{Orders}
use Rattle.paths.specs.Cell.{moves_of}
use Rattle.paths.specs.Number.{weigh, number}
use Rattle.paths.specs.Path.{depths, left, arrival, path, moves}
use Rattle.paths.specs.Stack.{Below}
use Rattle.paths.proofs.Moves.{below_more}
use Rattle.paths.proofs.Ranks.{Full, moves_of_unranked}

-- ---- an order by keys

abbrev pub by_key : (ℕ → ℕ) → ℕ → ℕ → Bool
by_key key i j = ltb (key i) (key j)

pub key_orders : (key : ℕ → ℕ) → Orders (by_key key)
key_orders key = record {
  irreflexive = λ a. le-ltb (key a) (key a) (omega arith);
  transitive = λ a b c h k. lt-ltb (key a) (key c) (omega (arith, ltb-true (key a) (key b) h, ltb-true (key b) (key c) k));
  chained = λ a b c h k. le-ltb (key a) (key c) (omega (arith, ltb-false (key a) (key b) h, ltb-false (key b) (key c) k));
}

-- ---- the moves of n places more, forward from a path

abbrev onward : (ℕ → ℕ → Bool) → ℕ → ℕ → List ℕ → List Bool
onward o c zero st = []
onward o c (suc n) st = arrival o c st ++ onward o (suc c) n (c ∷ left o c st)

onward_moves : (o : ℕ → ℕ → Bool) (c n : ℕ) → moves o (c + n) ≡ moves o c ++ onward o c n (path o c)
unfolding moves path
onward_moves o c zero = ap (moves o) (let e : c + 0 ≡ c = omega arith in e) ∙ sym (append-nil (moves o c))
onward_moves o c (suc n) = grind (arith, common_steps, append_assoc, onward_moves o (suc c) n)

-- ---- depths

first_depth : (n c k h : ℕ) (ms : List Bool) → c < n → Full n c k ms → get_or (depths h ms) 0 0 ≤ suc h
first_depth n c k h [] below full = absurd (omega (arith, full))
first_depth n c k h (true ∷ ms) below full = omega arith
first_depth n c k zero (false ∷ ms) below full = first_depth n c (suc k) zero ms below full.2
first_depth n c k (suc h) (false ∷ ms) below full = omega (arith, first_depth n c (suc k) h ms below full.2)

-- a path where each place's depth is its height
abbrev Stacked : (ℕ → ℕ) → List ℕ → Type 0
Stacked d [] = Unit {0}
Stacked d (t ∷ st) = (d t ≡ suc (length st)) × Stacked d st

-- the reading that stands for a place of depth d p
abbrev pub replay_key : (ℕ → ℕ) → ℕ → ℕ
replay_key d p = 32768 * d p - p

module _ (n : ℕ) (d : ℕ → ℕ) (few : n ≤ 32768) where
  colder_from : (c t : ℕ) → c < n → t < c → d c ≤ d t → 0 < d t → by_key (replay_key d) c t ≡ true
  colder_from c t h k le pos = lt-ltb (replay_key d c) (replay_key d t) (omega arith)

  warmer_from : (c t : ℕ) → c < n → t < c → d t < d c → by_key (replay_key d) c t ≡ false
  warmer_from c t h k lt = le-ltb (replay_key d c) (replay_key d t) (omega arith)

  pub onward_replayed : (ms : List Bool) (c k : ℕ) (st : List ℕ) → Full n c k ms → k + length st ≡ c → Stacked d st → Below c st
      → ((i : ℕ) → c + i < n → d (c + i) ≡ get_or (depths (length st) ms) i 0)
      → onward (by_key (replay_key d)) c (n - c) st ≡ ms
  onward_replayed [] c k st full sum stacked below reads = let e : n - c ≡ 0 = omega (arith, full) in rw e
  onward_replayed (true ∷ ms) c k st full sum stacked below reads =
      let o : ℕ → ℕ → Bool = by_key (replay_key d) in
      let e : n - c ≡ suc (n - suc c) = omega (arith, full.0) in
      let here : d c ≡ suc (length st) = subst (λ (x : ℕ). d x ≡ suc (length st)) (let z : c + 0 ≡ c = omega arith in z) (reads 0 (omega (arith, full.0))) in
      let stop : (left o c st ≡ st) × (arrival o c st ≡ true ∷ []) = stops c st full.0 here stacked below in
      let rest : onward o (suc c) (n - suc c) (c ∷ st) ≡ ms =
      onward_replayed ms (suc c) k (c ∷ st) full.1 (omega arith) (here, stacked) (omega arith, below_more c st below)
      (λ i h. subst (λ (x : ℕ). d x ≡ get_or (depths (suc (length st)) ms) i 0) (let z : c + suc i ≡ suc c + i = omega arith in z) (reads (suc i) (omega arith))) in
      rw e (ap (λ l. arrival o c st ++ onward o (suc c) (n - suc c) (c ∷ l)) stop.0 ∙ ap (λ a. a ++ onward o (suc c) (n - suc c) (c ∷ st)) stop.1 ∙ ap (λ r. true ∷ r) rest)
    where
      stops : (c : ℕ) (st : List ℕ) → c < n → d c ≡ suc (length st) → Stacked d st → Below c st
          → (left (by_key (replay_key d)) c st ≡ st) × (arrival (by_key (replay_key d)) c st ≡ true ∷ [])
      stops c [] h here stacked below = (refl, refl)
      stops c (t ∷ st) h here stacked below =
          let e = warmer_from c t h below.0 (omega (arith, stacked.0)) in (rw e, rw e)
  onward_replayed (false ∷ ms) c k [] full sum stacked below reads = absurd (omega (arith, full.1))
  onward_replayed (false ∷ ms) c k (t ∷ st) full sum stacked below reads =
      let o : ℕ → ℕ → Bool = by_key (replay_key d) in
      let e : n - c ≡ suc (n - suc c) = omega (arith, full.0) in
      let here : d c ≡ get_or (depths (length st) ms) 0 0 = subst (λ (x : ℕ). d x ≡ get_or (depths (length st) ms) 0 0) (let z : c + 0 ≡ c = omega arith in z) (reads 0 (omega (arith, full.0))) in
      let test : o c t ≡ true = colder_from c t full.0 below.0 (omega (arith, here, stacked.0, first_depth n c (suc k) (length st) ms full.0 full.2)) (omega (arith, stacked.0)) in
      let rest : onward o c (n - c) st ≡ ms = onward_replayed ms c (suc k) st full.2 (omega arith) stacked.1 below.1 reads in
      rw (e, test) (ap (λ r. false ∷ r) (rw e at rest))

-- for a caller: the replayed order of full moves has just those moves
pub moves_replayed : (n : ℕ) (ms : List Bool) → n ≤ 32768 → Full n 0 0 ms → moves (by_key (replay_key (λ p. get_or (depths 0 ms) p 0))) n ≡ ms
unfolding moves path
moves_replayed n ms few full =
    let d : ℕ → ℕ = λ p. get_or (depths 0 ms) p 0 in
    ap (moves (by_key (replay_key d))) (let e : n ≡ 0 + n = omega arith in e)
    ∙ onward_moves (by_key (replay_key d)) 0 n
    ∙ ap (λ m. onward (by_key (replay_key d)) 0 m []) (let e : n ≡ n - 0 = omega arith in e)
    ∙ onward_replayed n d few ms 0 0 [] full refl tt tt (λ i h. ap d (let e : 0 + i ≡ i = omega arith in e))

-- for a caller: each number below 1,430 is that of some order of eight places, whose keys never tie
pub sample_key : ℕ → ℕ → ℕ
sample_key t = replay_key (λ p. get_or (depths 0 (moves_of t)) p 0)

pub sample_number : (t : ℕ) → t < 1430 → number (by_key (sample_key t)) 8 ≡ t
unfolding sample_key
sample_number t h =
    let u = moves_of_unranked t h in
    ap (weigh 0 0) (moves_replayed 8 (moves_of t) (omega arith) u.full) ∙ u.weight
