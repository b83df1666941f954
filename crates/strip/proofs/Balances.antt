-- Balanced bits: by heights, by counts, and as the moves of an order with what is left on its path.
-- Assumes nothing.
use Rattle.std.proofs.Common.{◌≡◌, ℕ, zero, suc, ◌+◌, ◌-◌, ◌*◌, ◌<◌, ◌≤◌, Bool, true, false, List, [], ◌∷◌, ◌++◌, length, get_or, take, replicate, Some, Option, sym, refl, ap, ◌∙◌, ⊎_elim, arith}
use Rattle.std.proofs.lemmas.Bool.{cases_lt}
use Rattle.paths.specs.Path.{path, moves, depths}
use Rattle.paths.proofs.Moves.{arrivals, removals, arrivals_moves, removals_moves}
use Rattle.paths.proofs.Ranks.{Full, full_moves}
use Rattle.shape.proofs.Replays.{by_key, replay_key, moves_replayed}
use Rattle.firing_log.specs.Strip.{bits_of}
use Rattle.strip.specs.Bits.{ones, zeros, Balanced, height_after}

pub some_same : {a b : ℕ} → ◌≡◌ {A = Option ℕ} (Some a) (Some b) → a ≡ b
some_same {a} {b} e = cc

-- ---- heights and counts

pub height_counts : (h e : ℕ) (bits : List Bool) → height_after h bits ≡ Some e → h + ones bits ≡ e + zeros bits
height_counts h e [] is = omega (arith, some_same is)
height_counts h e (true ∷ bits) is = omega (arith, height_counts (suc h) e bits is)
height_counts zero e (false ∷ bits) is = cc
height_counts (suc h) e (false ∷ bits) is = omega (arith, height_counts h e bits is)

height_beginnings : (h e k : ℕ) (bits : List Bool) → height_after h bits ≡ Some e → zeros (take k bits) ≤ h + ones (take k bits)
height_beginnings h e zero bits is = omega arith
height_beginnings h e (suc k) [] is = omega arith
height_beginnings h e (suc k) (true ∷ bits) is = omega (arith, height_beginnings (suc h) e k bits is)
height_beginnings zero e (suc k) (false ∷ bits) is = cc
height_beginnings (suc h) e (suc k) (false ∷ bits) is = omega (arith, height_beginnings h e k bits is)

pub length_counts : (bits : List Bool) → length bits ≡ ones bits + zeros bits
length_counts [] = refl
length_counts (true ∷ bits) = omega (arith, length_counts bits)
length_counts (false ∷ bits) = omega (arith, length_counts bits)

pub balanced_from_height : (n : ℕ) (bits : List Bool) → length bits ≡ 2 * n → height_after 0 bits ≡ Some 0 → Balanced n bits
balanced_from_height n bits long is = record {
  all_ones = omega (arith, length_counts bits, height_counts 0 0 bits is);
  all_zeros = omega (arith, length_counts bits, height_counts 0 0 bits is);
  beginnings = λ k. omega (arith, height_beginnings 0 0 k bits is);
}

height_reached : (h : ℕ) (bits : List Bool) → ((k : ℕ) → zeros (take k bits) ≤ h + ones (take k bits)) → height_after h bits ≡ Some (h + ones bits - zeros bits)
height_reached h [] ok = ap Some (let e : h ≡ h + 0 - 0 = omega arith in e)
height_reached h (true ∷ bits) ok =
    height_reached (suc h) bits (λ k. omega (arith, ok (suc k))) ∙ ap Some (let e : suc h + ones bits - zeros bits ≡ h + suc (ones bits) - zeros bits = omega arith in e)
height_reached zero (false ∷ bits) ok = absurd (omega (arith, ok 1))
height_reached (suc h) (false ∷ bits) ok =
    height_reached h bits (λ k. omega (arith, ok (suc k))) ∙ ap Some (let e : h + ones bits - zeros bits ≡ suc h + ones bits - suc (zeros bits) = omega arith in e)

pub height_from_balanced : (n : ℕ) (bits : List Bool) → Balanced n bits → height_after 0 bits ≡ Some 0
height_from_balanced n bits b =
    height_reached 0 bits (λ k. omega (arith, b.beginnings k)) ∙ ap Some (let e : 0 + ones bits - zeros bits ≡ 0 = omega (arith, b.all_ones, b.all_zeros) in e)

-- ---- full moves and what is left are balanced

height_zeros : (z : ℕ) → height_after z (replicate z false) ≡ Some 0
height_zeros zero = refl
height_zeros (suc z) = height_zeros z

full_height : (n c k h z : ℕ) (ms : List Bool) → c ≡ k + h → Full n c k ms → h + arrivals ms ≡ z + removals ms → height_after h (ms ++ replicate z false) ≡ Some 0
full_height n c k h z [] at full sum = let e : h ≡ z = omega arith in rw e (height_zeros z)
full_height n c k h z (true ∷ ms) at full sum = full_height n (suc c) k (suc h) z ms (omega arith) full.1 (omega arith)
full_height n c k zero z (false ∷ ms) at full sum = absurd (omega (arith, full.1))
full_height n c k (suc h) z (false ∷ ms) at full sum = full_height n c (suc k) h z ms (omega arith) full.2 (omega arith)

pub bits_height : (o : ℕ → ℕ → Bool) (n : ℕ) → height_after 0 (bits_of o n) ≡ Some 0
bits_height o n = full_height n 0 0 0 (length (path o n)) (moves o n) refl (full_moves o n) (omega (arith, arrivals_moves o n, removals_moves o n))

-- ---- balanced bits are full moves and what is left

no_ones : (bits : List Bool) → ones bits ≡ 0 → bits ≡ replicate (length bits) false
no_ones [] e = refl
no_ones (true ∷ bits) e = absurd (omega arith)
no_ones (false ∷ bits) e = ap (λ r. false ∷ r) (no_ones bits e)

record Split (n c k : ℕ) (bits : List Bool) : Type 0 where
  front : List Bool
  left : ℕ
  whole : bits ≡ front ++ replicate left false
  full : Full n c k front

split : (n c k h e : ℕ) (bits : List Bool) → c ≡ k + h → n ≡ c + ones bits → height_after h bits ≡ Some e → Split n c k bits
split n c k h e [] at sum is = record { front = []; left = 0; whole = refl; full = omega arith }
split n c k h e (true ∷ bits) at sum is =
    let s = split n (suc c) k (suc h) e bits (omega arith) (omega arith) is in
    record { front = true ∷ s.front; left = s.left; whole = ap (λ r. true ∷ r) s.whole; full = (omega arith, s.full) }
split n c k zero e (false ∷ bits) at sum is = cc
split n c k (suc h) e (false ∷ bits) at sum is =
    ⊎_elim
    (λ (some : 0 < ones bits).
    let s = split n c (suc k) h e bits (omega arith) sum is in
    record { front = false ∷ s.front; left = s.left; whole = ap (λ r. false ∷ r) s.whole; full = (omega arith, omega arith, s.full) })
    (λ (none : ones bits ≤ 0).
    record { front = []; left = suc (length bits); whole = ap (λ r. false ∷ r) (no_ones bits (omega arith)); full = omega arith })
    (cases_lt 0 (ones bits))

pub counts_append : (a b : List Bool) → (ones (a ++ b) ≡ ones a + ones b) × (zeros (a ++ b) ≡ zeros a + zeros b)
counts_append [] b = (omega arith, omega arith)
counts_append (true ∷ a) b = let r = counts_append a b in (omega arith, omega arith)
counts_append (false ∷ a) b = let r = counts_append a b in (omega arith, omega arith)

counts_moves : (ms : List Bool) → (ones ms ≡ arrivals ms) × (zeros ms ≡ removals ms)
counts_moves [] = (refl, refl)
counts_moves (true ∷ ms) = let r = counts_moves ms in (omega arith, omega arith)
counts_moves (false ∷ ms) = let r = counts_moves ms in (omega arith, omega arith)

counts_zeros : (z : ℕ) → (ones (replicate z false) ≡ 0) × (zeros (replicate z false) ≡ z)
counts_zeros zero = (refl, refl)
counts_zeros (suc z) = let r = counts_zeros z in (omega arith, omega arith)

depths_zeros : (h z : ℕ) (ms : List Bool) → depths h (ms ++ replicate z false) ≡ depths h ms
depths_zeros h zero [] = refl
depths_zeros zero (suc z) [] = depths_zeros zero z []
depths_zeros (suc h) (suc z) [] = depths_zeros h z []
depths_zeros h z (true ∷ ms) = ap (λ r. suc h ∷ r) (depths_zeros (suc h) z ms)
depths_zeros zero z (false ∷ ms) = depths_zeros zero z ms
depths_zeros (suc h) z (false ∷ ms) = depths_zeros h z ms

-- for a caller: the order that depths give has just these bits
pub replayed_bits : (n : ℕ) (bits : List Bool) → n ≤ 32768 → Balanced n bits → bits_of (by_key (replay_key (λ p. get_or (depths 0 bits) p 0))) n ≡ bits
replayed_bits n bits few b =
    let s = split n 0 0 0 0 bits refl (omega (arith, b.all_ones)) (height_from_balanced n bits b) in
    let key : List ℕ → ℕ → ℕ = λ ds. replay_key (λ p. get_or ds p 0) in
    let same : depths 0 bits ≡ depths 0 s.front = ap (depths 0) s.whole ∙ depths_zeros 0 s.left s.front in
    let o : ℕ → ℕ → Bool = by_key (key (depths 0 s.front)) in
    let made : moves o n ≡ s.front = moves_replayed n s.front few s.full in
    let fa = counts_append s.front (replicate s.left false) in
    let fz = counts_zeros s.left in
    let fm = counts_moves s.front in
    let rest : length (path o n) ≡ s.left =
    omega (arith, removals_moves o n, ap removals made, fm.1, fa.1, fz.1, ap zeros s.whole, b.all_zeros) in
    ap (λ ds. bits_of (by_key (key ds)) n) same ∙ ap (λ ms. ms ++ replicate (length (path o n)) false) made ∙ ap (λ z. s.front ++ replicate z false) rest ∙ sym s.whole
