-- Paths as bytes: what a bit more, the lowest bit cleared and the leading zeros say of the path.
-- Assumes nothing.
use Rattle.std.proofs.Common.{◌≡◌, ℕ, suc, ◌+◌, ◌-◌, ◌*◌, ◌/◌, ◌%◌, ◌^◌, ◌<◌, ◌≤◌, true, false, leb, List, [], ◌∷◌, sym, ap, ◌∙◌, ⊎_elim, add-mul, pow-suc, arith, pow_pos, pow_mono, pow-add}
use Rattle.std.proofs.lemmas.Grind.{common_steps}
use lib.Bits.{bit_and, and_self}
use lib.Count.{count_leading_zeros, leading_unique}
use Rattle.std.proofs.lemmas.Nat.{and_mask, and_shr, and_mod, shr_split, shr_high, mod_low}
use Rattle.std.proofs.lemmas.Bool.{cases_Bool, leb-true, leb-false}
use Rattle.paths.specs.Cell.{mask, lowest_from}
use Rattle.paths.specs.Stack.{Below}

-- the places of a path fall from its last on
abbrev pub Falling : List ℕ → Type 0
Falling [] = Unit {0}
Falling (t ∷ st) = Below t st × Falling st

double : (n : ℕ) → 2 ^ suc n ≡ 2 ^ n + 2 ^ n
double n = pow-suc 2 n ∙ (let e : 2 ^ n * 2 ≡ 2 ^ n + 2 ^ n = omega arith in e)

double_place : (t : ℕ) → t < 8 → 2 ^ (8 - t) ≡ 2 ^ (7 - t) + 2 ^ (7 - t)
double_place t h = let e : 8 - t ≡ suc (7 - t) = omega arith in rw e (double (7 - t))

-- places below c leave the bits from c on free
pub mask_room : (c : ℕ) (st : List ℕ) → Falling st → Below c st → c ≤ 8 → mask st + 2 ^ (8 - c) ≤ 256
mask_room c [] falling below h = let p : 2 ^ (8 - c) ≤ 2 ^ 8 = pow_mono (let k : 8 - c ≤ 8 = omega arith in k) in omega (arith, p)
mask_room c (t ∷ st) falling below h =
    grind (arith, common_steps, double_place, pow_mono, mask_room t st falling.1 falling.0 (omega (arith, below.0)))

pub mask_fits : (c : ℕ) (st : List ℕ) → Falling st → Below c st → c < 8 → mask st + 2 ^ (7 - c) < 256
mask_fits c st falling below h =
    omega (arith, mask_room c st falling below (omega arith), double_place c h, pow_pos (7 - c))

-- places below c are a whole number of times the bit above c
pub mask_high : (c : ℕ) (st : List ℕ) → Below c st → c ≤ 8 → (n : ℕ) × (mask st ≡ n * 2 ^ (8 - c))
mask_high c [] below h = (0, let e : 0 ≡ 0 * 2 ^ (8 - c) = omega arith in e)
mask_high c (t ∷ st) below h =
    let rest = mask_high c st below.1 h in
    let e : 7 - t ≡ (c - suc t) + (8 - c) = omega (arith, below.0) in (
      2 ^ (c - suc t) + rest.0,
      (let sum : mask (t ∷ st) ≡ 2 ^ (c - suc t) * 2 ^ (8 - c) + rest.0 * 2 ^ (8 - c) = omega (arith, ap (λ k. 2 ^ k) e, pow-add 2 (c - suc t) (8 - c), rest.1) in
          sum ∙ sym (add-mul (2 ^ (c - suc t)) rest.0 (2 ^ (8 - c)))),
    )

-- ---- the lowest set bit is the path's last place

clear_low : (n a : ℕ) → bit_and (n * 2 ^ suc a + 2 ^ a) (n * 2 ^ suc a + 2 ^ a - 1) ≡ n * 2 ^ suc a
clear_low n a =
    let x : ℕ = n * 2 ^ suc a + 2 ^ a in
    let pos = pow_pos a in
    let two = double a in
    let less : 2 ^ a < 2 ^ suc a = omega (arith, pos, two) in
    let fewer : 2 ^ a - 1 < 2 ^ suc a = omega (arith, pos, two) in
    let y : x - 1 ≡ n * 2 ^ suc a + (2 ^ a - 1) = omega (arith, pos) in
    let high : bit_and x (x - 1) / 2 ^ suc a ≡ n =
    and_shr x (x - 1) (suc a) ∙ ap (λ z. bit_and (x / 2 ^ suc a) (z / 2 ^ suc a)) y ∙ ap (λ z. bit_and z ((n * 2 ^ suc a + (2 ^ a - 1)) / 2 ^ suc a)) (shr_high n (suc a) (2 ^ a) less)
    ∙ ap (bit_and n) (shr_high n (suc a) (2 ^ a - 1) fewer) ∙ and_self n in
    let low : bit_and x (x - 1) % 2 ^ suc a ≡ 0 =
    and_mod x (x - 1) (suc a) ∙ ap (λ z. bit_and (x % 2 ^ suc a) (z % 2 ^ suc a)) y ∙ ap (λ z. bit_and z ((n * 2 ^ suc a + (2 ^ a - 1)) % 2 ^ suc a)) (mod_low n (suc a) (2 ^ a) less)
    ∙ ap (bit_and (2 ^ a)) (mod_low n (suc a) (2 ^ a - 1) fewer) ∙ and_mask (2 ^ a) a
    ∙ ap (λ z. z % 2 ^ a) (let e : 2 ^ a ≡ 1 * 2 ^ a + 0 = omega arith in e) ∙ mod_low 1 a 0 pos in
    omega (arith, shr_split (bit_and x (x - 1)) (suc a), ap (λ z. z * 2 ^ suc a) high, low)

pub mask_clear : (t : ℕ) (st : List ℕ) → Falling (t ∷ st) → t < 8 → bit_and (mask (t ∷ st)) (mask (t ∷ st) - 1) ≡ mask st
mask_clear t st falling h =
    let rest = mask_high t st falling.0 (omega arith) in
    let e : 8 - t ≡ suc (7 - t) = omega arith in
    let same : mask st ≡ rest.0 * 2 ^ suc (7 - t) = rest.1 ∙ ap (λ k. rest.0 * 2 ^ k) e in
    let whole : mask (t ∷ st) ≡ rest.0 * 2 ^ suc (7 - t) + 2 ^ (7 - t) = omega (arith, same) in
    ap (λ z. bit_and z (z - 1)) whole ∙ clear_low rest.0 (7 - t) ∙ sym same

pub mask_some : (t : ℕ) (st : List ℕ) → 0 < mask (t ∷ st)
mask_some t st = omega (arith, pow_pos (7 - t))

-- ---- the highest bit from i on is the lowest place from i on

record Topped (i p low m : ℕ) : Type 0 where
  high : ℕ
  rest : ℕ
  whole : m ≡ high * 2 ^ (8 - i) + rest
  within : low < 8
  from : i ≤ low
  under : low ≤ p
  least : 2 ^ (7 - low) ≤ rest
  most : rest + 2 ^ (7 - p) ≤ 2 ^ (8 - low)

topped : (i p : ℕ) (st : List ℕ) → Falling (p ∷ st) → i ≤ p → p < 8 → Topped i p (lowest_from i p st) (mask (p ∷ st))
topped i p [] falling low high =
    record { high = 0; rest = 2 ^ (7 - p); whole = omega arith; within = high; from = low; under = omega arith; least = omega arith; most = omega (arith, double_place p high) }
topped i p (u ∷ st) falling low high =
    ⊎_elim
    (λ (d : leb i u ≡ true).
    let t : Topped i u (lowest_from i u st) (mask (u ∷ st)) = topped i u st falling.1 (leb-true i u d) (omega (arith, falling.0.0)) in
    let step : 2 ^ (8 - p) ≤ 2 ^ (7 - u) = pow_mono (let k : 8 - p ≤ 7 - u = omega (arith, falling.0.0) in k) in
    rw d (record {
      high = t.high;
      rest = 2 ^ (7 - p) + t.rest;
      whole = omega (arith, t.whole);
      within = t.within;
      from = t.from;
      under = omega (arith, t.under, falling.0.0);
      least = omega (arith, t.least);
      most = omega (arith, t.most, step, double_place p high);
    }))
    (λ (d : leb i u ≡ false).
    let under : Below i (u ∷ st) = (leb-false i u d, lower u i st falling.1.0 (leb-false i u d)) in
    let rest = mask_high i (u ∷ st) under (omega arith) in
    rw d (record {
      high = rest.0;
      rest = 2 ^ (7 - p);
      whole = omega (arith, rest.1);
      within = high;
      from = low;
      under = omega arith;
      least = omega arith;
      most = omega (arith, double_place p high);
    }))
    (cases_Bool (leb i u))
  where
    lower : (m n : ℕ) (xs : List ℕ) → Below m xs → m < n → Below n xs
    lower m n [] b h = tt
    lower m n (x ∷ xs) b h = (omega (arith, b.0), lower m n xs b.1 h)

pub leading_lowest : (i p : ℕ) (st : List ℕ) → Falling (p ∷ st) → i ≤ p → p < 8 → count_leading_zeros 8 (bit_and (mask (p ∷ st)) (2 ^ (8 - i) - 1)) ≡ lowest_from i p st
leading_lowest i p st falling low high =
    let t : Topped i p (lowest_from i p st) (mask (p ∷ st)) = topped i p st falling low high in
    let l : ℕ = lowest_from i p st in
    let fits : t.rest < 2 ^ (8 - l) = omega (arith, t.most, pow_pos (7 - p)) in
    let wide : 2 ^ (8 - l) ≤ 2 ^ (8 - i) = pow_mono (let k : 8 - l ≤ 8 - i = omega (arith, t.from) in k) in
    let part : bit_and (mask (p ∷ st)) (2 ^ (8 - i) - 1) ≡ t.rest =
    and_mask (mask (p ∷ st)) (8 - i) ∙ ap (λ m. m % 2 ^ (8 - i)) t.whole ∙ mod_low t.high (8 - i) t.rest (omega (arith, fits, wide)) in
    ap (count_leading_zeros 8) part
    ∙ sym (leading_unique 8 t.rest l (8 - l) (omega (arith, t.within)) fits (omega (arith, t.least, double_place l t.within)))
