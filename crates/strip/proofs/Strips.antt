-- Bytes that are a strip: what opening accepts, what strip writing writes, and the log that a strip is read back as.
-- Assumes nothing.
use Rattle.std.proofs.Common.{◌≡◌, ℕ, zero, suc, ◌+◌, ◌-◌, ◌*◌, ◌/◌, ◌%◌, ◌<◌, ◌≤◌, Bool, true, false, cond, not, eqb, ltb, List, [], ◌∷◌, ◌++◌, length, get_or, take, drop, replicate, is_ok, Some, None, Ok, Err, Option, Result, sym, refl, ap, ◌∙◌, subst, arith}
use Rattle.std.proofs.lemmas.List.{take_at, drop_at}
use Rattle.std.proofs.lemmas.Bool.{lt-ltb, le-ltb, ltb-false, eq-eqb, eqb-true, not-false}
use Rattle.reading.specs.Coldest.{FirstColdest}
use Rattle.paths.proofs.Paths.{first_from_leads}
use Rattle.shape.proofs.Replays.{by_key, key_orders, replay_key}
use Rattle.firing_log.specs.Strip.{bits_of, packed, bit_bytes, strip}
use Rattle.firing_log.proofs.Alike.{length_bits, length_strip}
use Rattle.firing_log.proofs.Packs.{packed_zeros}
use Rattle.strip.specs.Bits.{bit_at, bits_from, count_of, strip_bits, height_after, IsStrip, depth_of, LastLeast}
use Rattle.strip.specs.Outcomes.{grounded, all_zero, filling, opening_answer, accepted}
use Rattle.strip.specs.declared.fault.StripFault.{StripFault}
use Rattle.strip.proofs.Balances.{balanced_from_height, height_from_balanced, bits_height, replayed_bits}
use Rattle.strip.proofs.Bytes.{Bytes, bits_from_append, bits_behind, length_bits_from, packed_back, unpacked}

-- ---- filling bits

zero_bits : (m k : ℕ) (bytes : List ℕ) → all_zero (bits_from m k bytes) ≡ true → (i : ℕ) → i < m → bit_at bytes (k + i) ≡ false
zero_bits zero k bytes t i h = absurd (omega arith)
zero_bits (suc m) k bytes t i h = go (bit_at bytes k) refl t (zero_bits m (suc k) bytes) i h
  where
    go : (b : Bool) → bit_at bytes k ≡ b → all_zero (b ∷ bits_from m (suc k) bytes) ≡ true
        → (all_zero (bits_from m (suc k) bytes) ≡ true → (i : ℕ) → i < m → bit_at bytes (suc k + i) ≡ false) → (i : ℕ) → i < suc m → bit_at bytes (k + i) ≡ false
    go true is test rest i h = cc
    go false is test rest zero h = let e : k + 0 ≡ k = omega arith in rw e is
    go false is test rest (suc i) h = let e : k + suc i ≡ suc k + i = omega arith in rw e (rest test i (omega arith))

bits_zero : (m k : ℕ) (bytes : List ℕ) → ((i : ℕ) → i < m → bit_at bytes (k + i) ≡ false) → bits_from m k bytes ≡ replicate m false
bits_zero zero k bytes f = refl
bits_zero (suc m) k bytes f =
    let here : bit_at bytes k ≡ false = subst (λ (j : ℕ). bit_at bytes j ≡ false) (let e : k + 0 ≡ k = omega arith in e) (f 0 (omega arith)) in
    ap (λ b. b ∷ bits_from m (suc k) bytes) here
    ∙ ap (λ r. false ∷ r) (bits_zero m (suc k) bytes (λ i h. subst (λ (j : ℕ). bit_at bytes j ≡ false) (let e : k + suc i ≡ suc k + i = omega arith in e) (f (suc i) (omega arith))))

all_zero_zeros : (m : ℕ) → all_zero (replicate m false) ≡ true
all_zero_zeros zero = refl
all_zero_zeros (suc m) = all_zero_zeros m

-- ---- opening accepts strips, and nothing else

ok_from : (test : Bool) (e : StripFault) (rest : Result (Unit {0}) StripFault) → cond test (Err e) rest ≡ Ok tt → (test ≡ false) × (rest ≡ Ok tt)
ok_from true e rest is = cc
ok_from false e rest is = (refl, is)

pub grounded_zero : (o : Option ℕ) → grounded o ≡ true → o ≡ Some 0
grounded_zero None t = cc
grounded_zero (Some h) t = ap Some (eqb-true h 0 t)

pub strip_from_ok : (bytes : List ℕ) → opening_answer bytes ≡ Ok tt → IsStrip bytes
strip_from_ok bytes is =
    let a = ok_from (ltb (length bytes) 2) _ _ is in
    let b = ok_from (ltb 32768 (count_of bytes)) _ _ a.1 in
    let c = ok_from (not (eqb (length bytes) (2 + bit_bytes (count_of bytes)))) _ _ b.1 in
    let d = ok_from (not (grounded (height_after 0 (strip_bits bytes)))) _ _ c.1 in
    let e = ok_from (not (all_zero (filling bytes))) _ _ d.1 in
    let long : length bytes ≡ 2 + bit_bytes (count_of bytes) = eqb-true (length bytes) (2 + bit_bytes (count_of bytes)) (not-false (eqb (length bytes) (2 + bit_bytes (count_of bytes))) c.0) in
    record {
      counted = ltb-false (length bytes) 2 a.0;
      few = ltb-false 32768 (count_of bytes) b.0;
      long = long;
      balanced = balanced_from_height (count_of bytes) (strip_bits bytes) (length_bits_from (2 * count_of bytes) 16 bytes)
          (grounded_zero (height_after 0 (strip_bits bytes)) (not-false (grounded (height_after 0 (strip_bits bytes))) d.0));
      filled = λ k from to.
          (let i : ℕ = k - (16 + 2 * count_of bytes) in
          let at : (16 + 2 * count_of bytes) + i ≡ k = omega arith in
          subst (λ (j : ℕ). bit_at bytes j ≡ false) at
          (zero_bits (8 * length bytes - (16 + 2 * count_of bytes)) (16 + 2 * count_of bytes) bytes (not-false (all_zero (filling bytes)) e.0) i (omega arith)));
    }

pub sound_strip : (bytes : List ℕ) → accepted bytes ≡ true → IsStrip bytes
sound_strip bytes sound = strip_from_ok bytes (go (opening_answer bytes) sound)
  where
    go : (r : Result (Unit {0}) StripFault) → is_ok r ≡ true → r ≡ Ok tt
    go (Ok x) t = refl
    go (Err e) t = cc

pub strip_grounded : {bytes : List ℕ} → IsStrip bytes → grounded (height_after 0 (strip_bits bytes)) ≡ true
strip_grounded {bytes} s = ap grounded (height_from_balanced (count_of bytes) (strip_bits bytes) s.balanced)

filling_zero : (bytes : List ℕ) → IsStrip bytes → filling bytes ≡ replicate (8 * length bytes - (16 + 2 * count_of bytes)) false
filling_zero bytes s = bits_zero (8 * length bytes - (16 + 2 * count_of bytes)) (16 + 2 * count_of bytes) bytes (λ i h. s.filled (16 + 2 * count_of bytes + i) (omega arith) (omega arith))

pub ok_from_strip : (bytes : List ℕ) → IsStrip bytes → opening_answer bytes ≡ Ok tt
ok_from_strip bytes s =
    let zero : all_zero (filling bytes) ≡ true = ap all_zero (filling_zero bytes s) ∙ all_zero_zeros (8 * length bytes - (16 + 2 * count_of bytes)) in
    rw (
      le-ltb (length bytes) 2 s.counted,
      le-ltb 32768 (count_of bytes) s.few,
      eq-eqb (length bytes) (2 + bit_bytes (count_of bytes)) s.long,
      height_from_balanced (count_of bytes) (strip_bits bytes) s.balanced,
      zero,
    )

-- ---- what strip writing writes

module _ (o : ℕ → ℕ → Bool) (n : ℕ) (few : n ≤ 32768) where
  bits : List Bool
  bits = bits_of o n

  k : ℕ
  k = bit_bytes n

  pub strip_count : count_of (strip o n) ≡ n
  unfolding strip
  strip_count = omega arith

  strip_tail : (m j : ℕ) → bits_from m (16 + j) (strip o n) ≡ bits_from m j (packed (bit_bytes n) (bits_of o n))
  unfolding strip
  strip_tail m j =
      let e : 16 + j ≡ 8 + (8 + j) = omega arith in
      ap (λ i. bits_from m i ((n / 256) ∷ ((n % 256) ∷ packed (bit_bytes n) (bits_of o n)))) e
      ∙ bits_behind m (n / 256) ((n % 256) ∷ packed (bit_bytes n) (bits_of o n)) (8 + j)
      ∙ bits_behind m (n % 256) (packed (bit_bytes n) (bits_of o n)) j

  whole : bits_from (2 * n) 0 (packed k bits) ++ bits_from (8 * k - 2 * n) (2 * n) (packed k bits) ≡ bits ++ replicate (8 * k - 2 * n) false
  unfolding bits k
  whole =
      let e : 2 * n + (8 * bit_bytes n - 2 * n) ≡ 8 * bit_bytes n = omega arith in
      let z : 0 + 2 * n ≡ 2 * n = omega arith in
      let p : List ℕ = packed (bit_bytes n) (bits_of o n) in
      ap (λ j. bits_from (2 * n) 0 p ++ bits_from (8 * bit_bytes n - 2 * n) j p) (sym z)
      ∙ sym (bits_from_append (2 * n) (8 * bit_bytes n - 2 * n) 0 p) ∙ ap (λ m. bits_from m 0 p) e ∙ unpacked (bit_bytes n) (bits_of o n) (omega (arith, length_bits o n))
      ∙ ap (λ m. bits_of o n ++ replicate (8 * bit_bytes n - m) false) (length_bits o n)

  pub bits_written : strip_bits (strip o n) ≡ bits_of o n
  unfolding bits k
  bits_written =
      ap (λ m. bits_from (2 * m) 16 (strip o n)) strip_count ∙ strip_tail (2 * n) 0
      ∙ sym (take_at (bits_from (2 * n) 0 (packed k bits)) (bits_from (8 * k - 2 * n) (2 * n) (packed k bits)) (2 * n) (length_bits_from (2 * n) 0 (packed k bits)))
      ∙ ap (take (2 * n)) whole ∙ take_at bits (replicate (8 * k - 2 * n) false) (2 * n) (length_bits o n)

  filling_written : bits_from (8 * k - 2 * n) (2 * n) (packed k bits) ≡ replicate (8 * k - 2 * n) false
  filling_written =
      sym (drop_at (bits_from (2 * n) 0 (packed k bits)) (bits_from (8 * k - 2 * n) (2 * n) (packed k bits)) (2 * n) (length_bits_from (2 * n) 0 (packed k bits)))
      ∙ ap (drop (2 * n)) whole ∙ drop_at bits (replicate (8 * k - 2 * n) false) (2 * n) (unfold bits in length_bits o n)

  pub written_is_strip : IsStrip (strip o n)
  unfolding k bits
  written_is_strip =
      let long = length_strip o n in
      let count = strip_count in
      record {
        counted = omega (arith, long);
        few = omega (arith, count);
        long = long ∙ ap (λ m. 2 + bit_bytes m) (sym count);
        balanced = balanced_from_height (count_of (strip o n)) (strip_bits (strip o n)) (length_bits_from (2 * count_of (strip o n)) 16 (strip o n)) (ap (height_after 0) bits_written ∙ bits_height o n);
        filled = λ j from to.
            (let i : ℕ = j - (16 + 2 * n) in
            let m : ℕ = 8 * bit_bytes n - 2 * n in
            let zeros : bits_from m (16 + 2 * n) (strip o n) ≡ replicate m false = strip_tail m (2 * n) ∙ filling_written in
            let at : (16 + 2 * n) + i ≡ j = omega (arith, count) in
            subst (λ (b : ℕ). bit_at (strip o n) b ≡ false) at (zero_bits m (16 + 2 * n) (strip o n) (ap all_zero zeros ∙ all_zero_zeros m) i (omega (arith, count, long))));
      }

-- ---- a strip read back

module _ (bytes : List ℕ) (small : Bytes bytes) (s : IsStrip bytes) where
  -- the bytes behind the count are the packed bits
  tail_packed : (hi lo : ℕ) (rest : List ℕ) → bytes ≡ hi ∷ (lo ∷ rest) → rest ≡ packed (bit_bytes (count_of bytes)) (strip_bits bytes)
  tail_packed hi lo rest is =
      let n : ℕ = count_of bytes in
      let k : ℕ = bit_bytes n in
      let long : length rest ≡ k = omega (arith, ap length is, s.long) in
      let bytes_rest : Bytes rest = λ i. subst (λ (xs : List ℕ). get_or xs (suc (suc i)) 0 < 256) is (small (suc (suc i))) in
      let behind : (m j : ℕ) → bits_from m (16 + j) bytes ≡ bits_from m j rest =
      λ m j. (let e : 16 + j ≡ 8 + (8 + j) = omega arith in
      ap (λ xs. bits_from m (16 + j) xs) is ∙ ap (λ i. bits_from m i (hi ∷ (lo ∷ rest))) e ∙ bits_behind m hi (lo ∷ rest) (8 + j) ∙ bits_behind m lo rest j) in
      let e : 8 * k ≡ 2 * n + (8 * k - 2 * n) = omega arith in
      let z : 0 + 2 * n ≡ 2 * n = omega arith in
      let fill : bits_from (8 * k - 2 * n) (2 * n) rest ≡ replicate (8 * k - 2 * n) false =
      sym (behind (8 * k - 2 * n) (2 * n)) ∙ bits_zero (8 * k - 2 * n) (16 + 2 * n) bytes (λ i h. s.filled (16 + 2 * n + i) (omega arith) (omega (arith, s.long))) in
      let all : bits_from (8 * k) 0 rest ≡ strip_bits bytes ++ replicate (8 * k - 2 * n) false =
      ap (λ m. bits_from m 0 rest) e ∙ bits_from_append (2 * n) (8 * k - 2 * n) 0 rest
      ∙ ap (λ f. f ++ bits_from (8 * k - 2 * n) (0 + 2 * n) rest) (sym (behind (2 * n) 0)) ∙ ap (λ j. strip_bits bytes ++ bits_from (8 * k - 2 * n) j rest) z ∙ ap (λ r. strip_bits bytes ++ r) fill in
      sym (packed_back rest bytes_rest) ∙ ap (λ m. packed m (bits_from (8 * m) 0 rest)) long ∙ ap (packed k) all ∙ packed_zeros k (strip_bits bytes) (8 * k - 2 * n)

  -- for a caller: an order with these bits has these bytes for its strip
  pub strip_back : (o : ℕ → ℕ → Bool) → bits_of o (count_of bytes) ≡ strip_bits bytes → strip o (count_of bytes) ≡ bytes
  unfolding strip
  strip_back o same = go bytes refl
    where
      go : (xs : List ℕ) → bytes ≡ xs → (count_of bytes / 256) ∷ ((count_of bytes % 256) ∷ packed (bit_bytes (count_of bytes)) (bits_of o (count_of bytes))) ≡ bytes
      go [] is = absurd (omega (arith, s.counted, ap length is))
      go (x ∷ []) is = absurd (omega (arith, s.counted, ap length is))
      go (hi ∷ (lo ∷ rest)) is =
          let low : lo < 256 = subst (λ (ys : List ℕ). get_or ys 1 0 < 256) is (small 1) in
          let count : count_of bytes ≡ 256 * hi + lo = ap count_of is in
          let h : count_of bytes / 256 ≡ hi = omega (arith, count, low) in
          let l : count_of bytes % 256 ≡ lo = omega (arith, count, low) in
          let r : packed (bit_bytes (count_of bytes)) (bits_of o (count_of bytes)) ≡ rest = ap (packed (bit_bytes (count_of bytes))) same ∙ sym (tail_packed hi lo rest is) in
          ap (λ a. a ∷ ((count_of bytes % 256) ∷ packed (bit_bytes (count_of bytes)) (bits_of o (count_of bytes)))) h
          ∙ ap (λ b. hi ∷ (b ∷ packed (bit_bytes (count_of bytes)) (bits_of o (count_of bytes)))) l ∙ ap (λ t. hi ∷ (lo ∷ t)) r ∙ sym is

-- the order of a strip's places, by their depths
abbrev pub depth_order : List ℕ → ℕ → ℕ → Bool
depth_order bytes = by_key (replay_key (depth_of bytes))

pub depth_bits : (bytes : List ℕ) → IsStrip bytes → bits_of (depth_order bytes) (count_of bytes) ≡ strip_bits bytes
depth_bits bytes s = replayed_bits (count_of bytes) (strip_bits bytes) s.few s.balanced

-- ---- the last place of least depth is the first coldest

-- depths of places that have arrived are at least 1
pub least_first : (d : ℕ → ℕ) (n l r p : ℕ) → n ≤ 32768 → r < n → ((q : ℕ) → q < n → 0 < d q) → LastLeast d l r p → FirstColdest (by_key (replay_key d)) l r p
least_first d n l r p few within pos least =
    first_from_leads (key_orders (replay_key d)) l r p (record {
      from = least.from;
      to = least.to;
      before = λ q low high. lt-ltb (replay_key d p) (replay_key d q) (omega (arith, least.least q low (omega (arith, least.to)), pos q (omega (arith, least.to)), least.to));
      after = λ q low high. le-ltb (replay_key d q) (replay_key d p) (omega (arith, least.last q low high));
    })
