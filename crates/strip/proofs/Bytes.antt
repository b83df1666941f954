-- Bytes and their bits, both ways.
-- Assumes nothing.
use Rattle.std.proofs.Common.{◌≡◌, ℕ, zero, suc, ◌+◌, ◌-◌, ◌*◌, ◌/◌, ◌%◌, ◌<◌, ◌≤◌, Bool, true, false, eqb, List, [], ◌∷◌, ◌++◌, length, get_or, drop, replicate, sym, refl, ap, ◌∙◌, subst, arith}
use lib.ListN.{length-replicate}
use Rattle.std.proofs.lemmas.List.{length-append, drop_at}
use Rattle.std.proofs.lemmas.Bool.{eqb-true}
use Rattle.shape.specs.Table.{every}
use Rattle.shape.proofs.Table.{every_at}
use Rattle.firing_log.specs.Strip.{value_of, packed}
use Rattle.firing_log.proofs.Packs.{value_past, packed_same, packed_zeros, length_packed, packed_byte}
use Rattle.strip.specs.Bits.{bit_at, bits_from}

-- ---- one byte

zeros_for : ℕ → List ℕ
zeros_for n = replicate n 0

byte_test : every (λ b _. eqb (value_of 8 (bits_from 8 0 (b ∷ []))) b) 0 (zeros_for 256) ≡ true
unfolding zeros_for
byte_test = refl

pub byte_right : (b : ℕ) → b < 256 → value_of 8 (bits_from 8 0 (b ∷ [])) ≡ b
unfolding zeros_for
byte_right b h =
    let at = every_at (λ k _. eqb (value_of 8 (bits_from 8 0 (k ∷ []))) k) (zeros_for 256) 0 b 0 byte_test (omega arith) in
    let e : 0 + b ≡ b = omega arith in
    eqb-true (value_of 8 (bits_from 8 0 (b ∷ []))) b (rw e at at)

-- ---- many

pub length_bits_from : (n k : ℕ) (bytes : List ℕ) → length (bits_from n k bytes) ≡ n
length_bits_from zero k bytes = refl
length_bits_from (suc n) k bytes = ap suc (length_bits_from n (suc k) bytes)

pub bits_from_append : (a b k : ℕ) (bytes : List ℕ) → bits_from (a + b) k bytes ≡ bits_from a k bytes ++ bits_from b (k + a) bytes
bits_from_append zero b k bytes = let e : 0 + b ≡ b = omega arith in let f : k + 0 ≡ k = omega arith in rw (e, f)
bits_from_append (suc a) b k bytes =
    let e : suc a + b ≡ suc (a + b) = omega arith in
    let f : k + suc a ≡ suc k + a = omega arith in
    rw (e, f) (ap (λ r. bit_at bytes k ∷ r) (bits_from_append a b (suc k) bytes))

bit_behind : (b : ℕ) (bytes : List ℕ) (k : ℕ) → bit_at (b ∷ bytes) (8 + k) ≡ bit_at bytes k
bit_behind b bytes k =
    let e : (8 + k) / 8 ≡ suc (k / 8) = omega arith in
    let f : (8 + k) % 8 ≡ k % 8 = omega arith in
    rw (e, f)

pub bits_behind : (n : ℕ) (b : ℕ) (bytes : List ℕ) (k : ℕ) → bits_from n (8 + k) (b ∷ bytes) ≡ bits_from n k bytes
bits_behind zero b bytes k = refl
bits_behind (suc n) b bytes k =
    let e : suc (8 + k) ≡ 8 + suc k = omega arith in
    ap (λ x. x ∷ bits_from n (suc (8 + k)) (b ∷ bytes)) (bit_behind b bytes k) ∙ ap (λ j. bit_at bytes k ∷ bits_from n j (b ∷ bytes)) e ∙ ap (λ r. bit_at bytes k ∷ r) (bits_behind n b bytes (suc k))

-- each is a byte
abbrev pub Bytes : List ℕ → Type 0
Bytes bytes = (i : ℕ) → get_or bytes i 0 < 256

pub packed_back : (bytes : List ℕ) → Bytes bytes → packed (length bytes) (bits_from (8 * length bytes) 0 bytes) ≡ bytes
packed_back [] small = refl
packed_back (b ∷ bytes) small =
    let n : ℕ = length bytes in
    let front : List Bool = bits_from 8 0 (b ∷ bytes) in
    let e : 8 * suc n ≡ 8 + 8 * n = omega arith in
    let whole : bits_from (8 * suc n) 0 (b ∷ bytes) ≡ front ++ bits_from (8 * n) 0 bytes =
    ap (λ m. bits_from m 0 (b ∷ bytes)) e ∙ bits_from_append 8 (8 * n) 0 (b ∷ bytes) ∙ ap (λ r. front ++ r) (bits_behind (8 * n) b bytes 0) in
    let eight : length front ≡ 8 = length_bits_from 8 0 (b ∷ bytes) in
    let value : value_of 8 (front ++ bits_from (8 * n) 0 bytes) ≡ b = value_past 8 front (bits_from (8 * n) 0 bytes) (omega arith) ∙ byte_right b (small 0) in
    ap (packed (suc n)) whole
    ∙ ap (λ v. v ∷ packed n (drop 8 (front ++ bits_from (8 * n) 0 bytes))) value
    ∙ ap (λ r. b ∷ packed n r) (drop_at front (bits_from (8 * n) 0 bytes) 8 eight)
    ∙ ap (λ r. b ∷ r) (packed_back bytes (λ i. small (suc i)))

-- the bits of packed bits, and then zeros
pub unpacked : (k : ℕ) (bits : List Bool) → length bits ≤ 8 * k → bits_from (8 * k) 0 (packed k bits) ≡ bits ++ replicate (8 * k - length bits) false
unpacked k bits fits =
    let n = length_packed k bits in
    let back : packed k (bits_from (8 * k) 0 (packed k bits)) ≡ packed k bits =
    subst (λ (m : ℕ). packed m (bits_from (8 * m) 0 (packed k bits)) ≡ packed k bits) n (packed_back (packed k bits) (λ i. packed_byte k i bits)) in
    packed_same k (bits_from (8 * k) 0 (packed k bits)) (bits ++ replicate (8 * k - length bits) false)
    (omega (arith, length_bits_from (8 * k) 0 (packed k bits), length-append bits (replicate (8 * k - length bits) false), length-replicate (8 * k - length bits) false))
    (omega (arith, length_bits_from (8 * k) 0 (packed k bits)))
    (back ∙ sym (packed_zeros k bits (8 * k - length bits)))
