-- Bits packed into bytes: one bit more, zeros that change nothing, and the bits back from the bytes.
-- Assumes nothing.
use Rattle.std.proofs.Common.{◌≡◌, ℕ, zero, suc, ◌+◌, ◌-◌, ◌*◌, ◌/◌, ◌%◌, ◌^◌, ◌<◌, ◌≤◌, Bool, true, false, cond, List, [], ◌∷◌, ◌++◌, length, get_or, take, drop, set, replicate, sym, refl, ap, ◌∙◌, subst, ⊎_elim, append_assoc, append-nil, pow-suc, arith, length-drop, pow_pos}
use Rattle.std.proofs.lemmas.List.{length_push, drop-append-le, drop_all, get_or-set_same, nil_from_length, take-append-drop}
use Rattle.std.proofs.lemmas.Bool.{cases_lt}
use Rattle.firing_log.specs.Strip.{value_of, packed}

double : (w : ℕ) → 2 ^ suc w ≡ 2 ^ w + 2 ^ w
double w = pow-suc 2 w ∙ (let e : 2 ^ w * 2 ≡ 2 ^ w + 2 ^ w = omega arith in e)

pub value_bound : (w : ℕ) (bits : List Bool) → value_of w bits < 2 ^ w
value_bound zero bits = omega arith
value_bound (suc w) [] = omega (arith, pow_pos (suc w))
value_bound (suc w) (true ∷ bits) = omega (arith, value_bound w bits, double w)
value_bound (suc w) (false ∷ bits) = omega (arith, value_bound w bits, double w, pow_pos w)

-- ---- one bit more

value_push : (w : ℕ) (bits : List Bool) → length bits < w → value_of w (bits ++ (true ∷ [])) ≡ value_of w bits + 2 ^ (w - 1 - length bits)
value_push zero bits h = absurd (omega arith)
value_push (suc w) [] h =
    let e : suc w - 1 - 0 ≡ w = omega arith in
    rw e (omega (arith, value_none w))
  where
    value_none : (n : ℕ) → value_of n [] ≡ 0
    value_none zero = refl
    value_none (suc n) = refl
value_push (suc w) (b ∷ bits) h =
    let e : suc w - 1 - suc (length bits) ≡ w - 1 - length bits = omega arith in
    rw e (omega (arith, value_push w bits (omega arith)))

value_push_zero : (w : ℕ) (bits : List Bool) → value_of w (bits ++ (false ∷ [])) ≡ value_of w bits
value_push_zero zero bits = refl
value_push_zero (suc w) [] = value_none w
  where
    value_none : (n : ℕ) → 0 + value_of n [] ≡ 0
    value_none zero = refl
    value_none (suc n) = refl
value_push_zero (suc w) (b ∷ bits) = ap (λ v. cond b (2 ^ w) 0 + v) (value_push_zero w bits)

pub value_past : (w : ℕ) (bits more : List Bool) → w ≤ length bits → value_of w (bits ++ more) ≡ value_of w bits
value_past zero bits more h = refl
value_past (suc w) [] more h = absurd (omega arith)
value_past (suc w) (b ∷ bits) more h = ap (λ v. cond b (2 ^ w) 0 + v) (value_past w bits more (omega arith))

pub packed_push_zero : (k : ℕ) (bits : List Bool) → packed k (bits ++ (false ∷ [])) ≡ packed k bits
packed_push_zero zero bits = refl
packed_push_zero (suc k) bits =
    ⊎_elim
    (λ (h : length bits < 8).
    let none : drop 8 (bits ++ (false ∷ [])) ≡ [] = drop_all 8 (bits ++ (false ∷ [])) (omega (arith, length_push bits false)) in
    let empty : drop 8 bits ≡ [] = drop_all 8 bits (omega arith) in
    ap (λ v. v ∷ packed k (drop 8 (bits ++ (false ∷ [])))) (value_push_zero 8 bits) ∙ ap (λ r. value_of 8 bits ∷ packed k r) (none ∙ sym empty))
    (λ (h : 8 ≤ length bits).
    ap (λ v. v ∷ packed k (drop 8 (bits ++ (false ∷ [])))) (value_push_zero 8 bits)
    ∙ ap (λ r. value_of 8 bits ∷ packed k r) (drop-append-le 8 bits (false ∷ []) h)
    ∙ ap (λ r. value_of 8 bits ∷ r) (packed_push_zero k (drop 8 bits)))
    (cases_lt (length bits) 8)

pub packed_zeros : (k : ℕ) (bits : List Bool) (n : ℕ) → packed k (bits ++ replicate n false) ≡ packed k bits
packed_zeros k bits zero = ap (packed k) (append-nil bits)
packed_zeros k bits (suc n) =
    ap (packed k) (sym (append_assoc bits (false ∷ []) (replicate n false)))
    ∙ packed_zeros k (bits ++ (false ∷ [])) n
    ∙ packed_push_zero k bits

pub packed_none : (k : ℕ) → packed k [] ≡ replicate k 0
packed_none zero = refl
packed_none (suc k) = ap (λ r. 0 ∷ r) (packed_none k)

pub length_packed : (k : ℕ) (bits : List Bool) → length (packed k bits) ≡ k
length_packed zero bits = refl
length_packed (suc k) bits = ap suc (length_packed k (drop 8 bits))

pub packed_push : (k : ℕ) (bits : List Bool) → length bits < 8 * k
    → packed k (bits ++ (true ∷ [])) ≡ set (packed k bits) (length bits / 8) (get_or (packed k bits) (length bits / 8) 0 + 2 ^ (7 - length bits % 8))
packed_push zero bits h = absurd (omega arith)
packed_push (suc k) bits h =
    ⊎_elim
    (λ (l : length bits < 8).
    let none : drop 8 (bits ++ (true ∷ [])) ≡ [] = drop_all 8 (bits ++ (true ∷ [])) (omega (arith, length_push bits true)) in
    let empty : drop 8 bits ≡ [] = drop_all 8 bits (omega arith) in
    let at : length bits / 8 ≡ 0 = omega arith in
    let place : 7 - length bits % 8 ≡ 8 - 1 - length bits = omega arith in
    rw (at, place) (ap (λ v. v ∷ packed k (drop 8 (bits ++ (true ∷ [])))) (value_push 8 bits l)
    ∙ ap (λ r. (value_of 8 bits + 2 ^ (8 - 1 - length bits)) ∷ packed k r) (none ∙ sym empty)))
    (λ (l : 8 ≤ length bits).
    let shorter : length (drop 8 bits) ≡ length bits - 8 = length-drop 8 bits in
    let at : length bits / 8 ≡ suc (length (drop 8 bits) / 8) = omega (arith, shorter) in
    let place : length bits % 8 ≡ length (drop 8 bits) % 8 = omega (arith, shorter) in
    rw (at, place) (ap (λ v. v ∷ packed k (drop 8 (bits ++ (true ∷ [])))) (value_past 8 bits (true ∷ []) l)
    ∙ ap (λ r. value_of 8 bits ∷ packed k r) (drop-append-le 8 bits (true ∷ []) l)
    ∙ ap (λ r. value_of 8 bits ∷ r) (packed_push k (drop 8 bits) (omega (arith, shorter)))))
    (cases_lt (length bits) 8)

pub packed_byte : (k i : ℕ) (bits : List Bool) → get_or (packed k bits) i 0 < 256
packed_byte zero i bits = omega arith
packed_byte (suc k) zero bits = value_bound 8 bits
packed_byte (suc k) (suc i) bits = packed_byte k i (drop 8 bits)

pub packed_fits : (k : ℕ) (bits : List Bool) → length bits < 8 * k → get_or (packed k bits) (length bits / 8) 0 + 2 ^ (7 - length bits % 8) < 256
packed_fits k bits h =
    let i : ℕ = length bits / 8 in
    let v : ℕ = get_or (packed k bits) i 0 + 2 ^ (7 - length bits % 8) in
    let is : get_or (packed k (bits ++ (true ∷ []))) i 0 ≡ v =
    ap (λ xs. get_or xs i 0) (packed_push k bits h) ∙ get_or-set_same (packed k bits) i v 0 (omega (arith, length_packed k bits)) in
    subst (λ (n : ℕ). n < 256) is (packed_byte k i (bits ++ (true ∷ [])))

-- ---- the bits back

bit_below : (w : ℕ) (xs ys : List Bool) → value_of (suc w) (true ∷ xs) ≡ value_of (suc w) (false ∷ ys) → ⊥
bit_below w xs ys e = omega (arith, e, value_bound w ys)

value_same : (w : ℕ) (xs ys : List Bool) → length xs ≡ length ys → value_of w xs ≡ value_of w ys → take w xs ≡ take w ys
value_same zero xs ys e v = refl
value_same (suc w) [] [] e v = refl
value_same (suc w) [] (y ∷ ys) e v = absurd (omega arith)
value_same (suc w) (x ∷ xs) [] e v = absurd (omega arith)
value_same (suc w) (true ∷ xs) (true ∷ ys) e v = ap (λ r. true ∷ r) (value_same w xs ys (omega arith) (omega arith))
value_same (suc w) (false ∷ xs) (false ∷ ys) e v = ap (λ r. false ∷ r) (value_same w xs ys (omega arith) (omega arith))
value_same (suc w) (true ∷ xs) (false ∷ ys) e v = absurd (bit_below w xs ys v)
value_same (suc w) (false ∷ xs) (true ∷ ys) e v = absurd (bit_below w ys xs (sym v))

-- for a caller: equally many bits are told apart by their bytes
pub packed_same : (k : ℕ) (xs ys : List Bool) → length xs ≡ length ys → length xs ≤ 8 * k → packed k xs ≡ packed k ys → xs ≡ ys
packed_same zero xs ys e fits same = nil_from_length xs (omega arith) ∙ sym (nil_from_length ys (omega arith))
packed_same (suc k) xs ys e fits same =
    let byte : value_of 8 xs ≡ value_of 8 ys = cc in
    let bytes : packed k (drop 8 xs) ≡ packed k (drop 8 ys) = cc in
    let front : take 8 xs ≡ take 8 ys = value_same 8 xs ys e byte in
    let rest : drop 8 xs ≡ drop 8 ys =
    packed_same k (drop 8 xs) (drop 8 ys) (omega (arith, length-drop 8 xs, length-drop 8 ys)) (omega (arith, length-drop 8 xs)) bytes in
    sym (take-append-drop 8 xs) ∙ ap (λ f. f ++ drop 8 xs) front ∙ ap (λ r. take 8 ys ++ r) rest ∙ take-append-drop 8 ys
