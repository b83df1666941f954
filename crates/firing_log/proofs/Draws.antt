-- The strip being drawn: the path on its stack, and the bit of each arrival.
-- Assumes nothing.
use Rattle.std.proofs.Common.{◌≡◌, ℕ, suc, ◌+◌, ◌-◌, ◌*◌, ◌/◌, ◌%◌, ◌^◌, ◌<◌, ◌≤◌, Bool, true, false, List, [], ◌∷◌, ◌++◌, length, reverse, get_or, take, drop, set, replicate, sym, refl, ap, ◌∙◌, subst, ⊎_elim, append_assoc, arith}
use Rattle.std.proofs.lemmas.List.{length-append, length-replicate, length-reverse, reverse-append, length_push, drop-drop, take_more}
use Rattle.std.proofs.Math.Seq.{take-length}
use Rattle.std.proofs.lemmas.Bool.{cases_Bool}
use Rattle.paths.specs.Path.{left, arrival, path, moves}
use Rattle.paths.specs.Stack.{Below}
use Rattle.paths.proofs.Moves.{Agree, same_moves, arrivals, removals, arrivals_moves, removals_moves, path_below}
use Rattle.firing_log.specs.Strip.{bits_of, packed, bit_bytes, strip, strip_length}
use Rattle.firing_log.proofs.Packs.{packed_push, packed_zeros, packed_none, packed_fits}

-- ---- one arrival: its removals, and then its one

left_shorter : (o : ℕ → ℕ → Bool) (c : ℕ) (st : List ℕ) → length (left o c st) ≤ length st
left_shorter o c [] = omega arith
left_shorter o c (t ∷ st) =
    ⊎_elim (λ (d : o c t ≡ true). rw d (omega (arith, left_shorter o c st))) (λ (d : o c t ≡ false). rw d (omega arith)) (cases_Bool (o c t))

pub arrival_is : (o : ℕ → ℕ → Bool) (c : ℕ) (st : List ℕ) → arrival o c st ≡ replicate (length st - length (left o c st)) false ++ (true ∷ [])
arrival_is o c [] = refl
arrival_is o c (t ∷ st) =
    ⊎_elim
    (λ (d : o c t ≡ true).
    let e : suc (length st) - length (left o c st) ≡ suc (length st - length (left o c st)) = omega (arith, left_shorter o c st) in
    rw (d, e) (ap (λ ms. false ∷ ms) (arrival_is o c st)))
    (λ (d : o c t ≡ false). let e : suc (length st) - suc (length st) ≡ 0 = omega arith in rw (d, e))
    (cases_Bool (o c t))

length_parts : (ms : List Bool) → length ms ≡ arrivals ms + removals ms
length_parts [] = refl
length_parts (true ∷ ms) = omega (arith, length_parts ms)
length_parts (false ∷ ms) = omega (arith, length_parts ms)

pub length_moves : (o : ℕ → ℕ → Bool) (n : ℕ) → length (moves o n) + length (path o n) ≡ 2 * n
length_moves o n = omega (arith, length_parts (moves o n), arrivals_moves o n, removals_moves o n)

-- ---- the path, trimmed

-- the last place of a path stands first where it is turned round
top_first : (xs : List ℕ) (height : ℕ) → 0 < height → height ≤ length xs → reverse (take height xs) ≡ get_or xs (height - 1) 0 ∷ reverse (take (height - 1) xs)
top_first xs height some le =
    let e : height ≡ height - 1 + 1 = omega arith in
    ap (λ n. reverse (take n xs)) e ∙ ap reverse (take_more xs (height - 1) 0 (omega arith)) ∙ reverse-append (take (height - 1) xs) (get_or xs (height - 1) 0 ∷ [])

-- removals of the place c are being made from the path `before`, of which st is left
pub record Trimming (o : ℕ → ℕ → Bool) (c : ℕ) (before st : List ℕ) : Type 0 where
  pub below : Below c st
  pub same : left o c st ≡ left o c before

-- of a path xs the first `height` places are left
pub record Lowered (o : ℕ → ℕ → Bool) (c : ℕ) (xs : List ℕ) (height : ℕ) : Type 0 where
  pub lower : height ≤ length xs
  pub trimming : Trimming o c (reverse xs) (reverse (take height xs))

pub lowered_none : (o : ℕ → ℕ → Bool) (c : ℕ) (xs : List ℕ) → Below c (reverse xs) → Lowered o c xs (length xs)
lowered_none o c xs below = record { lower = omega arith; trimming = rw (take-length xs) (record { below = below; same = refl }) }

module _ {o : ℕ → ℕ → Bool} {c : ℕ} {xs : List ℕ} {height : ℕ} (s : Lowered o c xs height) where
  pub lowered_all : height ≡ 0 → reverse (take height xs) ≡ left o c (reverse xs)
  lowered_all e = let stays : left o c (reverse (take height xs)) ≡ reverse (take height xs) = rw e in sym stays ∙ s.trimming.same

  module _ (some : 0 < height) where
    top : reverse (take height xs) ≡ get_or xs (height - 1) 0 ∷ reverse (take (height - 1) xs)
    top = top_first xs height some s.lower

    parts : Below c (get_or xs (height - 1) 0 ∷ reverse (take (height - 1) xs))
    parts = subst (Below c) top s.trimming.below

    pub top_below : get_or xs (height - 1) 0 < c
    top_below = parts.0

    pub lowered_more : o c (get_or xs (height - 1) 0) ≡ true → Lowered o c xs (height - 1)
    lowered_more removed =
        record { lower = omega (arith, s.lower); trimming = record { below = parts.1; same = sym (ap (left o c) top ∙ rw removed) ∙ s.trimming.same } }

    pub lowered_kept : o c (get_or xs (height - 1) 0) ≡ false → reverse (take height xs) ≡ left o c (reverse xs)
    lowered_kept kept = sym (ap (left o c) top ∙ rw kept (sym top)) ∙ s.trimming.same

-- ---- the bits drawn, in k bytes

pub record Drawn (o : ℕ → ℕ → Bool) (k c : ℕ) (stack bytes : List ℕ) : Type 0 where
  pub lower : length stack ≤ c
  pub path_is : reverse stack ≡ path o c
  pub drawn : bytes ≡ packed k (moves o c)

pub drawn_none : (o : ℕ → ℕ → Bool) (k : ℕ) (bytes : List ℕ) → bytes ≡ replicate k 0 → Drawn o k 0 [] bytes
unfolding path moves
drawn_none o k bytes clear = record { lower = omega arith; path_is = refl; drawn = clear ∙ sym (packed_none k) }

module _ {o : ℕ → ℕ → Bool} {k c : ℕ} {stack bytes : List ℕ} (d : Drawn o k c stack bytes) where
  pub drawn_below : Below c (reverse stack)
  drawn_below = subst (λ (st : List ℕ). Below c st) (sym d.path_is) (path_below o c)

  height_is : length stack ≡ length (path o c)
  height_is = sym (length-reverse stack) ∙ ap length d.path_is

  module _ (kept : List ℕ) (trimmed : reverse kept ≡ left o c (reverse stack)) (room : 2 * c < 8 * k) where
    kept_is : length kept ≡ length (left o c (path o c))
    kept_is = sym (length-reverse kept) ∙ ap length (trimmed ∙ ap (left o c) d.path_is)

    pub fewer : length kept ≤ length stack
    fewer = omega (arith, kept_is, height_is, left_shorter o c (path o c))

    -- the bits before the one that c brings
    before : List Bool
    before = moves o c ++ replicate (length stack - length kept) false

    length_before : length before ≡ 2 * c - length kept
    unfolding before
    length_before = omega (arith, length-append (moves o c) (replicate (length stack - length kept) false), length-replicate (length stack - length kept) false, length_moves o c, height_is, fewer)

    same_bytes : packed k before ≡ packed k (moves o c)
    unfolding before
    same_bytes = packed_zeros k (moves o c) (length stack - length kept)

    moves_more : moves o (suc c) ≡ before ++ (true ∷ [])
    unfolding before moves
    moves_more =
        ap (λ a. moves o c ++ a) (arrival_is o c (path o c))
        ∙ ap (λ n. moves o c ++ (replicate n false ++ (true ∷ []))) (let e : length (path o c) - length (left o c (path o c)) ≡ length stack - length kept = omega (arith, height_is, kept_is) in e)
        ∙ sym (append_assoc (moves o c) (replicate (length stack - length kept) false) (true ∷ []))

    whole : bytes ≡ packed k before
    whole = d.drawn ∙ sym same_bytes

    pub fits_in : get_or bytes ((2 * c - length kept) / 8) 0 + 2 ^ (7 - (2 * c - length kept) % 8) < 256
    fits_in = rw (whole, ← length_before) (packed_fits k before (omega (arith, length_before)))

    pub drawn_more : (pushed after : List ℕ) → pushed ≡ kept ++ (c ∷ [])
        → after ≡ set bytes ((2 * c - length kept) / 8) (get_or bytes ((2 * c - length kept) / 8) 0 + 2 ^ (7 - (2 * c - length kept) % 8)) → Drawn o k (c + 1) pushed after
    unfolding path
    drawn_more pushed after push is =
        let next : c + 1 ≡ suc c = omega arith in
        let drawn : set bytes ((2 * c - length kept) / 8) (get_or bytes ((2 * c - length kept) / 8) 0 + 2 ^ (7 - (2 * c - length kept) % 8)) ≡ packed k (moves o (suc c)) =
        rw (whole, ← length_before) (sym (packed_push k before (omega (arith, length_before))) ∙ ap (packed k) (sym moves_more)) in
        rw next (record {
          lower = omega (arith, ap length push, length_push kept c, fewer, d.lower);
          path_is = ap reverse push ∙ reverse-append kept (c ∷ []) ∙ ap (λ st. c ∷ st) (trimmed ∙ ap (left o c) d.path_is);
          drawn = is ∙ drawn;
        })

-- for a caller: all places are drawn
pub drawn_all : {o : ℕ → ℕ → Bool} {k c : ℕ} {stack bytes : List ℕ} → Drawn o k c stack bytes → bytes ≡ packed k (bits_of o c)
drawn_all {o} {k} {c} d = d.drawn ∙ sym (packed_zeros k (moves o c) (length (path o c)))

-- the count, and behind it the bits
pub strip_put : (o : ℕ → ℕ → Bool) (n k : ℕ) (head out bits : List ℕ) → n ≤ 32768 → k ≡ bit_bytes n → head ≡ (n / 256 % 256) ∷ ((n % 256) ∷ []) → bits ≡ packed (bit_bytes n) (bits_of o n)
    → take 2 (head ++ drop 2 out) ++ (bits ++ drop (2 + k - 2) (drop 2 (head ++ drop 2 out))) ≡ strip o n ++ drop (strip_length n) out
unfolding strip
strip_put o n k head out bits few e h b =
    let high : n / 256 % 256 ≡ n / 256 = omega arith in
    let off : 2 + k - 2 ≡ bit_bytes n = omega (arith, e) in
    rw (h, high, b, off) (ap (λ r. (n / 256) ∷ ((n % 256) ∷ (packed (bit_bytes n) (bits_of o n) ++ r))) (drop-drop (bit_bytes n) 2 out))

-- ---- orders that agree on the log's places

pub same_strip : (o u : ℕ → ℕ → Bool) (n : ℕ) → Agree n o u → strip o n ≡ strip u n
unfolding strip
same_strip o u n agree =
    let same = same_moves o u n agree in
    ap (λ ms. (n / 256) ∷ ((n % 256) ∷ packed (bit_bytes n) (ms ++ replicate (length (path o n)) false))) same.1
    ∙ ap (λ st. (n / 256) ∷ ((n % 256) ∷ packed (bit_bytes n) (moves u n ++ replicate (length st) false))) same.0
