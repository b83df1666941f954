-- A byte of a strip as a whole: what its bits lead to.
-- Assumes nothing.
use Rattle.std.proofs.Common.{◌≡◌, ℕ, zero, suc, ◌+◌, ◌-◌, ◌*◌, ◌/◌, ◌%◌, ◌<◌, ◌≤◌, Bool, true, false, ◌&&◌, ◌||◌, eqb, ltb, leb, List, [], ◌∷◌, ◌++◌, length, get_or, drop, replicate, Some, None, sym, refl, ap, ◌∙◌, subst, ⊎_elim, arith}
use lib.Count as count
use Rattle.std.proofs.lemmas.List.{get_or_append_left, get_or-drop, drop-drop, drop_at}
use Rattle.std.proofs.lemmas.Bool.{cases_lt, and_parts, or_cases, eqb-true, leb-true, ltb-true}
use Rattle.paths.specs.Path.{depths}
use Rattle.shape.specs.Table.{every}
use Rattle.shape.proofs.Table.{every_at}
use Rattle.strip.specs.Bits.{bit_at, bits_from, count_of, strip_bits, height_after, ones, zeros, depth_of, LastLeast}
use Rattle.strip.specs.Cursors.{Spot, ones_at, Best}
use Rattle.strip.specs.Octet.{byte_bits, byte_depth, dip, right_dips, right_low, right_lows}
use Rattle.strip.specs.Outcomes.{rest_bits}
use Rattle.strip.specs.declared.octet.Low.{Low}
use Rattle.strip.proofs.Balances.{some_same, height_counts, length_counts, counts_append}
use Rattle.strip.proofs.Bytes.{bits_from_append}

-- ---- the ones of a byte

ones_test : every {X = ℕ} (λ b _. eqb (count.ones b) (ones (byte_bits b))) 0 (replicate 256 0) ≡ true
unfolding count.ones count.ones_in
ones_test = refl

pub ones_counted : (b : ℕ) → b < 256 → count.ones b ≡ ones (byte_bits b)
ones_counted b h =
    let at = every_at {X = ℕ} (λ k _. eqb (count.ones k) (ones (byte_bits k))) (replicate 256 0) 0 b 0 ones_test (omega arith) in
    let e : 0 + b ≡ b = omega arith in
    eqb-true (count.ones b) (ones (byte_bits b)) (rw e at at)

-- ---- the bits of a byte among the others

pub length_byte : (b : ℕ) → length (byte_bits b) ≡ 8
length_byte b = refl

byte_part : (n j at : ℕ) (bytes : List ℕ) → at % 8 ≡ 0 → j + n ≤ 8 → bits_from n (at + j) bytes ≡ bits_from n j (get_or bytes (at / 8) 0 ∷ [])
byte_part zero j at bytes whole fits = refl
byte_part (suc n) j at bytes whole fits =
    let q : (at + j) / 8 ≡ at / 8 = omega arith in
    let r : (at + j) % 8 ≡ j = omega arith in
    let z : j / 8 ≡ 0 = omega arith in
    let m : j % 8 ≡ j = omega arith in
    let next : suc (at + j) ≡ at + suc j = omega arith in
    let here : bit_at bytes (at + j) ≡ bit_at (get_or bytes (at / 8) 0 ∷ []) j = rw (q, r, z, m) in
    ap (λ b. b ∷ bits_from n (suc (at + j)) bytes) here
    ∙ ap (λ k. bit_at (get_or bytes (at / 8) 0 ∷ []) j ∷ bits_from n k bytes) next
    ∙ ap (λ rest. bit_at (get_or bytes (at / 8) 0 ∷ []) j ∷ rest) (byte_part n (suc j) at bytes whole (omega arith))

byte_whole : (at : ℕ) (bytes : List ℕ) → at % 8 ≡ 0 → bits_from 8 at bytes ≡ byte_bits (get_or bytes (at / 8) 0)
byte_whole at bytes whole =
    let e : at ≡ at + 0 = omega arith in
    ap (λ k. bits_from 8 k bytes) e ∙ byte_part 8 0 at bytes whole (omega arith)

bits_byte : (e at : ℕ) (bytes : List ℕ) → at % 8 ≡ 0 → at + 8 ≤ e → bits_from (e - at) at bytes ≡ byte_bits (get_or bytes (at / 8) 0) ++ bits_from (e - (at + 8)) (at + 8) bytes
bits_byte e at bytes whole fits =
    let n : e - at ≡ 8 + (e - (at + 8)) = omega arith in
    ap (λ m. bits_from m at bytes) n ∙ bits_from_append 8 (e - (at + 8)) at bytes ∙ ap (λ front. front ++ bits_from (e - (at + 8)) (at + 8) bytes) (byte_whole at bytes whole)

pub bits_octet : (e k at next : ℕ) (bytes : List ℕ) → at ≡ 8 * k → next ≡ at + 8 → next ≤ e → bits_from (e - at) at bytes ≡ byte_bits (get_or bytes k 0) ++ bits_from (e - next) next bytes
bits_octet e k at next bytes from is fits =
    let here : at / 8 ≡ k = omega arith in
    bits_byte e at bytes (omega arith) (omega arith) ∙ ap (λ i. byte_bits (get_or bytes i 0) ++ bits_from (e - (at + 8)) (at + 8) bytes) here
    ∙ ap (λ j. byte_bits (get_or bytes k 0) ++ bits_from (e - j) j bytes) (sym is)

-- a byte that reaches past bit e has all ones before bit e
ones_byte : (e at : ℕ) (bytes : List ℕ) → at % 8 ≡ 0 → at ≤ e → e < at + 8 → ones (bits_from (e - at) at bytes) ≤ ones (byte_bits (get_or bytes (at / 8) 0))
ones_byte e at bytes whole from past =
    let n : 8 ≡ (e - at) + (at + 8 - e) = omega arith in
    let split : byte_bits (get_or bytes (at / 8) 0) ≡ bits_from (e - at) at bytes ++ bits_from (at + 8 - e) (at + (e - at)) bytes =
    sym (byte_whole at bytes whole) ∙ ap (λ m. bits_from m at bytes) n ∙ bits_from_append (e - at) (at + 8 - e) at bytes in
    omega (arith, ap ones split, (counts_append (bits_from (e - at) at bytes) (bits_from (at + 8 - e) (at + (e - at)) bytes)).0)

-- ---- heights, first over some bits and then over the others

pub height_past : (h k : ℕ) (a b : List Bool) → height_after h a ≡ Some k → height_after h (a ++ b) ≡ height_after k b
height_past h k [] b is = ap (λ j. height_after j b) (some_same is)
height_past h k (true ∷ a) b is = height_past (suc h) k a b is
height_past zero k (false ∷ a) b is = cc
height_past (suc h) k (false ∷ a) b is = height_past h k a b is

pub height_lost : (h : ℕ) (a b : List Bool) → height_after h a ≡ None → height_after h (a ++ b) ≡ None
height_lost h [] b is = cc
height_lost h (true ∷ a) b is = height_lost (suc h) a b is
height_lost zero (false ∷ a) b is = refl
height_lost (suc h) (false ∷ a) b is = height_lost h a b is

pub dip_lost : (h : ℕ) (bits : List Bool) → h < dip bits → height_after h bits ≡ None
dip_lost h [] below = absurd (omega arith)
dip_lost h (true ∷ bits) below = dip_lost (suc h) bits (omega arith)
dip_lost zero (false ∷ bits) below = refl
dip_lost (suc h) (false ∷ bits) below = dip_lost h bits (omega arith)

dip_kept : (h : ℕ) (bits : List Bool) → dip bits ≤ h → height_after h bits ≡ Some (h + ones bits - zeros bits)
dip_kept h [] enough = ap Some (let same : h ≡ h + 0 - 0 = omega arith in same)
dip_kept h (true ∷ bits) enough = dip_kept (suc h) bits (omega arith) ∙ ap Some (let same : suc h + ones bits - zeros bits ≡ h + suc (ones bits) - zeros bits = omega arith in same)
dip_kept zero (false ∷ bits) enough = absurd (omega arith)
dip_kept (suc h) (false ∷ bits) enough = dip_kept h bits (omega arith) ∙ ap Some (let same : h + ones bits - zeros bits ≡ suc h + ones bits - suc (zeros bits) = omega arith in same)

dip_most : (bits : List Bool) → dip bits ≤ length bits
dip_most [] = omega arith
dip_most (true ∷ bits) = omega (arith, dip_most bits)
dip_most (false ∷ bits) = omega (arith, dip_most bits)

-- bits that lead on do not fall too deep
dip_enough : (h e : ℕ) (a b : List Bool) → height_after h (a ++ b) ≡ Some e → dip a ≤ h
dip_enough h e a b is = ⊎_elim (λ (below : h < dip a). let lost = height_lost h a b (dip_lost h a below) in cc) (λ (enough : dip a ≤ h). enough) (cases_lt h (dip a))

-- ---- heights over a byte

pub record Kept (h b : ℕ) : Type 0 where
  pub enough : 8 ≤ h + 2 * ones (byte_bits b)
  pub lead : height_after h (byte_bits b) ≡ Some (h + 2 * ones (byte_bits b) - 8)

pub byte_kept : (h b : ℕ) → dip (byte_bits b) ≤ h → Kept h b
byte_kept h b enough =
    let bits : List Bool = byte_bits b in
    let lead : height_after h bits ≡ Some (h + ones bits - zeros bits) = dip_kept h bits enough in
    let eight : 8 ≡ ones bits + zeros bits = sym (length_byte b) ∙ length_counts bits in
    let sum = height_counts h (h + ones bits - zeros bits) bits lead in
    record { enough = omega arith; lead = lead ∙ ap Some (let same : h + ones bits - zeros bits ≡ h + 2 * ones bits - 8 = omega arith in same) }

-- ---- depths, first over some bits and then over the others

depths_past : (h k : ℕ) (a b : List Bool) → height_after h a ≡ Some k → depths h (a ++ b) ≡ depths h a ++ depths k b
depths_past h k [] b is = ap (λ j. depths j b) (some_same is)
depths_past h k (true ∷ a) b is = ap (λ ds. suc h ∷ ds) (depths_past (suc h) k a b is)
depths_past zero k (false ∷ a) b is = cc
depths_past (suc h) k (false ∷ a) b is = depths_past h k a b is

length_depths : (h : ℕ) (bits : List Bool) → length (depths h bits) ≡ ones bits
length_depths h [] = refl
length_depths h (true ∷ bits) = ap suc (length_depths (suc h) bits)
length_depths zero (false ∷ bits) = length_depths zero bits
length_depths (suc h) (false ∷ bits) = length_depths h bits

-- a depth from one height and from another
depths_apart : (g h e f k : ℕ) (bits : List Bool) → height_after g bits ≡ Some e → height_after h bits ≡ Some f → k < ones bits → get_or (depths g bits) k 0 + h ≡ get_or (depths h bits) k 0 + g
depths_apart g h e f k [] low high less = absurd (omega arith)
depths_apart g h e f zero (true ∷ bits) low high less = omega arith
depths_apart g h e f (suc k) (true ∷ bits) low high less = omega (arith, depths_apart (suc g) (suc h) e f k bits low high (omega arith))
depths_apart zero h e f k (false ∷ bits) low high less = cc
depths_apart (suc g) zero e f k (false ∷ bits) low high less = cc
depths_apart (suc g) (suc h) e f k (false ∷ bits) low high less = omega (arith, depths_apart g h e f k bits low high less)

-- ---- spots

module _ {bytes : List ℕ} {p at h : ℕ} (s : Spot bytes p at h) (whole : at % 8 ≡ 0) (more : p + ones_at bytes at < count_of bytes) where
  pub record Whole : Type 0 where
    pub inside : at + 8 ≤ 16 + 2 * count_of bytes
    pub enough : 8 ≤ h + 2 * ones_at bytes at
    pub depth : (j : ℕ) → j < ones_at bytes at → depth_of bytes (p + j) + 8 ≡ byte_depth (get_or bytes (at / 8) 0) j + h
    pub spot : Spot bytes (p + ones_at bytes at) (at + 8) (h + 2 * ones_at bytes at - 8)

  pub spot_byte : Whole
  spot_byte =
      let e : ℕ = 16 + 2 * count_of bytes in
      let b : ℕ = get_or bytes (at / 8) 0 in
      let bits : List Bool = byte_bits b in
      let n : ℕ = ones_at bytes at in
      let k : ℕ = h + 2 * n - 8 in
      let rest : List Bool = rest_bits bytes (at + 8) in
      let inside : at + 8 ≤ 16 + 2 * count_of bytes =
      ⊎_elim (λ (past : e < at + 8). absurd (omega (arith, ones_byte e at bytes whole s.within past, s.more))) (λ (le : at + 8 ≤ e). le) (cases_lt e (at + 8)) in
      let split : rest_bits bytes at ≡ bits ++ rest = bits_byte e at bytes whole inside in
      let ground : height_after h (bits ++ rest) ≡ Some 0 = ap (height_after h) (sym split) ∙ s.ground in
      let kept = byte_kept h b (dip_enough h 0 bits rest ground) in
      let eight = byte_kept 8 b (omega (arith, dip_most bits, length_byte b)) in
      let ahead : drop p (depths 0 (strip_bits bytes)) ≡ depths h bits ++ depths k rest = s.ahead ∙ ap (depths h) split ∙ depths_past h k bits rest kept.lead in
      record {
        inside = inside;
        enough = kept.enough;
        depth = λ j less.
            (let here : depth_of bytes (p + j) ≡ get_or (depths h bits) j 0 =
            sym (get_or-drop p (depths 0 (strip_bits bytes)) j 0) ∙ ap (λ ds. get_or ds j 0) ahead ∙ get_or_append_left (depths h bits) (depths k rest) 0 j (omega (arith, length_depths h bits)) in
            omega (arith, depths_apart h 8 k (8 + 2 * ones (byte_bits b) - 8) j bits kept.lead eight.lead less));
        spot = record {
          start = omega (arith, s.start);
          within = inside;
          ground = sym (height_past h k bits rest kept.lead) ∙ ground;
          more = omega (arith, s.more, ap ones split, (counts_append bits rest).0);
          ahead = sym (drop-drop n p (depths 0 (strip_bits bytes))) ∙ ap (drop n) ahead ∙ drop_at (depths h bits) (depths k rest) n (length_depths h bits);
        };
      }

  -- the last place of least depth of the byte
  pub best_byte : (q : ℕ) → 0 < ones_at bytes at → LastLeast (byte_depth (get_or bytes (at / 8) 0)) 0 (ones_at bytes at - 1) q
      → Best bytes p (p + ones_at bytes at) (record { place = p + q; depth = h + byte_depth (get_or bytes (at / 8) 0) q - 8 })
  best_byte q some low =
      let w = spot_byte in
      let within : q < ones_at bytes at = omega (arith, low.to) in
      record {
        some = omega arith;
        least = record {
          from = omega arith;
          to = omega arith;
          least = λ k from to.
              (let same : p + (k - p) ≡ k = omega arith in
              omega (arith, w.depth q within, w.depth (k - p) (omega arith), ap (depth_of bytes) same, low.least (k - p) (omega arith) (omega arith)));
          last = λ k from to.
              (let same : p + (k - p) ≡ k = omega arith in
              omega (arith, w.depth q within, w.depth (k - p) (omega arith), ap (depth_of bytes) same, low.last (k - p) (omega arith) (omega arith)));
        };
        depth = omega (arith, w.depth q within);
      }

-- ---- tables: one test over a whole table gives its rule at each entry

entry_right : {X : Type 0} (rule : ℕ → X → Bool) (table : List X) (b : ℕ) (fill : X) → (eqb (length table) 256 && every rule 0 table) ≡ true → b < 256 → rule b (get_or table b fill) ≡ true
entry_right rule table b fill t h =
    let parts = and_parts (eqb (length table) 256) (every rule 0 table) t in
    subst (λ (k : ℕ). rule k (get_or table b fill) ≡ true) (let e : 0 + b ≡ b = omega arith in e) (every_at rule table 0 b fill parts.1 (omega (arith, eqb-true (length table) 256 parts.0)))

pub dip_right : (dips : List ℕ) (b : ℕ) → right_dips dips ≡ true → b < 256 → get_or dips b 0 ≡ dip (byte_bits b)
dip_right dips b t h = eqb-true (get_or dips b 0) (dip (byte_bits b)) (entry_right (λ k x. eqb x (dip (byte_bits k))) dips b 0 t h)

no_ones : ones (byte_bits 0) ≡ 0
no_ones = refl

low_rule : (b least last : ℕ) → right_low b least last ≡ true → LastLeast (byte_depth b) 0 (ones (byte_bits b) - 1) last × (least ≡ byte_depth b last)
low_rule b least last t =
    let ds : List ℕ = depths 8 (byte_bits b) in
    let n : ℕ = ones (byte_bits b) in
    let test : ℕ → ℕ → Bool = λ k d. leb least d && (leb k last || ltb least d) in
    let parts = and_parts (ltb last n) (eqb least (byte_depth b last) && every test 0 ds) t in
    let rest = and_parts (eqb least (byte_depth b last)) (every test 0 ds) parts.1 in
    let within : last < n = ltb-true last n parts.0 in
    let is : least ≡ byte_depth b last = eqb-true least (byte_depth b last) rest.0 in
    let each : (k : ℕ) → k < n → (least ≤ get_or ds k 0) × (last < k → least < get_or ds k 0) =
    λ k less.
    (let here : test k (get_or ds k 0) ≡ true =
    subst (λ (i : ℕ). test i (get_or ds k 0) ≡ true) (let e : 0 + k ≡ k = omega arith in e) (every_at test ds 0 k 0 rest.1 (omega (arith, length_depths 8 (byte_bits b)))) in
    let two = and_parts (leb least (get_or ds k 0)) (leb k last || ltb least (get_or ds k 0)) here in (
      leb-true least (get_or ds k 0) two.0,
      λ after. ⊎_elim
          (λ (le : leb k last ≡ true). absurd (omega (arith, leb-true k last le)))
          (λ (lt : ltb least (get_or ds k 0) ≡ true). ltb-true least (get_or ds k 0) lt)
          (or_cases (leb k last) (ltb least (get_or ds k 0)) two.1),
    )) in (
      record {
        from = omega arith;
        to = omega arith;
        least = λ k from to. omega (arith, (each k (omega arith)).0);
        last = λ k from to. omega (arith, (each k (omega arith)).1 from);
      },
      is,
    )

pub low_right : (lows : List Low) (b : ℕ) (fill : Low) → right_lows lows ≡ true → b < 256 → 0 < ones (byte_bits b)
    → LastLeast (byte_depth b) 0 (ones (byte_bits b) - 1) (get_or lows b fill).last × ((get_or lows b fill).depth ≡ byte_depth b (get_or lows b fill).last)
low_right lows b fill t h some =
    let low : Low = get_or lows b fill in
    ⊎_elim
    (λ (none : eqb b 0 ≡ true). absurd (omega (arith, ap (λ k. ones (byte_bits k)) (eqb-true b 0 none), no_ones)))
    (λ (right : right_low b low.depth low.last ≡ true). low_rule b low.depth low.last right)
    (or_cases (eqb b 0) (right_low b low.depth low.last) (entry_right (λ k x. eqb k 0 || right_low k x.depth x.last) lows b fill t h))
