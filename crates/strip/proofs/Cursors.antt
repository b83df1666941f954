-- Steps along a strip's bits.
-- Assumes nothing.
use Rattle.std.proofs.Common.{◌≡◌, ℕ, zero, suc, ◌+◌, ◌-◌, ◌*◌, ◌<◌, ◌≤◌, true, false, List, [], ◌∷◌, get_or, drop, Some, sym, ap, ◌∙◌, subst, ⊎_elim, arith}
use Rattle.std.proofs.lemmas.List.{get_or-drop, drop-drop}
use Rattle.std.proofs.lemmas.Bool.{cases_lt}
use Rattle.paths.specs.Path.{depths}
use Rattle.strip.specs.Bits.{bit_at, bits_from, count_of, strip_bits, height_after, ones, depth_of}
use Rattle.strip.specs.Cursors.{Spot}
use Rattle.strip.specs.Outcomes.{rest_bits, accepted, grounded}
use Rattle.strip.proofs.Balances.{height_counts, length_counts}
use Rattle.strip.proofs.Bytes.{length_bits_from}
use Rattle.strip.proofs.Strips.{grounded_zero, sound_strip}

-- the bits up to bit e, one by one
pub bits_more : (e at : ℕ) (bytes : List ℕ) → at < e → bits_from (e - at) at bytes ≡ bit_at bytes at ∷ bits_from (e - (at + 1)) (at + 1) bytes
bits_more e at bytes h =
    let n : e - at ≡ suc (e - (at + 1)) = omega arith in
    let next : suc at ≡ at + 1 = omega arith in
    ap (λ m. bits_from m at bytes) n ∙ ap (λ k. bit_at bytes at ∷ bits_from (e - (at + 1)) k bytes) next

pub bits_none : (e at : ℕ) (bytes : List ℕ) → e ≤ at → bits_from (e - at) at bytes ≡ []
bits_none e at bytes h = let n : e - at ≡ 0 = omega arith in rw n

-- ---- spots

pub spot_start : (bytes : List ℕ) → grounded (height_after 0 (strip_bits bytes)) ≡ true → Spot bytes 0 16 0
spot_start bytes sound =
    let ground : height_after 0 (strip_bits bytes) ≡ Some 0 = grounded_zero (height_after 0 (strip_bits bytes)) sound in
    let all : rest_bits bytes 16 ≡ strip_bits bytes = ap (λ m. bits_from m 16 bytes) (let e : 16 + 2 * count_of bytes - 16 ≡ 2 * count_of bytes = omega arith in e) in
    record {
      start = omega arith;
      within = omega arith;
      ground = ap (height_after 0) all ∙ ground;
      more = omega (arith, ap ones all, height_counts 0 0 (strip_bits bytes) ground, length_counts (strip_bits bytes), length_bits_from (2 * count_of bytes) 16 bytes);
      ahead = ap (depths 0) (sym all);
    }

module _ {bytes : List ℕ} {p at h : ℕ} (s : Spot bytes p at h) where
  pub spot_more : p < count_of bytes → at < 16 + 2 * count_of bytes
  spot_more more =
      ⊎_elim (λ (lt : at < 16 + 2 * count_of bytes). lt)
      (λ (le : 16 + 2 * count_of bytes ≤ at). absurd (omega (arith, ap ones (bits_none (16 + 2 * count_of bytes) at bytes le), s.more)))
      (cases_lt at (16 + 2 * count_of bytes))

  -- no height is above the bits that are left
  pub spot_bound : h ≤ 2 * count_of bytes
  spot_bound =
      omega (arith, height_counts h 0 (rest_bits bytes at) s.ground, length_counts (rest_bits bytes at), length_bits_from (16 + 2 * count_of bytes - at) at bytes, s.start)

  pub spot_few : accepted bytes ≡ true → h ≤ 65536
  spot_few sound = omega (arith, spot_bound, (sound_strip bytes sound).few)

  module _ (inside : at < 16 + 2 * count_of bytes) where
    rest : rest_bits bytes at ≡ bit_at bytes at ∷ rest_bits bytes (at + 1)
    rest = bits_more (16 + 2 * count_of bytes) at bytes inside

    pub record Lower : Type 0 where
      pub some : 0 < h
      pub spot : Spot bytes p (at + 1) (h - 1)

    pub spot_zero : bit_at bytes at ≡ false → Lower
    spot_zero is =
        let e : rest_bits bytes at ≡ false ∷ rest_bits bytes (at + 1) = rest ∙ ap (λ b. b ∷ rest_bits bytes (at + 1)) is in
        let lower = go h e (ap (height_after h) (sym e) ∙ s.ground) (s.ahead ∙ ap (depths h) e) in
        record { some = lower.some; spot = lower.spot }
      where
        go : (g : ℕ) → rest_bits bytes at ≡ false ∷ rest_bits bytes (at + 1) → height_after g (false ∷ rest_bits bytes (at + 1)) ≡ Some 0 → drop p (depths 0 (strip_bits bytes)) ≡ depths g (false ∷ rest_bits bytes (at + 1))
            → record { some : 0 < g; spot : Spot bytes p (at + 1) (g - 1) }
        go zero e ground ahead = cc
        go (suc g) e ground ahead =
            let same : g ≡ suc g - 1 = omega arith in
            record {
              some = omega arith;
              spot = subst (λ (k : ℕ). Spot bytes p (at + 1) k) same
                  (record { start = omega (arith, s.start); within = omega (arith, inside); ground = ground; more = omega (arith, s.more, ap ones e); ahead = ahead });
            }

    pub record Arrived : Type 0 where
      pub depth : h + 1 ≡ depth_of bytes p
      pub spot : Spot bytes (p + 1) (at + 1) (h + 1)

    pub spot_one : bit_at bytes at ≡ true → Arrived
    spot_one is =
        let e : rest_bits bytes at ≡ true ∷ rest_bits bytes (at + 1) = rest ∙ ap (λ b. b ∷ rest_bits bytes (at + 1)) is in
        let next : suc h ≡ h + 1 = omega arith in
        let ahead : drop p (depths 0 (strip_bits bytes)) ≡ suc h ∷ depths (suc h) (rest_bits bytes (at + 1)) = s.ahead ∙ ap (depths h) e in
        let here : p + 0 ≡ p = omega arith in
        record {
          depth = sym next ∙ sym (ap (λ xs. get_or xs 0 0) ahead) ∙ get_or-drop p (depths 0 (strip_bits bytes)) 0 0 ∙ ap (λ k. get_or (depths 0 (strip_bits bytes)) k 0) here;
          spot = subst (λ (k : ℕ). Spot bytes (p + 1) (at + 1) k) next
              (record {
                start = omega (arith, s.start);
                within = omega (arith, inside);
                ground = ap (height_after h) (sym e) ∙ s.ground;
                more = omega (arith, s.more, ap ones e);
                ahead = sym (drop-drop 1 p (depths 0 (strip_bits bytes))) ∙ ap (drop 1) ahead;
              });
        }
