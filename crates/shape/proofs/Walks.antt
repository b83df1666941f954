-- The walk from a shape number to a path: one removal, one arrival, the end.
-- Assumes nothing.
use Rattle.std.proofs.Common.{◌≡◌, ℕ, suc, ◌+◌, ◌-◌, ◌*◌, ◌/◌, ◌^◌, ◌<◌, ◌≤◌, List, [], ◌∷◌, length, sym, refl, ap, ◌∙◌, arith, pow-add}
use Rattle.std.proofs.lemmas.Grind.{common_steps}
use lib.Bits.{bit_and}
use Rattle.std.proofs.lemmas.Nat.{shl-shr}
use Rattle.std.proofs.lemmas.Bool.{lt-ltb, le-ltb}
use Rattle.paths.specs.Ballot.{ballot}
use Rattle.paths.specs.Cell.{unrank, moves_of, up_to, retrace, without_last, path_of, mask, cell}
use Rattle.paths.specs.Stack.{Below}
use Rattle.shape.proofs.Masks.{Falling, mask_fits, mask_clear, mask_some}
use Rattle.paths.proofs.Moves.{below_more}
use Rattle.paths.proofs.Ranks.{ballot_count, ballot_parts, ballot_some}

-- the bit of a place
pub place_bit : (c : ℕ) → c < 8 → 128 / 2 ^ c ≡ 2 ^ (7 - c)
place_bit c h =
    let whole : 2 ^ (7 - c) * 2 ^ c ≡ 128 = sym (pow-add 2 (7 - c) c) ∙ (let e : 7 - c + c ≡ 7 = omega arith in ap (λ k. 2 ^ k) e) in
    ap (λ n. n / 2 ^ c) (sym whole) ∙ shl-shr (2 ^ (7 - c)) c

-- c places have arrived and k were removed on the way to the path just after `end`, and the moves to come weigh `rest`
pub record Walking (number end c k rest bits : ℕ) : Type 0 where
  pub path : List ℕ
  pub is : bits ≡ mask path
  pub falling : Falling path
  pub below : Below c path
  pub held : length path + k ≡ c
  pub within : c ≤ end
  pub left : rest < ballot (8 - c) (8 - k)
  pub onward : retrace c path (up_to (end - c) (unrank ((8 - c) + (8 - k)) c k rest)) ≡ path_of number end

-- the same before place c arrives, or once the place `end` has arrived
pub record Walked (number end c k rest bits : ℕ) : Type 0 where
  pub onward : c ≤ end → Walking number end c k rest bits
  pub over : end < c → bits ≡ cell number end

pub walking_none : (number end : ℕ) → number < 1430 → Walking number end 0 0 number 0
unfolding path_of moves_of
walking_none number end h = record {
  path = [];
  is = refl;
  falling = tt;
  below = tt;
  held = refl;
  within = omega arith;
  left = omega (arith, ballot_count);
  onward = let e : end - 0 ≡ end = omega arith in ap (λ j. retrace 0 [] (up_to j (unrank 16 0 0 number))) e;
}

-- what the moves come to after one more of them
removal_onward : (end c k rest : ℕ) (st : List ℕ) → c < 8 → k < 8 → ballot (7 - c) (8 - k) ≤ rest
    → retrace c st (up_to (end - c) (unrank ((8 - c) + (8 - k)) c k rest))
    ≡ retrace c (without_last st) (up_to (end - c) (unrank ((8 - c) + (8 - suc k)) c (suc k) (rest - ballot (7 - c) (8 - k))))
removal_onward end c k rest st few some le = grind (arith, common_steps, le-ltb, lt-ltb)

arrival_onward : (end c k rest : ℕ) (st : List ℕ) → c < 8 → c < end → rest < ballot (7 - c) (8 - k)
    → retrace c st (up_to (end - c) (unrank ((8 - c) + (8 - k)) c k rest))
    ≡ retrace (suc c) (c ∷ st) (up_to (end - suc c) (unrank ((8 - suc c) + (8 - k)) (suc c) k rest))
arrival_onward end c k rest st few on lt = grind (arith, common_steps, lt-ltb)

last_onward : (end c k rest : ℕ) (st : List ℕ) → c < 8 → c ≡ end → rest < ballot (7 - c) (8 - k)
    → retrace c st (up_to (end - c) (unrank ((8 - c) + (8 - k)) c k rest)) ≡ c ∷ st
last_onward end c k rest st few at lt = grind (arith, common_steps, lt-ltb)

module _ {number end c k rest bits : ℕ} (w : Walking number end c k rest bits) (few : c < 8) where
  pub walking_lower : k ≤ c
  walking_lower = omega (arith, w.held)

  module _ (removes : ballot (7 - c) (8 - k) ≤ rest) where
    fewer : rest - ballot (7 - c) (8 - k) < ballot (8 - c) (8 - suc k)
    fewer = omega (arith, w.left, ballot_parts c k few walking_lower)

    pub walking_higher : k < c
    walking_higher = ballot_some c k few walking_lower fewer

    pub walking_some : 0 < bits
    walking_some = from w.path w.is (omega (arith, w.held, walking_higher))
      where
        from : (st : List ℕ) → bits ≡ mask st → 0 < length st → 0 < bits
        from [] is some = absurd (omega arith)
        from (t ∷ st) is some = omega (arith, is, mask_some t st)

    pub walking_removes : Walking number end c (suc k) (rest - ballot (7 - c) (8 - k)) (bit_and bits (bits - 1))
    walking_removes = from w.path w.is w.falling w.below w.held w.onward
      where
        from : (st : List ℕ) → bits ≡ mask st → Falling st → Below c st → length st + k ≡ c
            → retrace c st (up_to (end - c) (unrank ((8 - c) + (8 - k)) c k rest)) ≡ path_of number end
            → Walking number end c (suc k) (rest - ballot (7 - c) (8 - k)) (bit_and bits (bits - 1))
        from [] is falling below held onward = absurd (omega (arith, walking_higher))
        from (t ∷ st) is falling below held onward = record {
          path = st;
          is = ap (λ b. bit_and b (b - 1)) is ∙ mask_clear t st falling (omega (arith, below.0));
          falling = falling.1;
          below = below.1;
          held = omega (arith, held);
          within = w.within;
          left = fewer;
          onward = sym (removal_onward end c k rest (t ∷ st) few (omega (arith, walking_higher)) removes) ∙ onward;
        }

  pub walking_fits : bits + 128 / 2 ^ c < 256
  walking_fits = omega (arith, w.is, place_bit c few, mask_fits c w.path w.falling w.below few)

  module _ (arrives : rest < ballot (7 - c) (8 - k)) where
    joined : bits + 128 / 2 ^ c ≡ mask (c ∷ w.path)
    joined = omega (arith, w.is, place_bit c few)

    pub walking_arrives : c < end → Walking number end (suc c) k rest (bits + 128 / 2 ^ c)
    walking_arrives on = grind (arith, common_steps, arrival_onward, below_more, joined)

    pub walking_ends : c ≡ end → bits + 128 / 2 ^ c ≡ cell number end
    walking_ends at = joined ∙ ap mask (sym (last_onward end c k rest w.path few at arrives) ∙ w.onward)
