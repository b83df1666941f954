use Rattle.std.proofs.Common.{◌≡◌, ℕ, zero, suc, ◌+◌, ◌-◌, ◌*◌, true, false, not, ◌&&◌, List, ◌∷◌, length, refl, ap, ◌∙◌, arith, rules}
use Rattle.std.proofs.lemmas.Iterator.{YieldsList-from_range}
use Rattle.std.proofs.lemmas.Iterator.Search.{all_from_yields_List}
use Rattle.std.specs.List.{list_all, range_with_len}
use Rattle.strip.specs.Bits.{bit_at, bits_from, count_of}
use Rattle.strip.specs.Outcomes.{all_zero}
use Rattle.strip.proofs.bits.is_filled.Goals as goal

each_zero : (n k : ℕ) (bytes : List ℕ) → list_all (λ j. not (bit_at bytes j)) (range_with_len k n) ≡ all_zero (bits_from n k bytes)
each_zero zero k bytes = refl
each_zero (suc n) k bytes =
    let next : k + 1 ≡ suc k = omega arith in
    elim (bit_at bytes k) as (λ b. (not b && list_all (λ j. not (bit_at bytes j)) (range_with_len (k + 1) n)) ≡ all_zero (b ∷ bits_from n (suc k) bytes))
    [ true ↦ refl | false ↦ rw next (each_zero n (suc k) bytes) ]

pub returns : goal.returns
returns c =
    let bytes = c.args.bytes.now in
    let from : 16 + 2 * c.args.count ≡ 16 + 2 * count_of bytes = omega (arith, c.requires.counted) in
    all_from_yields_List (λ k. not (bit_at bytes k)) _ _ c.all.result c.all.ensures.ran (YieldsList-from_range (16 + 2 * c.args.count) (8 * length bytes) (8 * length bytes - (16 + 2 * c.args.count)) refl refl) (λ x b q k. search rules)
    ∙ each_zero (8 * length bytes - (16 + 2 * c.args.count)) (16 + 2 * c.args.count) bytes ∙ ap (λ k. all_zero (bits_from (8 * length bytes - k) k bytes)) from
