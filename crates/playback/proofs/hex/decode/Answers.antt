use Rattle.std.proofs.Common.{◌≡◌, ℕ, zero, suc, ◌+◌, ◌*◌, ◌/◌, ◌<◌, List, [], ◌∷◌, ◌++◌, length, get_or, drop, is_ok, is_some, true, Result, Ok, Err, OnOk, sym, ap, ◌∙◌, subst, arith, below_more}
use Rattle.std.proofs.lemmas.List.{get_or-take, get_or-drop, get_or_append_left, get_or_push}
use Rattle.std.specs.Simd.{first_chunks}
use Rattle.playback.specs.Digits.{Digits}
use Rattle.playback.proofs.hex.decode.Goals as goal

-- character j of pair k
pair_at : (m k j i : ℕ) (text d : List ℕ) → k < m → j < 2 → 2 * k + j ≡ i → get_or (get_or (first_chunks 2 m text) k d) j 0 ≡ get_or text i 0
pair_at zero k j i text d within two is = absurd (omega arith)
pair_at (suc m) zero j i text d within two is = let e : i ≡ j = omega arith in rw e (get_or-take 2 text j 0 two)
pair_at (suc m) (suc k) j i text d within two is =
    let e : i ≡ 2 + (2 * k + j) = omega arith in
    rw e (pair_at m k j (2 * k + j) (drop 2 text) d (omega arith) two (omega arith) ∙ get_or-drop 2 text (2 * k + j) 0)

-- the two characters of place k are the digits of a byte
abbrev At : List ℕ → ℕ → ℕ → Type 0
At text k byte = Digits (get_or text (2 * k) 0) (get_or text (2 * k + 1) 0) byte

one_more : (text bytes : List ℕ) (i byte : ℕ) → length bytes ≡ i → ((k : ℕ) → k < i → At text k (get_or bytes k 0)) → At text i byte → (k : ℕ) → k < i + 1 → At text k (get_or (bytes ++ (byte ∷ [])) k 0)
one_more text bytes i byte len before here =
    below_more (λ k. At text k (get_or (bytes ++ (byte ∷ [])) k 0)) i
    (λ k h. subst (At text k) (sym (get_or_append_left bytes (byte ∷ []) 0 k (omega arith))) (before k h))
    (subst (At text i) (sym (get_or_push bytes byte 0 i len)) here)

was_ok : {T E P : Type 0} (r : Result T E) → is_ok r ≡ true → OnOk r P → P
was_ok (Ok x) ok p = p
was_ok (Err e) ok p = absurd (let z : ◌≡◌ {A = ℕ} 0 1 = cc in omega arith)

pub returns-in_err-byte : goal.returns-in_err-byte
returns-in_err-byte g c =
    let text = c.args.text.now in
    let i = c.loop-high.high-index in
    let high = pair_at (length text / 2) i 0 (2 * i) text [] (omega arith) (omega arith) (omega arith) in
    let low = pair_at (length text / 2) i 1 (2 * i + 1) text [] (omega arith) (omega arith) (omega arith) in
    let none = rw (c.as_chunks.ensures.front, high, low) at c.in_err-byte.ensures in
    rw c.from_residual.ensures (λ spelled fits s. none (get_or spelled i 0) (s.each i (omega (arith, s.even))))

pub loop-high-preserved : goal.loop-high-preserved
loop-high-preserved g c =
    let text = c.args.text.now in
    let i = c.loop-high.high-index in
    let high = pair_at (length text / 2) i 0 (2 * i) text [] (omega arith) (omega arith) (omega arith) in
    let low = pair_at (length text / 2) i 1 (2 * i + 1) text [] (omega arith) (omega arith) (omega arith) in
    let here = rw (c.as_chunks.ensures.front, high, low) at c.in_ok-byte.ensures in
    let ok : is_ok c.try_push.result ≡ true = sym c.ok.ensures.variant ∙ ap is_some c.in_ok-ok.was in
    let longer = was_ok c.try_push.result ok c.try_push.ensures.len in
    record {
      fits = omega (arith, longer, c.try_push.ensures.variant.0 ok);
      len = omega (arith, longer, c.loop-high.invariant.len);
      spelled = rw (was_ok c.try_push.result ok c.try_push.ensures.ok) (one_more text c.loop-high.bytes.items i _ c.loop-high.invariant.len c.loop-high.invariant.spelled here);
    }

pub returns : goal.returns
returns g c = (c.loop-high.invariant.fits, record { even = omega (arith, c.as_chunks.ensures.back_len); each = λ k h. c.loop-high.invariant.spelled k (omega arith) })
