-- First coldest places under orders that agree, and of two ranges together.
-- Assumes nothing.
use Rattle.std.proofs.Common.{◌≡◌, ℕ, ◌+◌, ◌-◌, ◌<◌, ◌≤◌, Bool, true, false, sym, ap, ◌∙◌, subst, ⊎_elim, arith}
use Rattle.std.proofs.lemmas.Bool.{cases_Bool, cases_lt, both_ways}
use Rattle.reading.specs.Order.{Orders}
use Rattle.reading.specs.Coldest.{FirstColdest}
use Rattle.paths.proofs.Moves.{Agree}
use Rattle.paths.proofs.Paths.{asymmetric}
use Rattle.firing_log.specs.Steps.{join}

-- u orders the places below n as o orders those from a on
abbrev pub AgreeFrom : ℕ → ℕ → (ℕ → ℕ → Bool) → (ℕ → ℕ → Bool) → Type 0
AgreeFrom a n u o = (i j : ℕ) → i < n → j < n → u i j ≡ o (a + i) (a + j)

pub first_moved : {u o : ℕ → ℕ → Bool} (a n i j p : ℕ) → AgreeFrom a n u o → j < n → FirstColdest u i j p → FirstColdest o (a + i) (a + j) (a + p)
first_moved {u} {o} a n i j p agree below first = record {
  from = omega (arith, first.from);
  to = omega (arith, first.to);
  coldest = λ q low high.
      subst (λ (x : ℕ). o x (a + p) ≡ false) (back q (omega arith))
      (sym (agree (q - a) p (omega arith) (omega (arith, first.to))) ∙ first.coldest (q - a) (omega arith) (omega arith));
  lowest = λ q low high coldest.
      omega (
        arith,
        first.lowest (q - a) (omega arith) (omega arith)
            (λ s from to. agree s (q - a) (omega arith) (omega arith)
            ∙ ap (o (a + s)) (back q (omega arith)) ∙ coldest (a + s) (omega arith) (omega arith)),
      );
}
  where
    back : (q : ℕ) → a ≤ q → a + (q - a) ≡ q
    back q h = omega arith

pub first_agreed : {o u : ℕ → ℕ → Bool} (n l r p : ℕ) → Agree n o u → r < n → FirstColdest o l r p → FirstColdest u l r p
first_agreed {o} {u} n l r p agree below first = record {
  from = first.from;
  to = first.to;
  coldest = λ q low high. sym (agree q p (omega arith) (omega (arith, first.to))) ∙ first.coldest q low high;
  lowest = λ q low high coldest. first.lowest q low high (λ s from to. agree s q (omega arith) (omega arith) ∙ coldest s from to);
}

-- the ranges l to m and k to r, where they adjoin or overlap
pub first_joined : {o : ℕ → ℕ → Bool} → Orders o → (l m k r p q : ℕ) → l ≤ k → k ≤ m + 1 → m ≤ r
    → FirstColdest o l m p → FirstColdest o k r q → FirstColdest o l r (join o p q)
first_joined {o} laws l m k r p q start meet end left right =
    ⊎_elim
    (λ (d : o q p ≡ true). rw d (record {
      from = omega (arith, right.from);
      to = right.to;
      coldest = λ s low high.
          ⊎_elim (λ (e : s < k). laws.chained s p q (left.coldest s low (omega arith)) (asymmetric laws q p d))
          (λ (e : k ≤ s). right.coldest s e high) (cases_lt s k);
      lowest = λ s low high coldest.
          ⊎_elim
          (λ (e : s < k). absurd (both_ways (o q p)
          (laws.chained q s p (coldest q (omega (arith, right.from)) right.to) (left.coldest s low (omega arith))) d))
          (λ (e : k ≤ s). right.lowest s e high (λ x from to. coldest x (omega arith) to)) (cases_lt s k);
    }))
    (λ (d : o q p ≡ false). rw d (record {
      from = left.from;
      to = omega (arith, left.to);
      coldest = λ s low high.
          ⊎_elim (λ (e : m < s). laws.chained s q p (right.coldest s (omega arith) high) d)
          (λ (e : s ≤ m). left.coldest s low e) (cases_lt m s);
      lowest = λ s low high coldest.
          ⊎_elim (λ (e : m < s). let h : p ≤ s = omega (arith, left.to) in h)
          (λ (e : s ≤ m). left.lowest s low e (λ x from to. coldest x from (omega arith))) (cases_lt m s);
    }))
    (cases_Bool (o q p))
