use Rattle.std.proofs.Common.{◌≡◌, ℕ, ◌<◌, ◌≤◌, min, ◌⊎◌, List, length, take, sym, ap, ◌∙◌, inl, inr, arith}
use Rattle.std.proofs.lemmas.List.{take_all}
use Rattle.std.proofs.lemmas.Bool.{cases_lt}
use Rattle.console.proofs.buffer.LineBuffer.bytes.Goals as goal

-- a list has no more than all of itself
take_min : (xs : List ℕ) (n k : ℕ) → length xs ≡ k → take (min n k) xs ≡ take n xs
take_min xs n k long = go (cases_lt n k)
  where
    go : (n < k) ⊎ (k ≤ n) → take (min n k) xs ≡ take n xs
    go (inl few) = let is : min n k ≡ n = omega arith in ap (λ m. take m xs) is
    go (inr many) = take_all (min n k) xs (omega arith) ∙ sym (take_all n xs (omega arith))

pub returns : goal.returns
returns c =
    let line = c.args.self.now in
    ap (λ n. take n line.text) c.min.ensures ∙ take_min line.text line.len 16389 (omega arith)
