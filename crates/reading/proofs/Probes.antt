-- What comes of a margin and a number. Assumes nothing.
use Rattle.std.proofs.Common.{◌≡◌, ℕ, ◌<◌, ℤ, Ok, ap}
use native.Mathlib.Bridge.{le_prop}
use native.Mathlib.Decide.{dec_lt}
use Rattle.reading.specs.Probes.{probe_if, probe_of}

module _ (m : ℤ) (n : ℕ) (known : n < 8) where
  known_if : (d : Dec (n < 8)) → probe_if m n d ≡ Ok (record { margin = m; number = n; known = known })
  known_if (yes h) = ap (λ k. Ok (record { margin = m; number = n; known = k })) (le_prop h known)
  known_if (no h) = absurd (h known)

  -- a number below eight is that of a probe
  pub probe_of_known : probe_of m n ≡ Ok (record { margin = m; number = n; known = known })
  probe_of_known = known_if (dec_lt n 8)
