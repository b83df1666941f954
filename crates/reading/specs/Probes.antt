-- Probe readings: their parts, what comes of two parts, and which of two readings is colder.
-- Assumes nothing.
use Rattle.std.specs.Prelude.{◌≡◌, ℕ, ◌<◌, Bool, not, ◌&&◌, ◌||◌, ◌⊎◌, ℤ, ◌<ℤ◌, Ok, Err, Result, int_lt, nat_lt}
use Rattle.std.proofs.Math.Decide.{dec_lt}
use Rattle.reading.specs.declared.fault.ProbeFault.{ProbeFault}
use Rattle.reading.specs.declared.fault.ProbeFault.TheVariants.{NoSuchProbe}
use Rattle.reading.specs.declared.probe.Probe.{Probe}

abbrev pub probe_margin : Probe → ℤ
probe_margin p = p.margin

abbrev pub probe_number : Probe → ℕ
probe_number p = p.number

-- what comes of margin m and number n, once it is decided whether n is a probe's
abbrev pub probe_if : ℤ → (n : ℕ) → Dec (n < 8) → Result Probe ProbeFault
probe_if m n (yes known) = Ok (record { margin = m; number = n; known = known })
probe_if m n (no _) = Err NoSuchProbe

-- the reading of margin m by probe n, or the fault where there is no probe n
abbrev pub probe_of : ℤ → ℕ → Result Probe ProbeFault
probe_of m n = probe_if m n (dec_lt n 8)

-- a has the smaller margin, or the same one and the lower number
abbrev pub ProbeColder : Probe → Probe → Type 0
ProbeColder a b = (probe_margin a <ℤ probe_margin b) ⊎ ((probe_margin a ≡ probe_margin b) × (probe_number a < probe_number b))

-- the test of it
abbrev pub probe_colder : Probe → Probe → Bool
probe_colder a b = int_lt (probe_margin a) (probe_margin b) || (not (int_lt (probe_margin b) (probe_margin a)) && nat_lt (probe_number a) (probe_number b))
