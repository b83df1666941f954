-- The text of a reading.
-- Assumes nothing.
use Rattle.std.specs.Prelude.{ℕ, List, ◌∷◌, ◌++◌, decimal}
use Rattle.std.specs.Fmt.{signed_decimal}
use Rattle.reading.specs.declared.probe.Probe.{Probe}
use Rattle.reading.specs.declared.tenths.Tenths.{Tenths}
use Rattle.reading.specs.Probes.{probe_margin, probe_number}

-- the number of tenths, with a minus sign where it is negative
abbrev pub tenths_text : Tenths → List ℕ
tenths_text t = signed_decimal t.0

-- the margin, a slash and the number of the probe
abbrev pub probe_text : Probe → List ℕ
probe_text p = signed_decimal (probe_margin p) ++ (47 ∷ decimal (probe_number p))
