use Rattle.std.proofs.Common.{sym}
use Rattle.std.proofs.lemmas.Int.{to_z-of_z}
use Rattle.reading.proofs.Probes.{probe_of_known}
use Rattle.reading.proofs.probe.Probe.new.Goals as goal

pub returns-clause-value : goal.returns-clause-value
returns-clause-value c = let fits = c.ranges.margin in simp to_z-of_z (sym (probe_of_known c.args.margin c.args.number _))
