-- The kinds of readings have the laws of colder.
-- Assumes nothing.
use Rattle.std.proofs.Common.{rules}
use Rattle.reading.specs.Order.{Orders}
use Rattle.reading.specs.Probes.{probe_colder}
use Rattle.reading.specs.Tenths.{tenths_colder}

pub tenths_orders : Orders tenths_colder
tenths_orders = search rules

pub probe_orders : Orders probe_colder
probe_orders = search rules
