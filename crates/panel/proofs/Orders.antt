-- Tenths in the order turned round have the laws of colder.
-- Assumes nothing.
use Rattle.std.proofs.Common.{rules}
use Rattle.reading.specs.Order.{Orders}
use Rattle.panel.specs.Logs.{tenths_hotter}

pub hotter_orders : Orders tenths_hotter
hotter_orders = search rules
