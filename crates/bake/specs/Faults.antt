-- The number of each refusal.
-- Assumes nothing.
use Rattle.std.specs.Prelude.{ℕ}
use Rattle.bake.specs.declared.fault.BakeFault.{BakeFault}
use Rattle.bake.specs.declared.fault.BakeFault.TheVariants.{ShortMemory, Window, CutBack, Late, NothingBaked, Index, TooCold}

abbrev pub bake_code : BakeFault → ℕ
bake_code ShortMemory = 2
bake_code Window = 7
bake_code CutBack = 8
bake_code Late = 9
bake_code NothingBaked = 10
bake_code Index = 11
bake_code TooCold = 12
