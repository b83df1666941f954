use Rattle.std.proofs.Common.{◌≡◌, length}
use Rattle.bench.specs.Right.{RightSoFar}
use Rattle.bench.proofs.run.Given as goal

abbrev pub invariant-loop : goal.invariant-loop
invariant-loop l = (length l.bytes ≡ 4096) × RightSoFar l.bench
