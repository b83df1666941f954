use Rattle.bench.specs.Right.{RightSoFar}
use Rattle.bench.proofs.feed.Given as goal

abbrev pub invariant-loop-byte : goal.invariant-loop-byte
invariant-loop-byte l = RightSoFar l.bench
