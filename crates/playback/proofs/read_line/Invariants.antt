use Rattle.std.proofs.Common.{◌-◌, length}
use Rattle.console.specs.Buffers.{bytes_of}
use Rattle.playback.proofs.read_line.Given as goal

abbrev pub decreases-loop-input : goal.decreases-loop-input
decreases-loop-input l = 16389 - length (bytes_of l.line)
