use Rattle.std.proofs.Common.{length}
use Rattle.contour.proofs.Reading.{Settling}
use Rattle.contour.proofs.settle.Given as goal

abbrev pub invariant-loop-v : goal.invariant-loop-v
invariant-loop-v l = Settling l.vs l.off l.cover l.initial.xs l.k l.xs (length l.yielded)
