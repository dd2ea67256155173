use Rattle.contour.proofs.Paths.{Reach}
use Rattle.contour.proofs.reach_right.Given as goal

abbrev pub invariant-loop : goal.invariant-loop
invariant-loop l = Reach l.right l.off l.p l.m l.a l.s l.counter
