use Rattle.contour.proofs.Paths.{Hang}
use Rattle.contour.proofs.hang.Given as goal

abbrev pub invariant-loop : goal.invariant-loop
invariant-loop l = Hang l.right l.initial.off l.initial.cover l.first l.m l.d l.v l.off l.cover l.a l.s l.counter
