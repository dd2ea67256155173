use Rattle.contour.proofs.Reading.{Spread}
use Rattle.contour.proofs.spread.Given as goal

abbrev pub invariant-loop : goal.invariant-loop
invariant-loop l = Spread l.right l.off l.initial.xs l.v1 l.v2 l.k l.xs l.a l.s l.counter
