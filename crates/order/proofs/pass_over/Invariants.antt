use Rattle.order.specs.Opens.{before}
use Rattle.order.proofs.Opens.{Passed}
use Rattle.order.proofs.pass_over.Given as goal

abbrev pub invariant-loop-i : goal.invariant-loop-i
invariant-loop-i l = Passed (before l.rank l.k) l.ring l.i l.last l.many l.runs l.begin
