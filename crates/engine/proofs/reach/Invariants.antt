use Rattle.std.proofs.Common.{◌≤◌}
use Rattle.contour.specs.Lent.{SameArrays}
use Rattle.engine.specs.Lent.{HoldsIn}
use Rattle.engine.proofs.reach.Given as goal

abbrev pub invariant-loop-i : goal.invariant-loop-i
invariant-loop-i l =
    record { upto : l.i ≤ l.k; holds : HoldsIn l.runs l.i l.contour; same_arrays : SameArrays l.fn.contour l.contour }
