use Rattle.std.proofs.Common.{arith, rules}
use Rattle.contour.proofs.Paths.{reach_end, reach_here, reach_next, reach_sum, reach_again}
use Rattle.contour.proofs.reach_right.Goals as goal

pub bounds-right-from : goal.bounds-right-from
bounds-right-from c = reach_here c.loop.invariant (search rules) c.from.ensures

pub bounds-off-from : goal.bounds-off-from
bounds-off-from c = reach_next c.loop.invariant (search rules) c.from.ensures c.from-in-loop.ensures

pub overflow_add-s : goal.overflow_add-s
overflow_add-s c = omega (arith, c.requires.2, reach_sum c.loop.invariant (search rules) c.from.ensures c.from-in-loop.ensures)

pub loop-preserved : goal.loop-preserved
loop-preserved c = reach_again c.loop.invariant (search rules) c.from.ensures c.from-in-loop.ensures (search rules)

pub returns : goal.returns
returns c = reach_end c.loop.invariant (search rules)
