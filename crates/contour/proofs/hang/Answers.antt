use Rattle.std.proofs.Common.{arith, rules}
use Rattle.contour.proofs.Paths.{hang_end, hang_right, hang_off, hang_cover, hang_fits, hang_again}
use Rattle.contour.proofs.hang.Goals as goal

pub bounds-off-j : goal.bounds-off-j
bounds-off-j c = hang_off c.loop.invariant (search rules) c.from-j.ensures

pub overflow_add-s : goal.overflow_add-s
overflow_add-s c = omega (arith, hang_fits c.loop.invariant (search rules) c.from-j.ensures)

pub overflow_add-off : goal.overflow_add-off
overflow_add-off c = omega (arith, hang_fits c.loop.invariant (search rules) c.from-j.ensures)

pub bounds-off-j-in-loop : goal.bounds-off-j-in-loop
bounds-off-j-in-loop c = hang_off c.loop.invariant (search rules) c.from-j.ensures

pub bounds-cover-j : goal.bounds-cover-j
bounds-cover-j c = hang_cover c.loop.invariant (search rules) c.from-j.ensures

pub bounds-right-j : goal.bounds-right-j
bounds-right-j c = hang_right c.loop.invariant (search rules) c.from-j.ensures

pub loop-preserved : goal.loop-preserved
loop-preserved c = hang_again c.loop.invariant (search rules) c.from-j.ensures (search rules)

pub returns : goal.returns
returns c = hang_end c.loop.invariant (search rules)
