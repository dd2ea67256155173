use Rattle.std.proofs.Common.{arith, rules}
use Rattle.contour.proofs.Reading.{spread_done, spread_right, spread_off, spread_xs, spread_fits}
use Rattle.contour.proofs.Reading.{spread_end, spread_again}
use Rattle.contour.proofs.spread.Goals as goal

pub bounds-off-j : goal.bounds-off-j
bounds-off-j c = spread_off c.loop.invariant (search rules) c.from-j.ensures

pub overflow_add-s : goal.overflow_add-s
overflow_add-s c = omega (arith, spread_fits c.loop.invariant (search rules) c.from-j.ensures c.requires.fits)

pub bounds-xs-j : goal.bounds-xs-j
bounds-xs-j c = spread_xs c.loop.invariant (search rules) c.from-j.ensures

pub returns-then-a-v2 : goal.returns-then-a-v2
returns-then-a-v2 c = spread_end c.loop.invariant (search rules) c.from-j.ensures c.if-a-v2.true

pub bounds-right-j : goal.bounds-right-j
bounds-right-j c = spread_right c.loop.invariant (search rules) c.from-j.ensures

pub loop-preserved : goal.loop-preserved
loop-preserved c = spread_again c.loop.invariant (search rules) c.from-j.ensures (search rules) c.if-a-v2.false

pub returns : goal.returns
returns c = spread_done c.loop.invariant (search rules)
