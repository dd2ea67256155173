use native.Mathlib.Omega.{arith}
use Rattle.order.proofs.Reading.{sizes, read_inside, read_over}
use Rattle.order.proofs.Plan.of_run.Goals as goal

pub overflow_add-p : goal.overflow_add-p
overflow_add-p c = omega (arith, sizes _ _ _ _ _ c.requires _ c.ring-ring.ensures.is _ c.from.ensures)

pub returns-then-p-ring : goal.returns-then-p-ring
returns-then-p-ring c = read_inside _ _ _ _ _ c.requires _ c.ring-ring.ensures.is _ c.from.ensures (omega arith)

pub offset_bounds-ring-p-2 : goal.offset_bounds-ring-p-2
offset_bounds-ring-p-2 c = omega (arith, sizes _ _ _ _ _ c.requires _ c.ring-ring.ensures.is _ c.from.ensures)

pub bounds-ring-p-2 : goal.bounds-ring-p-2
bounds-ring-p-2 c = omega (arith, sizes _ _ _ _ _ c.requires _ c.ring-ring.ensures.is _ c.from.ensures)

pub returns : goal.returns
returns c = read_over _ _ _ _ _ c.requires _ c.ring-ring.ensures.is _ c.from.ensures (omega arith)
