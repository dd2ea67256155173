use mathlib.Core.Path.{◌≡◌}
use lib.ListN.{length}
use Rattle.block.specs.Block.{order, lists}
use Rattle.order.specs.Ranked.{RunsBefore}
use Rattle.lamp.specs.Given.{tried}
use Rattle.lamp.specs.Loaded.{rows_from}
use Rattle.lamp.proofs.rules.Board.fitting.Given as goal

abbrev pub invariant-loop-k : goal.invariant-loop-k
invariant-loop-k l =
    let n = length l.self.plan.vs.now in
    let s = l.self.s.now in
    (tried (rows_from 3 n) s ≡ tried (rows_from l.k n) s) × (length l.runs ≡ length l.initial.runs) × RunsBefore (lists s) (order s) l.runs l.k
