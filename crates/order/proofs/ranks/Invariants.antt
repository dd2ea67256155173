use Prim.Native.Nat.{◌+◌}
use Rattle.order.proofs.Ranked.{RankedTo}
use Rattle.order.proofs.ranks.Given as goal

abbrev pub invariant-loop-i : goal.invariant-loop-i
invariant-loop-i l = RankedTo l.vs l.rank (l.i + 1)
