use Rattle.std.proofs.Common.{get_or}
use Rattle.placing.proofs.Writing.{Writing}
use Rattle.placing.proofs.write_sheet.Given as goal

abbrev pub invariant-loop-i : goal.invariant-loop-i
invariant-loop-i l = Writing (λ u. get_or l.xs u 0) (λ u. get_or l.ys u 0) l.vs l.k l.initial.buffer l.buffer l.i
