use native.Mathlib.Omega.{arith}
use mathlib.Core.Path.{sym}
use lib.Seq.{length-take-le}
use Rattle.cases.proofs.sums.Goals as goal

pub slice_bounds-check-end-2 : goal.slice_bounds-check-end-2
slice_bounds-check-end-2 g c = sym (length-take-le 32 c.board_t-t.result (omega arith))
