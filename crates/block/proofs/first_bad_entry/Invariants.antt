use Rattle.std.proofs.Common.{◌≡◌, ℕ, ◌+◌, ◌<◌, ◌≤◌, false, length}
use Rattle.block.specs.Block.{bad_entry}
use Rattle.block.proofs.Laws.{Marked}
use Rattle.block.proofs.first_bad_entry.Given as goal

abbrev pub invariant-loop-i : goal.invariant-loop-i
invariant-loop-i l = record {
  marked : Marked l.vs l.marks (l.i + 1);
  before : (j : ℕ) → j < l.i + 1 → 1 ≤ j → bad_entry (length l.vs) l.vs j ≡ false;
}
