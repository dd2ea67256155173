use Rattle.std.proofs.Common.{◌≡◌, ℕ, ◌<◌, false, length}
use Rattle.block.specs.Block.{bad_degree}
use Rattle.block.proofs.first_bad_degree.Given as goal

abbrev pub invariant-loop-u : goal.invariant-loop-u
invariant-loop-u l = (j : ℕ) → j < l.u → bad_degree (length l.ds) l.ds j ≡ false
