use Rattle.std.proofs.Common.{◌≡◌, ℕ, ◌<◌, get_or, take}
use Rattle.words.specs.Numbers.{sum_of}
use Rattle.block.proofs.starts.Given as goal

abbrev pub invariant-loop-u : goal.invariant-loop-u
invariant-loop-u l = (l.t ≡ sum_of (take l.u l.ds)) × ((k : ℕ) → k < l.u → get_or l.at k 0 ≡ sum_of (take k l.ds))
