use Rattle.std.proofs.Common.{◌≡◌, ◌%◌, take}
use Rattle.words.specs.Numbers.{sum_of}
use Rattle.words.proofs.sum.Given as goal

abbrev pub invariant-loop-b : goal.invariant-loop-b
invariant-loop-b l = l.sum ≡ sum_of (take l.b-index l.s) % 65536
