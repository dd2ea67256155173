use Rattle.std.proofs.Common.{◌≡◌, take}
use Rattle.words.specs.Numbers.{words_at}
use Rattle.words.proofs.unpack.Given as goal

abbrev pub invariant-loop-k : goal.invariant-loop-k
invariant-loop-k l = take l.k l.out ≡ words_at l.s l.i l.k
