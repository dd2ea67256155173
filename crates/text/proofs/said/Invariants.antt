use Prim.Native.Nat.{min}
use mathlib.Core.Path.{◌≡◌}
use mathlib.Core.Bool.{true}
use lib.ListN.{take}
use Rattle.text.specs.Letters.{all_digits, value_after}
use Rattle.text.proofs.said.Given as goal

abbrev pub invariant-loop-c : goal.invariant-loop-c
invariant-loop-c l = record {
  read : l.said ≡ min (value_after 0 (take l.c-index l.word)) l.most;
  digits : all_digits (take l.c-index l.word) ≡ true;
}
