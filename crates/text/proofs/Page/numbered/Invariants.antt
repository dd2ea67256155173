use lib.ListN.{take}
use Rattle.text.specs.Letters.{numbered}
use Rattle.text.specs.Pages.{Writes}
use Rattle.text.proofs.Page.numbered.Given as goal

abbrev pub invariant-loop-c : goal.invariant-loop-c
invariant-loop-c l = Writes l.initial.self (numbered l.x (take l.c-index l.t)) l.self
