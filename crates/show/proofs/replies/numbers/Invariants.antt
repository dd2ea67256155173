use lib.ListN.{take}
use Rattle.text.specs.Pages.{Writes}
use Rattle.show.specs.Replied.{spaced_all}
use Rattle.show.proofs.replies.numbers.Given as goal

abbrev pub invariant-loop-x : goal.invariant-loop-x
invariant-loop-x l = Writes l.initial.page (spaced_all (take l.x-index l.b)) l.page
