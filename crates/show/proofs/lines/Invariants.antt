use Rattle.text.specs.Pages.{Writes}
use Rattle.show.specs.Shown.{lines_to}
use Rattle.show.specs.Entered.{entry_line}
use Rattle.show.proofs.lines.Given as goal

abbrev pub invariant-loop-i : goal.invariant-loop-i
invariant-loop-i l = Writes l.initial.page (lines_to l.i (entry_line l.vs l.b)) l.page
