use native.Mathlib.Numerals.{add-one}
use Rattle.text.proofs.Pages.{writes_none, writes_then}
use Rattle.show.specs.Entered.{entry_line}
use Rattle.show.proofs.Sheets.{lines_none, lines_more, entry_line_lem}
use Rattle.show.proofs.lines.Goals as goal

pub loop-i-init : goal.loop-i-init
loop-i-init c = rw (lines_none _) (writes_none _)

pub loop-i-preserved : goal.loop-i-preserved
loop-i-preserved c =
    let vs = c.args.vs.now in
    let b = c.args.b.now in
    let i = c.loop-i.i in
    rw (add-one, lines_more i (entry_line vs b), ← (entry_line_lem vs b i)) (writes_then c.loop-i.invariant c.position_line.ensures)
