use native.Mathlib.Omega.{arith}
use Rattle.text.proofs.Pages.{writes_none, writes_then}
use Rattle.fits.specs.Entered.{fit_entry_line}
use Rattle.show.proofs.Sheets.{lines_none}
use Rattle.fits.proofs.Fitting.{third_more, fit_entry_line_lem}
use Rattle.fits.proofs.fit_lines.Goals as goal

pub loop-i-init : goal.loop-i-init
loop-i-init c = rw (lines_none _) (writes_none _)

pub loop-i-preserved : goal.loop-i-preserved
loop-i-preserved c =
    let a = c.args in
    let i = c.loop-i.i in
    let line = fit_entry_line a.vs.now a.ends.now a.sheet.now in
    rw (third_more i line (omega arith), ← (fit_entry_line_lem a.vs.now a.ends.now a.sheet.now i))
    (writes_then c.loop-i.invariant c.fit_line.ensures)
