use Rattle.text.specs.Pages.{Writes}
use Rattle.fits.specs.Fit.{lines_from_third}
use Rattle.fits.specs.Entered.{fit_entry_line}
use Rattle.fits.proofs.fit_lines.Given as goal

abbrev pub invariant-loop-i : goal.invariant-loop-i
invariant-loop-i l = Writes l.initial.page (lines_from_third l.i (fit_entry_line l.vs l.ends l.sheet)) l.page
