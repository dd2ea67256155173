use borrow.Author.Rules.{rules}
use Rattle.show.proofs.Lengths.{held}
use Rattle.fits.proofs.Fitting.{fit_length}
use Rattle.fits.proofs.print_fit.Goals as goal

pub returns : goal.returns
returns g c = rw (← (held _ _ _ _ _ (fit_length _) c.no_fit_text-out.ensures c.fit-n.ensures).1) c.print.ensures
