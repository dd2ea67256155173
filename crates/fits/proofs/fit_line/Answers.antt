use Rattle.text.proofs.Pages.{writes_then}
use Rattle.fits.specs.Fit.{fit_line}
use Rattle.fits.proofs.fit_line.Goals as goal

pub returns : goal.returns
unfolding fit_line
returns c =
    let place = writes_then c.spaced-4.ensures (writes_then c.spaced-5.ensures c.put.ensures) in
    let ends = writes_then c.spaced-2.ensures (writes_then c.spaced-3.ensures place) in
    writes_then c.number.ensures (writes_then c.spaced.ensures (writes_then c.say.ensures ends))
