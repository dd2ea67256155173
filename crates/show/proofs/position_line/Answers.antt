use Rattle.text.proofs.Pages.{writes_then}
use Rattle.show.specs.Shown.{position_line}
use Rattle.show.proofs.position_line.Goals as goal

pub returns : goal.returns
unfolding position_line
returns c = writes_then c.number.ensures (writes_then c.spaced.ensures (writes_then c.spaced-2.ensures (writes_then c.spaced-3.ensures c.put.ensures)))
