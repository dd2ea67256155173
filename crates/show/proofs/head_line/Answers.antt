use Rattle.text.proofs.Pages.{writes_then}
use Rattle.show.specs.Shown.{head_line}
use Rattle.show.proofs.head_line.Goals as goal

pub returns : goal.returns
unfolding head_line
returns c = writes_then c.say.ensures (writes_then c.spaced.ensures (writes_then c.spaced-2.ensures c.put.ensures))
