use Rattle.text.proofs.Pages.{writes_then}
use Rattle.show.specs.Shown.{refusal_line}
use Rattle.show.proofs.refusal_line.Goals as goal

pub returns : goal.returns
unfolding refusal_line
returns c = writes_then c.refusal.ensures c.put.ensures
