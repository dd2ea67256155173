use Rattle.text.proofs.Pages.{writes_then}
use Rattle.text.proofs.Page.spaced.Goals as goal

pub returns : goal.returns
returns c = writes_then c.put.ensures c.number.ensures
