use borrow.Author.Rules.{rules}
use mathlib.Core.Path.{refl}
use Rattle.text.proofs.Pages.{fills}
use Rattle.show.proofs.refused.Goals as goal

pub returns : goal.returns
returns c = fills c.refusal_line.ensures refl (search rules)
