use borrow.Author.Rules.{rules}
use mathlib.Core.Path.{refl}
use Rattle.text.proofs.Pages.{writes_then, fills}
use Rattle.show.specs.Why.{accepted_line}
use Rattle.show.proofs.plain.accepted_line.Goals as goal

pub returns : goal.returns
unfolding accepted_line
returns c = fills (writes_then c.numbered.ensures (writes_then c.numbered-2.ensures (writes_then c.numbered-3.ensures c.put.ensures))) refl (search rules)
