use borrow.Author.Rules.{rules}
use mathlib.Core.Path.{refl}
use Rattle.lamp.proofs.ReadBack.{told_apart}
use Rattle.text.proofs.Pages.{writes_then, fills}
use Rattle.show.specs.Why.{refused_line}
use Rattle.show.proofs.plain.refused_line.Goals as goal

pub returns : goal.returns
unfolding refused_line
returns c =
    rw (told_apart.read_back c.args.r)
    (fills (writes_then c.refusal.ensures (writes_then c.say.ensures (writes_then c.reason.ensures c.put.ensures))) refl (search rules))
