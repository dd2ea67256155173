use native.Mathlib.Omega.{arith}
use mathlib.Core.Path.{ap, ◌∙◌}
use Rattle.text.specs.Letters.{decimal}
use Rattle.text.proofs.Numerals.{decimal_is}
use Rattle.text.proofs.Page.number.Goals as goal

pub returns : goal.returns
returns c =
    let d = c.decimal-k.ensures in
    rw (← (d.digits ∙ decimal_is _ _ (omega arith) d.len ∙ ap decimal c.from.ensures)) c.say.ensures
