use Prim.Native.Nat.{ℕ}
use mathlib.Core.Path.{sym, ap, ◌∙◌}
use Rattle.block.specs.Block.{posts}
use Rattle.lamp.specs.Given.{reply_of}
use Rattle.lamp.proofs.Accepts.{accepted_posts}
use Rattle.text.specs.Filling.{filled_with}
use Rattle.text.proofs.Pages.{retold}
use Rattle.show.specs.Shown.{sheet_text, last_text}
use Rattle.show.proofs.Sheets.{check_refuses}
use Rattle.show.proofs.last_sheet.Goals as goal

pub returns-in-Err : goal.returns-in-Err
unfolding last_text
returns-in-Err c =
    let a = c.args in
    let refuses = sym c.check.ensures ∙ ap reply_of c.in-Err.is in
    retold a.out.now c.refused.ensures (check_refuses a.s.now (posts a.s.now) _ _ refuses)

pub returns-in-Ok : goal.returns-in-Ok
unfolding last_text
returns-in-Ok c =
    let a = c.args in
    let accepts = sym c.check.ensures ∙ ap reply_of c.in-Ok.is in
    let n = c.from.ensures ∙ accepted_posts a.s.now _ accepts in
    c.sheet.ensures ∙ ap (λ (k : ℕ). filled_with (sheet_text a.s.now k) a.out.now) n
