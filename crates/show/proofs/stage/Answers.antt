use borrow.Author.Rules.{rules}
use mathlib.Core.Path.{refl, sym, ◌∙◌}
use Rattle.text.proofs.Pages.{fills, retold}
use Rattle.show.proofs.Naming.{names_stage, names_none}
use Rattle.show.proofs.stage.Goals as goal

pub returns-in-Some : goal.returns-in-Some
returns-in-Some c =
    let a = c.args in
    retold a.out.now c.sheet.ensures (names_stage a.s.now a.word.now _ (sym c.in-Some.is ∙ c.said.ensures))

pub returns-in-None : goal.returns-in-None
returns-in-None c =
    let a = c.args in
    retold a.out.now (fills c.say.ensures refl (search rules)) (names_none a.s.now a.word.now (sym c.in-None.is ∙ c.said.ensures))
