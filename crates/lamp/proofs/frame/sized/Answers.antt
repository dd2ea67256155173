use native.Mathlib.Omega.{arith}
use mathlib.Core.Path.{sym, ap, ◌∙◌}
use Rattle.block.specs.Layout.{size}
use Rattle.lamp.specs.Lamp.{size_rows}
use Rattle.lamp.specs.Given.{nothing}
use Rattle.lamp.proofs.Tried.{none_stops}
use Rattle.lamp.proofs.Heads.{few_posts, many_posts, other_length, size_passes}
use Rattle.lamp.proofs.frame.sized.Goals as goal

pub returns-then-b-lt3 : goal.returns-then-b-lt3
returns-then-b-lt3 c =
    few_posts _ (omega (arith, c.requires))

pub returns-then-b-gt-LIMIT : goal.returns-then-b-gt-LIMIT
returns-then-b-gt-LIMIT c =
    many_posts _ (omega (arith, c.requires)) (omega (arith, c.requires))

pub returns-then-s-size : goal.returns-then-s-size
returns-then-s-size c =
    let asked = c.size.ensures ∙ ap size c.requires in
    other_length _ (omega (arith, c.requires)) (omega (arith, c.requires)) (λ e. c.if-s-size.true (e ∙ sym asked))

pub returns : goal.returns
returns c =
    let asked = c.size.ensures ∙ ap size c.requires in
    none_stops _ nothing size_rows (size_passes c.args.s.now (omega (arith, c.requires)) (omega (arith, c.requires)) (c.if-s-size.false ∙ asked))
