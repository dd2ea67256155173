use mathlib.Core.Path.{sym, ap, ◌∙◌}
use Rattle.block.specs.Block.{posts}
use Rattle.lamp.specs.Given.{accepted}
use Rattle.lamp.specs.Lamp.{opening_rows}
use Rattle.lamp.proofs.Tried.{none_stops}
use Rattle.lamp.proofs.Heads.{short, no_mark, other_version, opening_passes}
use Rattle.lamp.proofs.frame.opening.Goals as goal

pub returns-then-s-lt-ORDER_AT : goal.returns-then-s-lt-ORDER_AT
returns-then-s-lt-ORDER_AT c = short _ c.if-s-lt-ORDER_AT.true

pub returns-then-not-is_marked : goal.returns-then-not-is_marked
returns-then-not-is_marked c = no_mark _ c.if-s-lt-ORDER_AT.false (sym c.is_marked.ensures ∙ c.if-not-is_marked.true)

pub returns-then-word-ne1 : goal.returns-then-word-ne1
returns-then-word-ne1 c =
    let mark = sym c.is_marked.ensures ∙ c.if-not-is_marked.false in
    other_version _ c.if-s-lt-ORDER_AT.false mark (λ e. c.if-word-ne1.true (c.word.ensures ∙ e))

pub returns : goal.returns
returns c =
    let mark = sym c.is_marked.ensures ∙ c.if-not-is_marked.false in
    let one = sym c.word.ensures ∙ c.if-word-ne1.false in
    ap accepted c.word-2.ensures ∙ none_stops _ posts opening_rows (opening_passes _ c.if-s-lt-ORDER_AT.false mark one)
