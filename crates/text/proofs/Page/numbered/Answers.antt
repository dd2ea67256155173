use Rattle.std.proofs.lemmas.List.{take_more}
use Rattle.text.proofs.Numerals.{numbered_none, numbered_last}
use Rattle.text.proofs.Pages.{writes_none, writes_then}
use Rattle.text.proofs.Page.numbered.Goals as goal

pub loop-c-init : goal.loop-c-init
loop-c-init c = rw numbered_none (writes_none _)

pub loop-c-preserved : goal.loop-c-preserved
loop-c-preserved c =
    rw (take_more c.args.t.now c.loop-c.c-index 0 c.loop-c-test.true, numbered_last)
    (writes_then c.loop-c.invariant c.numeral.ensures)
