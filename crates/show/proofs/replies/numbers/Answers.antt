use mathlib.Core.List.{flat_map}
use Rattle.std.proofs.lemmas.List.{take_more}
use Rattle.text.proofs.Pages.{writes_none, writes_then}
use Rattle.show.specs.Replied.{spaced_all}
use Rattle.show.proofs.Replying.{spaced_last}
use Rattle.show.proofs.replies.numbers.Goals as goal

pub loop-x-init : goal.loop-x-init
unfolding spaced_all flat_map
loop-x-init c = writes_none _

pub loop-x-preserved : goal.loop-x-preserved
loop-x-preserved c =
    rw (take_more c.args.b.now c.loop-x.x-index 0 c.loop-x-test.true, spaced_last) (writes_then c.loop-x.invariant c.spaced.ensures)
