use Rattle.std.proofs.Common.{take}
use Rattle.std.proofs.lemmas.List.{length_push}
use Rattle.std.proofs.lemmas.Iterator.Adapters.{YieldsList-from_rev_slice}
use Rattle.std.proofs.lemmas.Iterator.Consumers.{YieldsList-turn, YieldsList-end}
use Rattle.contour.proofs.Reading.{settle_done, settle_ready, settle_again}
use Rattle.contour.proofs.settle.Goals as goal

pub column-requires : goal.column-requires
column-requires c =
    let gives = YieldsList-from_rev_slice (take c.args.k c.args.vs.now) (cc) in
    let t = YieldsList-turn gives c.loop-v.yielded _ c.loop-v.yielded_by _ _ c.in-Some.v c.in-Some.is c.next.ensures.steps in
    settle_ready c.requires.0 c.loop-v.invariant t c.from-u.ensures c.from-c.ensures

pub loop-v-preserved : goal.loop-v-preserved
loop-v-preserved c =
    let gives = YieldsList-from_rev_slice (take c.args.k c.args.vs.now) (cc) in
    let t = YieldsList-turn gives c.loop-v.yielded _ c.loop-v.yielded_by _ _ c.in-Some.v c.in-Some.is c.next.ensures.steps in
    rw (length_push c.loop-v.yielded c.in-Some.v)
    (settle_again c.requires.0 c.loop-v.invariant t c.from-u.ensures c.from-c.ensures c.column.ensures)

pub returns : goal.returns
returns c =
    let gives = YieldsList-from_rev_slice (take c.args.k c.args.vs.now) (cc) in
    let t = YieldsList-end gives c.loop-v.yielded _ c.loop-v.yielded_by _ _ c.in-None.is c.next.ensures.steps in
    settle_done c.requires.0 c.loop-v.invariant t.1
