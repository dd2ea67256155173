use Rattle.std.proofs.Common.{arith, below_more, length}
use Rattle.words.proofs.First.{found_first, found_none}
use Rattle.block.proofs.Laws.{degree_test}
use Rattle.block.proofs.first_bad_degree.Goals as goal

pub returns-then-not-contains : goal.returns-then-not-contains
returns-then-not-contains c =
    let l = c.args.ds.now in
    let u = c.loop-u.u in
    let test = degree_test (length l) l u c.from.result c.from.ensures c.requires.0 in
    found_first _ 0 (length l) u (omega arith) (omega arith) (λ j _ h. c.loop-u.invariant j h) (cc)

pub loop-u-preserved : goal.loop-u-preserved
loop-u-preserved c =
    let l = c.args.ds.now in
    let test = degree_test (length l) l c.loop-u.u c.from.result c.from.ensures c.requires.0 in
    below_more _ _ c.loop-u.invariant (cc)

pub returns : goal.returns
returns c = found_none _ 0 (length c.args.ds.now) (λ j _ h. c.loop-u.invariant j (omega arith))
