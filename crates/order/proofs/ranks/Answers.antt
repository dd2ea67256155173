use native.Mathlib.Omega.{arith}
use mathlib.Core.Path.{◌≡◌}
use lib.ListN.{length}
use Rattle.order.proofs.Ranked.{name_within, rank_more, all_ranked}
use Rattle.order.proofs.ranks.Goals as goal

pub bounds-rank-from : goal.bounds-rank-from
bounds-rank-from c = name_within _ _ (omega arith) c.requires.2 c.loop-i.i _ (omega arith) c.from.ensures

pub loop-i-preserved : goal.loop-i-preserved
loop-i-preserved c = rank_more _ _ (omega arith) c.requires.2 c.loop-i.i _ (omega arith) c.from.ensures c.loop-i.invariant

pub returns : goal.returns
returns c =
    let e : c.loop-i.i ≡ length c.args.vs.now = omega arith in
    all_ranked _ _ (omega arith) c.requires.2 (rw e at c.loop-i.invariant)
