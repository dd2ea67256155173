use native.Mathlib.Omega.{arith}
use mathlib.Core.Path.{ap, ◌∙◌}
use lib.ListN.{length}
use Rattle.std.proofs.lemmas.Result.{err_from_is_err_and}
use Rattle.block.specs.Block.{lists, order}
use Rattle.lamp.proofs.Loads.{order_length}
use Rattle.lamp.proofs.Accepts.{lists_count}
use Rattle.unit.proofs.Calls.{post_refused, name_refused, name_is, post_told, post_fits, ranked_below, stage_same}
use Rattle.unit.proofs.post.Goals as goal

pub returns-in_err-b : goal.returns-in_err-b
returns-in_err-b c =
    let p = err_from_is_err_and c.from_residual.result c.from_residual.ensures.1 in
    rw (p.1, p.2) (post_refused c.args.s.now c.args.k c.args.u _ _ c.in_err-b.ensures.refused)

pub returns-in_err-name : goal.returns-in_err-name
returns-in_err-name c =
    let ok = c.in_ok-b.ensures.accepted in
    let p = err_from_is_err_and c.from_residual-in_err-name.result c.from_residual-in_err-name.ensures.1 in
    rw (p.1, p.2) (name_refused c.args.s.now c.args.k c.args.u _ ok.0 _ ok.1 _ c.name.ensures _ c.in_err-name.was)

pub post-requires : goal.post-requires
post-requires c =
    let s = c.args.s.now in
    let k = c.args.k in
    let u = c.args.u in
    let ok = c.in_ok-b.ensures.accepted in
    let rings = c.runs.ensures.lists ∙ ap lists ok.0 in
    let orders = c.runs.ensures.order ∙ ap order ok.0 in
    let fits = post_fits s k u _ ok.0 _ ok.1 _ c.name.ensures _ c.in_ok-name.was in
    let name = name_is s k u _ ok.0 _ ok.1 _ c.name.ensures _ c.in_ok-name.was in
    let many = ap length orders in
    let all = ap length rings in (
      (omega (arith, fits.0), omega (arith, fits.0, many, order_length s)),
      omega (arith, fits.1, name, all, lists_count s),
      rw c.rank.ensures (ranked_below s _ _ _ rings orders ok.2.ordered.ranked),
    )

pub returns : goal.returns
returns c =
    let s = c.args.s.now in
    let k = c.args.k in
    let u = c.args.u in
    let ok = c.in_ok-b.ensures.accepted in
    let rings = c.runs.ensures.lists ∙ ap lists ok.0 in
    let at = stage_same s k _ _ rings (c.runs.ensures.order ∙ ap order ok.0) in
    let name = name_is s k u _ ok.0 _ ok.1 _ c.name.ensures _ c.in_ok-name.was in
    post_told s k u _ ok.0 _ ok.1 _ c.name.ensures _ c.in_ok-name.was _ (rw (at, rings, name) at c.post.ensures)
