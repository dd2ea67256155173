use native.Mathlib.Omega.{arith}
use mathlib.Core.Path.{ap, ◌∙◌}
use mathlib.Core.List.{[]}
use lib.ListN.{length, take}
use Rattle.std.proofs.lemmas.Result.{err_from_is_err_and}
use Rattle.block.specs.Block.{lists, order}
use Rattle.placing.specs.Records.{ends_of}
use Rattle.lamp.proofs.Loads.{order_length}
use Rattle.unit.specs.Replies.{ends_after}
use Rattle.unit.proofs.Calls.{sheet_refused, room_refused, sheet_written, sheet_fits}
use Rattle.unit.proofs.ends.Goals as goal

pub returns-in_err-b : goal.returns-in_err-b
unfolding ends_after
returns-in_err-b c =
    let s = c.args.s.now in
    let k = c.args.k in
    let p = err_from_is_err_and c.from_residual.result c.from_residual.ensures.1 in
    rw (p.1, p.2) (sheet_refused s k c.args.buffer.now (ends_of (lists s) (take k (order s))) _ _ c.in_err-b.ensures.refused)

pub returns-in_err-entries : goal.returns-in_err-entries
unfolding ends_after
returns-in_err-entries c =
    let s = c.args.s.now in
    let k = c.args.k in
    let ok = c.in_ok-b.ensures.accepted in
    let p = err_from_is_err_and c.from_residual-in_err-entries.result c.from_residual-in_err-entries.ensures.1 in
    rw (p.1, p.2) (room_refused s k c.args.buffer.now (ends_of (lists s) (take k (order s))) _ ok.0 _ ok.1 _ c.room.ensures _ c.in_err-entries.was)

pub ends_at-requires : goal.ends_at-requires
ends_at-requires c =
    let s = c.args.s.now in
    let ok = c.in_ok-b.ensures.accepted in
    let fits = sheet_fits s c.args.k c.args.buffer.now [] _ ok.0 _ ok.1 _ c.room.ensures _ c.in_ok-entries.was in
    let many = ap length (c.runs.ensures.order ∙ ap order ok.0) in
    ((omega (arith, fits.0), omega (arith, fits.0, many, order_length s)), omega (arith, fits.1))

pub returns : goal.returns
unfolding ends_after
returns c =
    let s = c.args.s.now in
    let k = c.args.k in
    let b = c.args.buffer.now in
    let ok = c.in_ok-b.ensures.accepted in
    let held = ok.0 in
    let done = sheet_written s k b (ends_of (lists s) (take k (order s))) _ held _ ok.1 _ c.room.ensures _ c.in_ok-entries.was in
    let rings = c.runs.ensures.lists ∙ ap lists held in
    let orders = c.runs.ensures.order ∙ ap order held in
    (done.0, rw (rings, orders) at c.ends_at.ensures ∙ done.1)
