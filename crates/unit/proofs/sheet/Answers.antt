use native.Mathlib.Omega.{arith}
use mathlib.Core.Path.{ap, ◌∙◌}
use mathlib.Core.List.{[], ◌++◌}
use Prim.Native.Nat.{◌*◌}
use lib.ListN.{length, drop}
use Rattle.std.proofs.lemmas.Result.{err_from_is_err_and}
use Rattle.block.specs.Block.{lists, order}
use Rattle.placing.specs.Records.{entries_of}
use Rattle.lamp.proofs.Loads.{order_length}
use Rattle.unit.specs.Replies.{stage_at, buffer_after}
use Rattle.unit.proofs.Calls.{sheet_refused, room_refused, sheet_written, sheet_fits, stage_same}
use Rattle.unit.proofs.sheet.Goals as goal

pub returns-in_err-b : goal.returns-in_err-b
unfolding buffer_after
returns-in_err-b c =
    let s = c.args.s.now in
    let k = c.args.k in
    let p = err_from_is_err_and c.from_residual.result c.from_residual.ensures.1 in
    rw (p.1, p.2) (sheet_refused s k c.args.buffer.now (entries_of (stage_at k s)) _ _ c.in_err-b.ensures.refused)

pub returns-in_err-count : goal.returns-in_err-count
unfolding buffer_after
returns-in_err-count c =
    let s = c.args.s.now in
    let k = c.args.k in
    let ok = c.in_ok-b.ensures.accepted in
    let p = err_from_is_err_and c.from_residual-in_err-count.result c.from_residual-in_err-count.ensures.1 in
    rw (p.1, p.2) (room_refused s k c.args.buffer.now (entries_of (stage_at k s)) _ ok.0 _ ok.1 _ c.room.ensures _ c.in_err-count.was)

pub sheet-requires : goal.sheet-requires
sheet-requires c =
    let s = c.args.s.now in
    let ok = c.in_ok-b.ensures.accepted in
    let fits = sheet_fits s c.args.k c.args.buffer.now [] _ ok.0 _ ok.1 _ c.room.ensures _ c.in_ok-count.was in
    let many = ap length (c.runs.ensures.order ∙ ap order ok.0) in
    ((omega (arith, fits.0), omega (arith, fits.0, many, order_length s)), omega (arith, fits.1))

pub returns : goal.returns
unfolding buffer_after
returns c =
    let s = c.args.s.now in
    let k = c.args.k in
    let b = c.args.buffer.now in
    let ok = c.in_ok-b.ensures.accepted in
    let held = ok.0 in
    let done = sheet_written s k b (entries_of (stage_at k s)) _ held _ ok.1 _ c.room.ensures _ c.in_ok-count.was in
    let at = stage_same s k _ _ (c.runs.ensures.lists ∙ ap lists held) (c.runs.ensures.order ∙ ap order held) in
    (done.0, c.sheet.ensures ∙ ap (λ (t : _). entries_of t ++ drop (2 * k) b) at ∙ done.1)
