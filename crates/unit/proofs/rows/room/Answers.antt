use native.Mathlib.Omega.{arith}
use mathlib.Core.Path.{sym, ◌∙◌}
use Prim.Native.Nat.{◌*◌}
use Rattle.std.proofs.lemmas.Result.{err_from_is_err_and}
use Rattle.lamp.specs.Lamp.{stage_rows, room_rows}
use Rattle.lamp.specs.Given.{nothing}
use Rattle.lamp.proofs.Tried.{none_applied, none_stops, stops, goes_on}
use Rattle.lamp.proofs.Accepts.{stage_range}
use Rattle.unit.proofs.Calls.{no_room, room_passes}
use Rattle.unit.proofs.rows.room.Goals as goal

pub returns-in_err-stage : goal.returns-in_err-stage
returns-in_err-stage c =
    let k = c.args.k in
    let p = err_from_is_err_and c.from_residual.result c.from_residual.ensures.1 in
    rw (p.1, p.2) (stops _ nothing (stage_rows k) _ c.stage.ensures (λ z. 2 * k) (room_rows k c.args.room) _ c.in_err-stage.was)

pub overflow_mul-k : goal.overflow_mul-k
overflow_mul-k c =
    let range = stage_range c.args.b.bytes.now c.args.k (none_applied _ nothing (stage_rows c.args.k) c.stage.result c.stage.ensures _ c.in_ok-stage.was) in
    omega (arith, range.1, c.args.b.headed.is, c.args.b.headed.most)

pub returns-then-room-k : goal.returns-then-room-k
returns-then-room-k c =
    let k = c.args.k in
    sym (no_room _ k c.args.room (omega arith))
    ∙ goes_on _ nothing (stage_rows k) _ c.stage.ensures (λ z. 2 * k) (room_rows k c.args.room) _ c.in_ok-stage.was

pub overflow_cast-result : goal.overflow_cast-result
overflow_cast-result c =
    let range = stage_range c.args.b.bytes.now c.args.k (none_applied _ nothing (stage_rows c.args.k) c.stage.result c.stage.ensures _ c.in_ok-stage.was) in
    omega (arith, range.1, c.args.b.headed.is, c.args.b.headed.most)

pub returns : goal.returns
returns c =
    let k = c.args.k in
    none_stops c.args.b.bytes.now (λ z. 2 * k) (room_rows k c.args.room) (room_passes c.args.b.bytes.now k c.args.room (omega arith))
    ∙ goes_on _ nothing (stage_rows k) _ c.stage.ensures (λ z. 2 * k) (room_rows k c.args.room) _ c.in_ok-stage.was
