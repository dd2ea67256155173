use native.Mathlib.Omega.{arith}
use mathlib.Core.Path.{sym, ◌∙◌}
use Rattle.std.proofs.lemmas.Result.{err_from_is_err_and}
use Rattle.lamp.specs.Lamp.{stage_rows, name_rows}
use Rattle.lamp.specs.Given.{nothing}
use Rattle.lamp.proofs.Tried.{none_stops, stops, goes_on}
use Rattle.unit.proofs.Calls.{no_name, name_passes}
use Rattle.unit.proofs.rows.name.Goals as goal

pub returns-in_err-stage : goal.returns-in_err-stage
returns-in_err-stage c =
    let u = c.args.u in
    let p = err_from_is_err_and c.from_residual.result c.from_residual.ensures.1 in
    rw (p.1, p.2) (stops _ nothing (stage_rows c.args.k) _ c.stage.ensures (λ z. u) (name_rows u) _ c.in_err-stage.was)

pub returns-then-b-u : goal.returns-then-b-u
returns-then-b-u c =
    let u = c.args.u in
    sym (no_name _ u (omega (arith, c.args.b.headed.is)))
    ∙ goes_on _ nothing (stage_rows c.args.k) _ c.stage.ensures (λ z. u) (name_rows u) _ c.in_ok-stage.was

pub returns : goal.returns
returns c =
    let u = c.args.u in
    none_stops c.args.b.bytes.now (λ z. u) (name_rows u) (name_passes c.args.b.bytes.now u (omega (arith, c.args.b.headed.is)))
    ∙ goes_on _ nothing (stage_rows c.args.k) _ c.stage.ensures (λ z. u) (name_rows u) _ c.in_ok-stage.was
