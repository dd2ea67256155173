use mathlib.Core.Path.{sym, ap, ◌∙◌}
use native.Mathlib.Omega.{arith}
use Rattle.std.proofs.Common.{rules}
use mathlib.Core.List.{List}
use lib.ListN.{length}
use Rattle.std.proofs.lemmas.Result.{err_from_is_err_and}
use Rattle.order.proofs.Keeping.{runs_more}
use Rattle.lamp.specs.Lamp.{Row, position_rows}
use Rattle.lamp.specs.Given.{given, nothing}
use Rattle.lamp.specs.Loaded.{run_here}
use Rattle.lamp.proofs.Given.{given_end}
use Rattle.lamp.proofs.Tried.{counts}
use Rattle.lamp.proofs.BoardRows.{rows_refused, rows_passed, rows_end}
use Rattle.lamp.proofs.rules.Board.fitting.Goals as goal

pub returns-in_err-runs-clause-reply : goal.returns-in_err-runs-clause-reply
returns-in_err-runs-clause-reply c =
    let v = c.loop-k in
    let p = err_from_is_err_and c.from_residual.result c.from_residual.ensures.1 in
    rw (p.1, p.2) (rows_refused _ (run_here v.k) v.k _ (omega arith) _ c.position.ensures _ c.in_err-runs.was ∙ sym v.invariant.0)

pub loop-k-preserved : goal.loop-k-preserved
loop-k-preserved c =
    let v = c.loop-k in
    let r = c.position.result in
    let known = v.invariant.2 in
    let here = run_here v.k in
    let is = counts _ here (position_rows v.k) r c.position.ensures _ c.in_ok-runs.was in (
      v.invariant.0 ∙ rows_passed _ here v.k _ (omega arith) r c.position.ensures _ c.in_ok-runs.was,
      search rules,
      runs_more _ _ _ v.k _ (omega arith) (omega arith) is known,
    )

pub returns-clause-reply : goal.returns-clause-reply
returns-clause-reply c =
    let v = c.loop-k in
    let s = c.args.self.s.now in
    let none = ap (λ (rows : List Row). given rows s nothing) (rows_end v.k (length c.args.self.plan.vs.now) (omega arith)) in
    sym (v.invariant.0 ∙ none ∙ given_end s nothing)
