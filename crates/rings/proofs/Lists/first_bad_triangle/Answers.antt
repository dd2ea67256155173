use native.Mathlib.Omega.{arith}
use mathlib.Core.Path.{sym, ◌∙◌}
use Rattle.words.proofs.First.{first_here, first_next, first_end, some_first_if, none_first_if}
use Rattle.rings.proofs.Held.{triangle_start, triangle_fault_lem, triangle_pass, triangle_done}
use Rattle.rings.proofs.Lists.first_bad_triangle.Goals as goal

pub loop-i-init : goal.loop-i-init
loop-i-init c = triangle_start _ _ _ c.ring-list.ensures.is

pub loop-i-preserved : goal.loop-i-preserved
loop-i-preserved c = triangle_pass _ _ _ c.loop-i.i (omega arith) c.loop-i.invariant _ (rw c.after.ensures at c.is_after.ensures) c.if-not-is_after.false

pub loop-u-preserved : goal.loop-u-preserved
loop-u-preserved c =
    let done = triangle_done _ _ _ c.loop-i.i (omega arith) c.loop-i.invariant in
    c.loop-u.invariant ∙ first_next _ _ _ (omega arith) done

pub returns-after-loop-u : goal.returns-after-loop-u
returns-after-loop-u c =
    let v = c.loop-u in
    let e = v.invariant ∙ first_end _ v.u _ (omega arith) in
    none_first_if _ _ _ (omega arith)

pub returns-then-not-is_after : goal.returns-then-not-is_after
returns-then-not-is_after c =
    let v = c.loop-u in
    let fault = triangle_fault_lem _ _ _ c.loop-i.i (omega arith) c.loop-i.invariant _ (rw c.after.ensures at c.is_after.ensures) c.if-not-is_after.true in
    some_first_if _ _ _ _ (sym (v.invariant ∙ first_here _ v.u _ (omega arith) fault)) (omega arith)
