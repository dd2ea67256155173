use borrow.Author.Rules.{rules}
use native.Mathlib.Omega.{arith}
use Prim.Native.Nat.{◌-◌}
use mathlib.Core.Path.{sym, ◌∙◌, refl}
use lib.ListN.{length}
use Rattle.std.proofs.lemmas.Option.{get_or_from_slice_get}
use Rattle.order.proofs.Opens.{passed_none, passed_more, passed_all}
use Rattle.order.proofs.pass_over.Goals as goal
use Rattle.order.proofs.pass_over.Goals.{in-Some, in-None, then-opening, else-opening}

pub loop-i-init : goal.loop-i-init
loop-i-init c =
    passed_none _ _ _ (elim c.match-last.branch [
      | in-Some w ↦
          let last = get_or_from_slice_get c.args.ring.now (length c.args.ring.now - 1) w.in-Some.v.now 0 (sym w.in-Some.ensures.value) in
          λ h. w.last-is ∙ w.is_before-last.ensures ∙ rw last refl
      | in-None w ↦ let e = w.in-None.ensures.item in λ h. absurd (omega (arith, e.3))
    ])

pub loop-i-preserved : goal.loop-i-preserved
loop-i-preserved c =
    passed_more _ _ _ _ _ _ _ c.loop-i.invariant (omega arith) _ c.is_before-here.ensures _ _ _ (search rules) (search rules)
    (elim c.if-opening.branch [
      | then-opening w ↦ w.begin-is ∙ rw w.if-opening.true refl
      | else-opening w ↦ w.begin-is ∙ rw w.if-opening.false refl
    ])

pub returns : goal.returns
returns c = passed_all _ _ _ _ _ _ _ c.loop-i.invariant (omega arith)
