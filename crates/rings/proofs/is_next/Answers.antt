use native.Mathlib.Omega.{arith}
use Prim.Native.Nat.{◌-◌}
use mathlib.Core.Logic.{inl, inr}
use mathlib.Core.Path.{sym, ◌∙◌}
use lib.ListN.{length}
use Rattle.std.proofs.lemmas.Option.{slice_get_within, get_or_from_slice_get}
use Rattle.rings.proofs.Turns.{next_begins, next_none, next_found, next_passed, next_end}
use Rattle.rings.proofs.is_next.Goals as goal
use Rattle.rings.proofs.is_next.Goals.{else-before-a-via-then-before-a+else-v-c, else-before-a-via-else-before-a}

pub returns-in_default : goal.returns-in_default
returns-in_default c = let e = c.in_default.ensures.item in next_none _ _ _ (omega (arith, e.3))

pub loop-v-init : goal.loop-v-init
loop-v-init c =
    let l = c.args.list.now in
    let end = get_or_from_slice_get l (length l - 1) c.in-Some.end.now 0 (sym c.in-Some.ensures.value) in
    let some = slice_get_within l (length l - 1) c.in-Some.end.now (sym c.in-Some.ensures.value) in
    next_begins _ _ l _ (omega (arith, some)) (cc)

pub returns-then-v-c : goal.returns-then-v-c
returns-then-v-c c = sym (next_found _ _ _ c.loop-v.v-index _ (omega arith) c.if-before-a.true c.if-v-c.true) ∙ c.loop-v.invariant

pub loop-v-preserved : goal.loop-v-preserved
loop-v-preserved c =
    sym (next_passed _ _ _ c.loop-v.v-index _ (omega arith) (elim c.else-before-a.branch [
      | else-before-a-via-then-before-a+else-v-c w ↦ inr w.if-v-c.false
      | else-before-a-via-else-before-a w ↦ inl w.if-before-a.false
    ]))
    ∙ c.loop-v.invariant

pub returns : goal.returns
returns c = sym (next_end _ _ _ c.loop-v.v-index _ (omega arith)) ∙ c.loop-v.invariant
