use native.Mathlib.Omega.{arith}
use mathlib.Core.Path.{◌∙◌}
use mathlib.Core.Logic.{inl, inr}
use Rattle.order.proofs.Rule.{ready, rule_few, many_most, rule_broken, rule_good}
use Rattle.order.proofs.Plan.rule_at.Goals as goal
use Rattle.order.proofs.Plan.rule_at.Goals.{then-found-eq1, else-found-eq1}

pub pass_over-found-requires : goal.pass_over-found-requires
pass_over-found-requires c = let e = c.ring-ring.ensures.is in rw e (ready _ _ _ c.requires.0 _ c.requires.2 c.requires.3)

pub returns-then-found-lt2 : goal.returns-then-found-lt2
returns-then-found-lt2 c =
    let found = rw c.ring-ring.ensures.is at c.pass_over-found.ensures in
    rule_few _ _ _ c.requires.0 _ c.requires.2 c.requires.3 _ _ _ found c.if-found-lt2.true

pub returns-then-found-gt1 : goal.returns-then-found-gt1
returns-then-found-gt1 c =
    let found = rw c.ring-ring.ensures.is at c.pass_over-found.ensures in
    rule_broken _ _ _ c.requires.0 _ c.requires.2 c.requires.3 _ _ _ found
    (omega (arith, c.if-found-lt2.false)) (omega (arith, c.if-found-gt1.true))

pub overflow_cast-result : goal.overflow_cast-result
overflow_cast-result c =
    let found = rw c.ring-ring.ensures.is at c.pass_over-found.ensures in
    let good =
    rule_good _ _ _ c.requires.0 _ c.requires.2 c.requires.3 _ _ _ found (omega (arith, c.if-found-lt2.false))
    (omega (arith, c.if-found-gt1.false)) c.if-found-eq1.begin
    (elim c.if-found-eq1.branch [
      | then-found-eq1 w ↦ inl (w.if-found-eq1.true, w.begin-is)
      | else-found-eq1 w ↦ inr (w.if-found-eq1.false, w.begin-is ∙ rw (w.place_of.ensures, c.ring-ring.ensures.is) at w.unwrap_or-begin.ensures)
    ]) in
    omega (arith, good.0, rw c.ring-ring.ensures.is at c.ring-ring.ensures.short)

pub overflow_cast-result-2 : goal.overflow_cast-result-2
overflow_cast-result-2 c =
    let found = rw c.ring-ring.ensures.is at c.pass_over-found.ensures in
    let most = many_most _ _ _ c.requires.0 _ c.requires.2 c.requires.3 _ _ _ found in
    omega (arith, rw c.ring-ring.ensures.is at c.ring-ring.ensures.short)

pub returns : goal.returns
returns c =
    let found = rw c.ring-ring.ensures.is at c.pass_over-found.ensures in
    (rule_good _ _ _ c.requires.0 _ c.requires.2 c.requires.3 _ _ _ found (omega (arith, c.if-found-lt2.false))
    (omega (arith, c.if-found-gt1.false)) c.if-found-eq1.begin
    (elim c.if-found-eq1.branch [
      | then-found-eq1 w ↦ inl (w.if-found-eq1.true, w.begin-is)
      | else-found-eq1 w ↦ inr (w.if-found-eq1.false, w.begin-is ∙ rw (w.place_of.ensures, c.ring-ring.ensures.is) at w.unwrap_or-begin.ensures)
    ])).1
