use native.Mathlib.Omega.{arith}
use mathlib.Core.Path.{sym, ap, ◌∙◌}
use Rattle.words.proofs.First.{first_here, first_next, first_end}
use Rattle.rings.specs.Found.{fault_at}
use Rattle.rings.specs.Held.{held}
use Rattle.rings.proofs.Held.{held_length}
use Rattle.rings.proofs.Faults.{search_start, search_found, search_next, search_done, told_found, told_none}
use Rattle.rings.proofs.Lists.first_bad_ring.Goals as goal

pub loop-i-init : goal.loop-i-init
loop-i-init c = search_start _ _ _ c.ring-list.ensures.is

pub loop-i-preserved : goal.loop-i-preserved
loop-i-preserved c =
    search_next _ _ _ c.ring-list.ensures.is c.loop-i.i c.loop-i.invariant (omega arith) _ c.fault_at-f.ensures (sym c.is_err.ensures.value ∙ c.if-is_err.false)

pub loop-u-preserved : goal.loop-u-preserved
loop-u-preserved c =
    let done = search_done _ _ _ c.ring-list.ensures.is c.loop-i.i c.loop-i.invariant (omega arith) in
    c.loop-u.invariant ∙ first_next _ _ _ (omega arith) done

pub returns-after-loop-u : goal.returns-after-loop-u
returns-after-loop-u c =
    let v = c.loop-u in
    let many = held_length c.args.self.at.now c.args.self.ents.now in
    let lowest = v.invariant ∙ first_end _ v.u _ (omega arith) in
    told_none _ v.u (rw many lowest) (omega arith)

pub returns-then-is_err : goal.returns-then-is_err
returns-then-is_err c =
    let v = c.loop-u in
    let G = held c.args.self.at.now c.args.self.ents.now in
    let many = held_length c.args.self.at.now c.args.self.ents.now in
    let is = sym c.is_err.ensures.value ∙ c.if-is_err.true in
    let found = search_found _ _ _ c.ring-list.ensures.is c.loop-i.i c.loop-i.invariant (omega arith) _ c.fault_at-f.ensures is in
    let lowest = v.invariant ∙ first_here _ v.u _ (omega arith) found.1 in
    c.fault_at-f.ensures ∙ ap (fault_at G v.u) (sym found.0) ∙ told_found G v.u (rw many lowest) (omega arith)
