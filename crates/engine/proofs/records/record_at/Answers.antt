use Rattle.std.proofs.Common.{◌≡◌, ℕ, ◌+◌, get_or, not, ap, sym, ◌∙◌, arith}
use Rattle.words.specs.Positions.{post}
use Rattle.order.proofs.Ranked.{position_of_lem}
use Rattle.engine.specs.Lent.{board, listed}
use Rattle.engine.proofs.Recording.{record_waiting, record_placed}
use Rattle.engine.proofs.records.record_at.Goals as goal

pub returns-then-not-is_before : goal.returns-then-not-is_before
returns-then-not-is_before c =
    let a = c.args in
    let n = a.contour.now in
    record_waiting (board a.runs) (listed a.runs) a.rank.now a.k a.xs.now n.ys.now n.cover.now n.left.now n.right.now a.u
    c.is_before.result c.is_before.ensures (ap not c.if-not-is_before.true)

pub ends_of-ends-requires : goal.ends_of-ends-requires
ends_of-ends-requires c =
    let a = c.args in
    let position = c.from.ensures ∙ ap (λ (n : ℕ). get_or a.rank.now n 0) c.from-i.ensures in
    let placed = sym c.is_before.ensures ∙ c.if-not-is_before.false in
    let known = position_of_lem _ _ _ c.requires.1 a.u c.requires.2 (a.k + 1) (omega (arith, c.requires.0.1)) placed in
    (omega (arith, position, known.0), omega (arith, position, known.1))

pub returns : goal.returns
returns c =
    let a = c.args in
    let n = a.contour.now in
    let u = c.from-i.ensures in
    let position = c.from.ensures ∙ ap (λ (n : ℕ). get_or a.rank.now n 0) u in
    let placed = sym c.is_before.ensures ∙ c.if-not-is_before.false in
    let known = position_of_lem _ _ _ c.requires.1 a.u c.requires.2 (a.k + 1) (omega (arith, c.requires.0.1)) placed in
    let ends = c.ends_of-ends.ensures in
    let is : post (listed a.runs) c.from.result ≡ a.u = ap (post (listed a.runs)) position ∙ known.2 in
    record_placed (board a.runs) (listed a.runs) a.rank.now a.k a.xs.now n.ys.now n.cover.now n.left.now n.right.now a.u
    c.is_before.result c.is_before.ensures (ap not c.if-not-is_before.false) _ u _ c.standing_at.ensures _ _
    (rw is at ends.0) (rw is at ends.1)
