use Rattle.std.proofs.Common.{ℕ, List, ◌++◌, ◌*◌, get_or, take, drop, ap, sym, ◌∙◌, rules}
use Rattle.std.proofs.lemmas.List.{get_or-take}
use Rattle.placing.proofs.Writing.{write_start, write_done, write_again, pairs_twos}
use Rattle.placing.proofs.write_sheet.Goals as goal

pub loop-i-init : goal.loop-i-init
loop-i-init c = write_start _ _ _ _ _

pub loop-i-preserved : goal.loop-i-preserved
loop-i-preserved c =
    let u = c.from-u.ensures ∙ get_or-take c.args.k c.args.vs.now c.loop-i.i 0 (search rules) in
    write_again c.loop-i.invariant (search rules) c.requires.0 c.requires.2
    (ap (λ (n : ℕ). get_or c.args.xs.now n 0) u) (ap (λ (n : ℕ). get_or c.args.ys.now n 0) u)

pub returns : goal.returns
returns c =
    let a = c.args in
    write_done c.loop-i.invariant (search rules)
    ∙ ap (λ (r : List ℕ). r ++ drop (2 * a.k) a.buffer.now) (sym (pairs_twos a.xs.now a.ys.now (take a.k a.vs.now)))
