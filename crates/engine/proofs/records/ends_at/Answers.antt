use Rattle.std.proofs.Common.{◌≡◌, ℕ, ◌+◌, ◌*◌, ◌-◌, List, ◌++◌, drop, ap, ◌∙◌, arith}
use Rattle.placing.proofs.Writing.{write_start, write_done, write_again}
use Rattle.engine.proofs.Ending.{ends_are}
use Rattle.engine.proofs.Known.{once, with_plan}
use Rattle.engine.proofs.records.ends_at.Goals as goal

pub loop-j-init : goal.loop-j-init
loop-j-init c = write_start _ _ _ _ _

pub loop-j-preserved : goal.loop-j-preserved
loop-j-preserved c =
    let told = c.ends_of-ends.ensures in
    let one : c.loop-j.j + 1 - 1 ≡ c.loop-j.j = omega arith in
    write_again c.loop-j.invariant (omega arith) c.requires.0.1 c.requires.1 (rw one at told.0) (rw one at told.1)

pub returns : goal.returns
returns c =
    let a = c.args in
    write_done c.loop-j.invariant (omega arith)
    ∙ ap (λ (r : List ℕ). r ++ drop (2 * a.k) a.buffer.now) (with_plan a.runs (hlevel once) (λ A. ends_are _ _ _ A a.k c.requires.0.1))
