use native.Mathlib.Omega.{arith}
use mathlib.Core.Path.{◌≡◌, sym, ap, ◌∙◌}
use Rattle.block.specs.Block.{posts}
use Rattle.lamp.specs.Given.{reply_of}
use Rattle.text.proofs.Pages.{retold}
use Rattle.show.proofs.Sheets.{headed, at_most, none_of, sheet_refuses, sheet_accepts}
use Rattle.show.proofs.sheet.Goals as goal

pub word-requires : goal.word-requires
word-requires c =
    let a = c.args in
    let accepts = sym c.sheet.ensures.0 ∙ ap reply_of c.in-Ok.is in
    let H = headed a.s.now a.k (none_of a.s.now a.k _ _ accepts) in
    omega (arith, H.sized, H.least)

pub invariant_of-body : goal.invariant_of-body
invariant_of-body c =
    let a = c.args in
    let accepts = sym c.sheet.ensures.0 ∙ ap reply_of c.in-Ok.is in
    let n : c.from-n.result ≡ posts a.s.now = c.from-n.ensures ∙ c.word.ensures in
    record { headed = rw n (headed a.s.now a.k (none_of a.s.now a.k _ _ accepts)) }

pub whole_sheet-requires : goal.whole_sheet-requires
whole_sheet-requires c =
    let a = c.args in
    let accepts = sym c.sheet.ensures.0 ∙ ap reply_of c.in-Ok.is in
    let none = none_of a.s.now a.k _ _ accepts in
    let n : c.from-n.result ≡ posts a.s.now = c.from-n.ensures ∙ c.word.ensures in
    (omega (arith, n, at_most a.s.now a.k none), omega (arith, at_most a.s.now a.k none, (headed a.s.now a.k none).most))

pub returns-in-Err : goal.returns-in-Err
returns-in-Err c =
    let a = c.args in
    let refuses = sym c.sheet.ensures.0 ∙ ap reply_of c.in-Err.is in
    retold a.out.now c.refused.ensures (sheet_refuses a.s.now a.k _ (sym c.blank-b.ensures) _ _ refuses)

pub returns-in-Ok : goal.returns-in-Ok
returns-in-Ok c =
    let a = c.args in
    let accepts = sym c.sheet.ensures.0 ∙ ap reply_of c.in-Ok.is in
    let n = c.from-n.ensures ∙ c.word.ensures in
    let after = c.sheet.ensures.1 in
    retold a.out.now c.whole_sheet.ensures (rw after (sheet_accepts a.s.now a.k _ _ accepts _ n))
