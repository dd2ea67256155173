use native.Mathlib.Omega.{arith}
use mathlib.Core.Path.{refl, sym, ap, ◌∙◌}
use Rattle.std.proofs.lemmas.Result.{err_from_is_err_and}
use Rattle.lamp.specs.Given.{accepted, reply_of}
use Rattle.lamp.proofs.Given.{not_both}
use Rattle.text.proofs.Pages.{retold}
use Rattle.fits.proofs.Fitting.{fit_refuses, fit_headed, both_accept, fit_entered}
use Rattle.fits.proofs.lines.Goals as goal

pub returns-in_err-check-clause-refused : goal.returns-in_err-check-clause-refused
returns-in_err-check-clause-refused c =
    let p = err_from_is_err_and c.from_residual.result c.from_residual.ensures.1 in
    rw (p.1, p.2) (fit_refuses c.args.s.now _ _ (sym c.check.ensures ∙ ap reply_of c.in_err-check.was), refl)

pub returns-in_err-sheet-clause-refused : goal.returns-in_err-sheet-clause-refused
returns-in_err-sheet-clause-refused c =
    let accepts = sym c.check.ensures ∙ ap reply_of c.in_ok-check.was ∙ ap accepted (sym c.from-n.ensures) in
    let refuses = sym c.sheet.ensures.0 ∙ ap reply_of c.in_err-sheet.was in
    not_both (sym refuses ∙ both_accept c.args.s.now _ accepts _ (sym c.blank-sheet.ensures))

pub returns-in_err-ends-clause-refused : goal.returns-in_err-ends-clause-refused
returns-in_err-ends-clause-refused c =
    let accepts = sym c.check.ensures ∙ ap reply_of c.in_ok-check.was ∙ ap accepted (sym c.from-n.ensures) in
    let refuses = sym c.ends.ensures.0 ∙ ap reply_of c.in_err-ends.was in
    not_both (sym refuses ∙ both_accept c.args.s.now _ accepts _ (sym c.blank-ends.ensures))

pub invariant_of-b : goal.invariant_of-b
invariant_of-b c =
    let accepts = sym c.check.ensures ∙ ap reply_of c.in_ok-check.was ∙ ap accepted (sym c.from-n.ensures) in
    record { headed = fit_headed c.args.s.now _ accepts }

pub returns-clause-told : goal.returns-clause-told
returns-clause-told c =
    let accepts = sym c.check.ensures ∙ ap reply_of c.in_ok-check.was ∙ ap accepted (sym c.from-n.ensures) in
    let b = sym c.sheet.ensures.0 ∙ ap reply_of c.in_ok-sheet.was in
    let e = sym c.ends.ensures.0 ∙ ap reply_of c.in_ok-ends.was in
    let is = fit_entered c.args.s.now c.from-n.result accepts _ _ _ b _ e in
    retold c.args.out.now c.whole_fit.ensures (rw (c.sheet.ensures.1, c.ends.ensures.1) is)
