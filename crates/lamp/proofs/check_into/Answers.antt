use mathlib.Core.Path.{ap, ◌∙◌}
use mathlib.Core.List.{◌++◌}
use Rattle.std.proofs.lemmas.Result.{err_from_is_err_and, IfOk-at_ok}
use Rattle.block.specs.Block.{posts}
use Rattle.lamp.specs.Lamp.{header_rows, sum_rows, order_rows, degree_rows}
use Rattle.lamp.specs.Given.{accepted, nothing}
use Rattle.lamp.specs.Loaded.{load_rows, loaded_rows}
use Rattle.lamp.proofs.Given.{none_left}
use Rattle.lamp.proofs.Tried.{counts, none_applied, stops, goes_on, stops_last, passes_last}
use Rattle.lamp.proofs.Heads.{framed_headed}
use Rattle.lamp.proofs.Loads.{entered}
use Rattle.lamp.proofs.BoardRows.{whole_table}
use Rattle.lamp.proofs.check_into.Goals as goal

pub returns-in_err-n-clause-reply : goal.returns-in_err-n-clause-reply
returns-in_err-n-clause-reply c =
    let s = c.args.s.now in
    let p = err_from_is_err_and c.from_residual.result c.from_residual.ensures.1 in
    rw (p.1, p.2) (stops s posts (header_rows ++ sum_rows) _ c.header.ensures posts (load_rows ++ loaded_rows s) _ c.in_err-n.was ∙ whole_table s)

pub invariant_of-b : goal.invariant_of-b
invariant_of-b c =
    let rows = header_rows ++ sum_rows in
    let is = c.from.ensures ∙ counts _ posts rows _ c.header.ensures _ c.in_ok-n.was in
    record { headed = framed_headed _ _ is (none_applied _ posts rows _ c.header.ensures _ c.in_ok-n.was) }

pub returns-in_err-load-clause-reply : goal.returns-in_err-load-clause-reply
returns-in_err-load-clause-reply c =
    let s = c.args.s.now in
    let p = err_from_is_err_and c.from_residual-in_err-load.result c.from_residual-in_err-load.ensures.1 in
    rw (p.1, p.2)
    (stops s nothing load_rows _ c.load.ensures.reply posts (loaded_rows s) _ c.in_err-load.was
    ∙ goes_on s posts (header_rows ++ sum_rows) _ c.header.ensures posts (load_rows ++ loaded_rows s) _ c.in_ok-n.was
    ∙ whole_table s)

pub loaded-requires : goal.loaded-requires
loaded-requires c =
    let s = c.args.s.now in
    let none = none_applied s nothing load_rows _ c.load.ensures.reply _ c.in_ok-load.was in
    (IfOk-at_ok _ c.in_ok-load.was c.load.ensures.kept, entered s (none_left order_rows degree_rows s none), c.requires.1)

pub returns-in_err-loaded-clause-reply : goal.returns-in_err-loaded-clause-reply
returns-in_err-loaded-clause-reply c =
    let s = c.args.s.now in
    let p = err_from_is_err_and c.from_residual-in_err-loaded.result c.from_residual-in_err-loaded.ensures.1 in
    rw (p.1, p.2)
    (stops_last s nothing (loaded_rows s) _ c.loaded.ensures.reply posts _ c.in_err-loaded.was
    ∙ goes_on s nothing load_rows _ c.load.ensures.reply posts (loaded_rows s) _ c.in_ok-load.was
    ∙ goes_on s posts (header_rows ++ sum_rows) _ c.header.ensures posts (load_rows ++ loaded_rows s) _ c.in_ok-n.was
    ∙ whole_table s)

pub returns-clause-reply : goal.returns-clause-reply
returns-clause-reply c =
    let s = c.args.s.now in
    ap accepted (counts s posts (header_rows ++ sum_rows) _ c.header.ensures _ c.in_ok-n.was)
    ∙ passes_last s nothing (loaded_rows s) _ c.loaded.ensures.reply posts _ c.in_ok-loaded.was
    ∙ goes_on s nothing load_rows _ c.load.ensures.reply posts (loaded_rows s) _ c.in_ok-load.was
    ∙ goes_on s posts (header_rows ++ sum_rows) _ c.header.ensures posts (load_rows ++ loaded_rows s) _ c.in_ok-n.was
    ∙ whole_table s
