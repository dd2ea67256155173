use mathlib.Core.Path.{ap, ◌∙◌}
use mathlib.Core.List.{◌++◌}
use Rattle.std.proofs.lemmas.Result.{err_from_is_err_and}
use Rattle.block.specs.Block.{posts}
use Rattle.lamp.specs.Lamp.{opening_rows, size_rows, sum_rows}
use Rattle.lamp.specs.Given.{accepted, nothing}
use Rattle.lamp.proofs.Tried.{counts, none_applied, stops, goes_on, stops_last, passes_last}
use Rattle.lamp.proofs.Heads.{size_headed}
use Rattle.lamp.proofs.frame.header.Goals as goal

pub returns-in_err-n : goal.returns-in_err-n
returns-in_err-n c =
    let p = err_from_is_err_and c.from_residual.result c.from_residual.ensures.1 in
    rw (p.1, p.2) (stops _ posts opening_rows _ c.opening.ensures posts (size_rows ++ sum_rows) _ c.in_err-n.was)

pub sized-requires : goal.sized-requires
sized-requires c = c.from.ensures ∙ counts _ posts opening_rows _ c.opening.ensures _ c.in_ok-n.was

pub returns-in_err-sized : goal.returns-in_err-sized
returns-in_err-sized c =
    let p = err_from_is_err_and c.from_residual-in_err-sized.result c.from_residual-in_err-sized.ensures.1 in
    rw (p.1, p.2)
    (stops _ nothing size_rows _ c.sized.ensures posts sum_rows _ c.in_err-sized.was
    ∙ goes_on _ posts opening_rows _ c.opening.ensures posts (size_rows ++ sum_rows) _ c.in_ok-n.was)

pub invariant_of-summed : goal.invariant_of-summed
invariant_of-summed c =
    let is = c.from.ensures ∙ counts _ posts opening_rows _ c.opening.ensures _ c.in_ok-n.was in
    record { headed = size_headed _ _ is (none_applied _ nothing size_rows _ c.sized.ensures _ c.in_ok-sized.was) }

pub returns-in_err-summed : goal.returns-in_err-summed
returns-in_err-summed c =
    let p = err_from_is_err_and c.from_residual-in_err-summed.result c.from_residual-in_err-summed.ensures.1 in
    rw (p.1, p.2)
    (stops_last _ nothing sum_rows _ c.summed.ensures posts _ c.in_err-summed.was
    ∙ goes_on _ nothing size_rows _ c.sized.ensures posts sum_rows _ c.in_ok-sized.was
    ∙ goes_on _ posts opening_rows _ c.opening.ensures posts (size_rows ++ sum_rows) _ c.in_ok-n.was)

pub returns : goal.returns
returns c =
    ap accepted (counts _ posts opening_rows _ c.opening.ensures _ c.in_ok-n.was)
    ∙ passes_last _ nothing sum_rows _ c.summed.ensures posts _ c.in_ok-summed.was
    ∙ goes_on _ nothing size_rows _ c.sized.ensures posts sum_rows _ c.in_ok-sized.was
    ∙ goes_on _ posts opening_rows _ c.opening.ensures posts (size_rows ++ sum_rows) _ c.in_ok-n.was
