use native.Mathlib.Omega.{arith}
use mathlib.Core.Path.{sym, ap, ◌∙◌}
use Rattle.std.proofs.lemmas.Result.{err_from_is_err_and}
use Rattle.words.specs.Numbers.{sum_of}
use Rattle.block.specs.Layout.{entries}
use Rattle.lamp.specs.Lamp.{order_rows, degree_rows}
use Rattle.lamp.specs.Given.{nothing}
use Rattle.lamp.proofs.Tried.{none_applied, stops, goes_on, stops_last, passes_last}
use Rattle.lamp.proofs.Loads.{totalled}
use Rattle.lamp.proofs.load.Goals as goal

pub returns-in_err-order_in-clause-reply : goal.returns-in_err-order_in-clause-reply
returns-in_err-order_in-clause-reply c =
    let p = err_from_is_err_and c.from_residual.result c.from_residual.ensures.1 in
    rw (p.1, p.2) (stops _ nothing order_rows _ c.order_in.ensures.0 nothing degree_rows _ c.in_err-order_in.was)

pub returns-in_err-degrees_in-clause-reply : goal.returns-in_err-degrees_in-clause-reply
returns-in_err-degrees_in-clause-reply c =
    let p = err_from_is_err_and c.from_residual-in_err-degrees_in.result c.from_residual-in_err-degrees_in.ensures.1 in
    rw (p.1, p.2)
    (stops_last _ nothing degree_rows _ c.degrees_in.ensures.0 nothing _ c.in_err-degrees_in.was
    ∙ goes_on _ nothing order_rows _ c.order_in.ensures.0 nothing degree_rows _ c.in_ok-order_in.was)

pub read_lists-requires : goal.read_lists-requires
read_lists-requires c =
    let counted = c.degrees_in.ensures in
    let none = none_applied _ nothing degree_rows _ counted.0 _ c.in_ok-degrees_in.was in
    let total = ap sum_of counted.1 ∙ totalled _ none ∙ ap entries (sym c.args.b.headed.is) in
    let wide = c.args.arrays.now.wide in
    (counted.1, total, omega (arith, wide.places), omega (arith, wide.all))

pub returns-clause-reply : goal.returns-clause-reply
returns-clause-reply c =
    passes_last _ nothing degree_rows _ c.degrees_in.ensures.0 nothing _ c.in_ok-degrees_in.was
    ∙ goes_on _ nothing order_rows _ c.order_in.ensures.0 nothing degree_rows _ c.in_ok-order_in.was
