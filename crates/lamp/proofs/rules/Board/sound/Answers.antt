use mathlib.Core.Path.{◌∙◌}
use mathlib.Core.List.{◌++◌}
use Rattle.std.proofs.lemmas.Result.{err_from_is_err_and}
use Rattle.lamp.specs.Lamp.{ring_rows, triangle_rows, outer_rows}
use Rattle.lamp.specs.Given.{nothing}
use Rattle.lamp.proofs.Tried.{stops, goes_on}
use Rattle.lamp.proofs.rules.Board.sound.Goals as goal

pub returns-in_err-rings : goal.returns-in_err-rings
returns-in_err-rings c =
    let p = err_from_is_err_and c.from_residual.result c.from_residual.ensures.1 in
    rw (p.1, p.2) (stops _ nothing ring_rows _ c.rings.ensures nothing (triangle_rows ++ outer_rows) _ c.in_err-rings.was)

pub returns-in_err-triangles : goal.returns-in_err-triangles
returns-in_err-triangles c =
    let p = err_from_is_err_and c.from_residual-in_err-triangles.result c.from_residual-in_err-triangles.ensures.1 in
    rw (p.1, p.2)
    (stops _ nothing triangle_rows _ c.triangles.ensures nothing outer_rows _ c.in_err-triangles.was
    ∙ goes_on _ nothing ring_rows _ c.rings.ensures nothing (triangle_rows ++ outer_rows) _ c.in_ok-rings.was)

pub returns : goal.returns
returns c =
    c.outer.ensures
    ∙ goes_on _ nothing triangle_rows _ c.triangles.ensures nothing outer_rows _ c.in_ok-triangles.was
    ∙ goes_on _ nothing ring_rows _ c.rings.ensures nothing (triangle_rows ++ outer_rows) _ c.in_ok-rings.was
