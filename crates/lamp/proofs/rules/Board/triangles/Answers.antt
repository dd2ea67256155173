use Rattle.lamp.specs.Lamp.{triangle_rows}
use Rattle.lamp.specs.Given.{nothing}
use Rattle.lamp.proofs.Tried.{none_stops}
use Rattle.lamp.proofs.BoardRows.{triangle_bad, triangles_pass}
use Rattle.lamp.proofs.rules.Board.triangles.Goals as goal

pub returns-in-Some : goal.returns-in-Some
returns-in-Some c = triangle_bad _ _ _ _ c.args.self.trimmed _ c.first_bad_triangle.ensures _ c.in-Some.is

pub returns-in-None : goal.returns-in-None
returns-in-None c =
    none_stops _ nothing triangle_rows (triangles_pass _ _ _ _ c.args.self.trimmed _ c.first_bad_triangle.ensures c.in-None.is)
