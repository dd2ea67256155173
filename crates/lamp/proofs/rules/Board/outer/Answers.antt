use Rattle.lamp.specs.Lamp.{outer_rows}
use Rattle.lamp.specs.Given.{nothing}
use Rattle.lamp.proofs.Tried.{none_stops}
use Rattle.lamp.proofs.BoardRows.{outer_bad, outer_passes}
use Rattle.lamp.proofs.rules.Board.outer.Goals as goal

pub returns-then-not-is_outer : goal.returns-then-not-is_outer
returns-then-not-is_outer c = outer_bad _ _ _ _ c.args.self.trimmed _ c.is_outer.ensures c.if-not-is_outer.true

pub returns : goal.returns
returns c =
    none_stops _ nothing outer_rows (outer_passes _ _ _ _ c.args.self.trimmed _ c.is_outer.ensures c.if-not-is_outer.false)
