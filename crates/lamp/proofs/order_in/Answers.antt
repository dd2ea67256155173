use mathlib.Core.Path.{sym, ◌∙◌}
use Rattle.lamp.specs.Lamp.{order_rows}
use Rattle.lamp.specs.Given.{nothing}
use Rattle.lamp.proofs.Tried.{none_stops}
use Rattle.lamp.proofs.Loads.{entry_bad, entries_pass}
use Rattle.lamp.proofs.order_in.Goals as goal

pub returns-in-Some : goal.returns-in-Some
returns-in-Some c =
    let read = c.read_order.ensures in
    (entry_bad _ _ c.args.b.headed.is _ (sym c.in-Some.is ∙ read.fault), read.read)

pub returns-in-None : goal.returns-in-None
returns-in-None c =
    let read = c.read_order.ensures in
    (none_stops _ nothing order_rows (entries_pass _ _ c.args.b.headed.is (sym c.in-None.is ∙ read.fault)), read.read)
