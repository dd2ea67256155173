use mathlib.Core.Path.{sym, ap, ◌∙◌}
use Rattle.words.specs.Numbers.{sum_of}
use Rattle.lamp.specs.Lamp.{degree_rows}
use Rattle.lamp.specs.Given.{nothing}
use Rattle.lamp.proofs.Tried.{none_stops}
use Rattle.lamp.proofs.Loads.{degree_bad, total_bad, degrees_pass}
use Rattle.lamp.proofs.degrees_in.Goals as goal

pub returns-in-Some : goal.returns-in-Some
returns-in-Some c =
    let read = c.read_degrees.ensures in
    (degree_bad _ _ c.args.b.headed.is _ (sym c.in-Some.is ∙ read.fault), read.read)

pub returns-then-total-entries : goal.returns-then-total-entries
returns-then-total-entries c =
    let read = c.read_degrees.ensures in
    let none = sym c.in_default.is ∙ read.fault in
    let total = c.total.ensures ∙ ap sum_of read.read in
    (total_bad _ _ c.args.b.headed.is none (λ q. c.if-total-entries.true (total ∙ q ∙ sym c.entries.ensures)), read.read)

pub returns : goal.returns
returns c =
    let read = c.read_degrees.ensures in
    let none = sym c.in_default.is ∙ read.fault in
    let total = sym (c.total.ensures ∙ ap sum_of read.read) ∙ c.if-total-entries.false ∙ c.entries.ensures in
    (none_stops _ nothing degree_rows (degrees_pass _ _ c.args.b.headed.is none total), read.read)
