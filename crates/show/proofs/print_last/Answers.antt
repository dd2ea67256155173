use Rattle.show.proofs.Lengths.{held, last_length}
use Rattle.show.proofs.print_last.Goals as goal

pub returns : goal.returns
returns g c = rw (← (held _ _ _ _ _ (last_length _) c.no_text-out.ensures c.last_sheet-n.ensures).1) c.print.ensures
