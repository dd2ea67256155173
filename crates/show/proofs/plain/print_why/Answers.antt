use Rattle.show.proofs.Lengths.{held}
use Rattle.show.proofs.Whys.{why_length}
use Rattle.show.proofs.plain.print_why.Goals as goal

pub returns : goal.returns
returns g c = rw (← (held _ _ _ _ _ (why_length _) c.no_text-out.ensures c.why-n.ensures).1) c.print.ensures
