use Rattle.show.proofs.Lengths.{held, stage_length}
use Rattle.show.proofs.print_stage.Goals as goal

pub returns : goal.returns
returns g c = rw (← (held _ _ _ _ _ (stage_length _ _) c.no_text-out.ensures c.stage-n.ensures).1) c.print.ensures
