use Rattle.std.proofs.Common.{rules}
use Rattle.engine.proofs.ReadColumns.{readable, drawn}
use Rattle.engine.proofs.Known.{once, with_plan}
use Rattle.engine.proofs.draw.Goals as goal

pub columns-requires : goal.columns-requires
columns-requires c =
    with_plan c.args.runs (hlevel once) (λ A. readable A c.requires.0.0 c.requires.0.1 c.reach.ensures.holds _ c.requires.2)

pub returns-clause-columned : goal.returns-clause-columned
returns-clause-columned c =
    with_plan c.args.runs (hlevel once) (λ A.
    drawn A c.requires.0.0 c.requires.0.1 c.reach.ensures.holds _ c.requires.2 c.columns.ensures (search rules))
