use Rattle.std.proofs.Common.{◌∙◌}
use Rattle.engine.proofs.Told.{record_is, record_ready}
use Rattle.engine.proofs.Known.{once, with_plan}
use Rattle.engine.proofs.records.post_at.Goals as goal

pub record_at-requires : goal.record_at-requires
record_at-requires c =
    let pre = c.requires in
    let room = with_plan c.args.runs (hlevel once) (λ A. record_ready A pre.0.0 pre.0.1 c.draw.ensures.columned _ pre.3) in
    (pre.0, pre.4, pre.3, room)

pub returns-clause-record : goal.returns-clause-record
returns-clause-record c =
    let pre = c.requires in
    c.record_at.ensures
    ∙ with_plan c.args.runs (hlevel once) (λ A. record_is A pre.0.0 pre.0.1 c.draw.ensures.columned pre.4 _ pre.3)
