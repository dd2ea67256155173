use Rattle.show.specs.Replied.{record_text}
use Rattle.show.proofs.replies.posted.Goals as goal

pub returns-in-Err : goal.returns-in-Err
unfolding record_text
returns-in-Err c = rw c.in-Err.is c.refusal.ensures
