use Rattle.text.proofs.Pages.{writes_then}
use Rattle.show.specs.Replied.{answer_text}
use Rattle.show.proofs.replies.answer.Goals as goal

pub returns-in-Err : goal.returns-in-Err
unfolding answer_text
returns-in-Err c = rw c.in-Err.is c.refusal.ensures

pub returns-in-Ok : goal.returns-in-Ok
unfolding answer_text
returns-in-Ok c = rw c.in-Ok.is (writes_then c.say.ensures c.spaced.ensures)
