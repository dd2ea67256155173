use Rattle.text.proofs.Pages.{writes_then}
use Rattle.show.specs.Replied.{standing_text}
use Rattle.show.proofs.replies.standing.Goals as goal

pub returns-in-Waiting : goal.returns-in-Waiting
unfolding standing_text
returns-in-Waiting c = rw c.in-Waiting.is c.say.ensures

pub returns-in-OnContour : goal.returns-in-OnContour
unfolding standing_text
returns-in-OnContour c = rw c.in-OnContour.is (writes_then c.say-in-OnContour.ensures (writes_then c.spaced.ensures c.spaced-in-OnContour.ensures))

pub returns-in-Covered : goal.returns-in-Covered
unfolding standing_text
returns-in-Covered c = rw c.in-Covered.is (writes_then c.say-in-Covered.ensures c.spaced-in-Covered.ensures)
