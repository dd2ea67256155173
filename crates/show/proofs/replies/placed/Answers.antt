use Rattle.text.proofs.Pages.{writes_then}
use Rattle.show.specs.Replied.{record_text}
use Rattle.show.proofs.replies.placed.Goals as goal

pub returns : goal.returns
unfolding record_text
returns c =
    let ends = writes_then c.say-2.ensures (writes_then c.spaced-3.ensures c.spaced-4.ensures) in
    writes_then c.say.ensures (writes_then c.spaced.ensures (writes_then c.spaced-2.ensures (writes_then c.standing.ensures ends)))
