use Rattle.text.proofs.Pages.{writes_then}
use Rattle.show.specs.Shown.{refusal_text}
use Rattle.show.proofs.refusal.Goals as goal

pub returns : goal.returns
unfolding refusal_text
returns c = let t = c.told-told.ensures in rw (← t.0, ← t.1) (writes_then c.say.ensures (writes_then c.spaced.ensures c.spaced-2.ensures))
