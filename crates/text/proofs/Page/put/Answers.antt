use mathlib.Core.Path.{refl, sym}
use Rattle.text.proofs.Writing.{put_in, put_out}
use Rattle.text.specs.Filling.{write}
use Rattle.text.proofs.Page.put.Goals as goal

pub returns-then-self : goal.returns-then-self
unfolding write
returns-then-self c = record { same = refl; text = sym (put_in _ _ _ c.if-self.true) }

pub returns-else-self : goal.returns-else-self
unfolding write
returns-else-self c = record { same = refl; text = sym (put_out _ _ _ c.if-self.false) }
