use borrow.Author.Rules.{rules}
use mathlib.Core.Path.{refl, sym, ap}
use mathlib.Core.List.{List, ◌++◌}
use Prim.Native.Nat.{ℕ}
use Rattle.text.specs.Letters.{newline}
use Rattle.text.proofs.Pages.{writes_then, fills, retold}
use Rattle.show.specs.Replied.{record_text, post_reply_line}
use Rattle.show.proofs.replies.reply_of_post.Goals as goal

pub returns : goal.returns
unfolding post_reply_line
returns c =
    let line = writes_then c.posted.ensures c.put.ensures in
    retold c.args.out.now (fills line refl (search rules)) (ap (λ (t : List ℕ). t ++ newline) (sym (ap record_text c.post.ensures)))
