use borrow.Author.Rules.{rules}
use mathlib.Core.Path.{refl, ap}
use Rattle.text.proofs.Pages.{writes_then, fills, retold}
use Rattle.show.specs.Replied.{answer_text, sheet_reply_line}
use Rattle.show.proofs.replies.reply_of_sheet.Goals as goal

pub returns : goal.returns
unfolding sheet_reply_line
returns c =
    let after = c.sheet.ensures.1 in
    let reply = ap answer_text c.sheet.ensures.0 in
    let line = writes_then c.answer.ensures (writes_then c.say.ensures (writes_then c.numbers.ensures c.put.ensures)) in
    (retold c.args.out.now (fills line refl (search rules)) (rw (← reply, ← after) refl), after)
