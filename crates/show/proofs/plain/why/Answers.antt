use native.Mathlib.Omega.{arith}
use mathlib.Core.Path.{sym, ap, ◌∙◌}
use Rattle.lamp.specs.Given.{reply_of}
use Rattle.lamp.proofs.Accepts.{accepted_posts, accepted_framed}
use Rattle.text.proofs.Pages.{retold}
use Rattle.show.proofs.Whys.{why_accepted, stated, why_refused}
use Rattle.show.proofs.plain.why.Goals as goal

pub accepted_line-requires : goal.accepted_line-requires
accepted_line-requires c =
    let s = c.args.s.now in
    let accepts = sym c.check.ensures ∙ ap reply_of c.in-Ok.is in
    let F = accepted_framed s _ accepts in
    let n = accepted_posts s _ accepts in
    (omega (arith, n, F.posts_least), omega (arith, n, F.posts_most))

pub returns-in-Err : goal.returns-in-Err
returns-in-Err c =
    let a = c.args in
    let refuses = sym c.check.ensures ∙ ap reply_of c.in-Err.is in
    retold a.out.now c.refused_line.ensures (why_refused a.s.now _ _ _ refuses (λ h. rw c.unwrap_or.ensures (stated _ c.stated_posts.ensures h)))

pub returns-in-Ok : goal.returns-in-Ok
returns-in-Ok c =
    let a = c.args in
    let accepts = sym c.check.ensures ∙ ap reply_of c.in-Ok.is in
    retold a.out.now c.accepted_line.ensures (why_accepted a.s.now _ accepts)
