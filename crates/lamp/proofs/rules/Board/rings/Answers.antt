use mathlib.Core.Path.{sym, ap, ◌∙◌}
use Rattle.std.proofs.lemmas.Result.{err_from_is_err_and}
use Rattle.lamp.specs.Given.{reply_of}
use Rattle.lamp.proofs.RingRows.{ring_answer}
use Rattle.lamp.proofs.BoardRows.{rings_found}
use Rattle.lamp.proofs.rules.Board.rings.Goals as goal

pub returns-in_err-first_bad_ring : goal.returns-in_err-first_bad_ring
returns-in_err-first_bad_ring c =
    let p = err_from_is_err_and c.from_residual.result c.from_residual.ensures.1 in
    rw (p.1, p.2)
    (sym (ap (λ (f : _). reply_of (ring_answer f)) c.in_err-first_bad_ring.was)
    ∙ rings_found _ _ _ _ c.args.self.trimmed _ c.first_bad_ring.ensures)

pub returns : goal.returns
returns c =
    sym (ap (λ (f : _). reply_of (ring_answer f)) c.in_ok-first_bad_ring.was)
    ∙ rings_found _ _ _ _ c.args.self.trimmed _ c.first_bad_ring.ensures
