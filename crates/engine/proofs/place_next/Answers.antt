use Rattle.std.proofs.Common.{◌+◌, arith, refl, ◌∙◌}
use Rattle.engine.proofs.NextPost.{next_ready, next_holds}
use Rattle.engine.proofs.Ending.{many_is, kept_run}
use Rattle.engine.proofs.Known.{once, with_runs}
use Rattle.engine.proofs.place_next.Goals as goal

pub of_run-first-requires : goal.of_run-first-requires
of_run-first-requires c =
    with_runs c.args.runs (hlevel once) (λ A R.
    let many = many_is A (c.args.k + 1) (omega arith) (omega arith) R (omega arith) c.args.k refl (record { begin = 0; many = 0 }) in
    kept_run A (c.args.k + 1) (omega arith) (omega arith) R (omega arith) _ refl _ (omega (arith, many.0)))

pub place_over-requires : goal.place_over-requires
place_over-requires c =
    with_runs c.args.runs (hlevel once) (λ A R.
    let many = many_is A (c.args.k + 1) (omega arith) (omega arith) R (omega arith) c.args.k refl (record { begin = 0; many = 0 }) in
    next_ready A c.requires.0 c.requires.1 refl c.of_run-first.ensures (c.from.ensures ∙ many.1) c.requires.2)

pub returns-clause-holds : goal.returns-clause-holds
returns-clause-holds c =
    with_runs c.args.runs (hlevel once) (λ A R.
    let many = many_is A (c.args.k + 1) (omega arith) (omega arith) R (omega arith) c.args.k refl (record { begin = 0; many = 0 }) in
    next_holds A c.requires.0 c.requires.1 refl c.of_run-first.ensures (c.from.ensures ∙ many.1) c.requires.2 c.place_over.ensures.over)
