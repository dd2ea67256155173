use Rattle.std.proofs.Common.{◌-◌, arith}
use Rattle.order.specs.declared.Run.{Run}
use Rattle.engine.proofs.Ending.{first_two, many_is, kept_run, left_is, right_is}
use Rattle.engine.proofs.Known.{once, with_plan, with_runs}
use Rattle.engine.proofs.records.ends_of.Goals as goal

abbrev none : Run
none = record { begin = 0; many = 0 }

pub returns-then-j-lt3 : goal.returns-then-j-lt3
returns-then-j-lt3 c =
    with_plan c.args.runs (hlevel once) (λ A. first_two A c.args.j c.requires.0 c.requires.1 (omega arith))

pub of_run-requires : goal.of_run-requires
of_run-requires c =
    with_runs c.args.runs (hlevel once) (λ A R.
    let many = many_is A c.args.j c.requires.0 c.requires.1 R (omega arith) (c.args.j - 1) (omega arith) none in
    kept_run A c.args.j c.requires.0 c.requires.1 R (omega arith) (c.args.j - 1) (omega arith) _ (omega (arith, many.0)))

pub overflow_sub-from : goal.overflow_sub-from
overflow_sub-from c =
    with_runs c.args.runs (hlevel once) (λ A R.
    let many = many_is A c.args.j c.requires.0 c.requires.1 R (omega arith) (c.args.j - 1) (omega arith) none in
    omega (arith, many.0, many.1, c.from.ensures))

pub of_run-requires-2 : goal.of_run-requires-2
of_run-requires-2 c =
    with_runs c.args.runs (hlevel once) (λ A R.
    let many = many_is A c.args.j c.requires.0 c.requires.1 R (omega arith) (c.args.j - 1) (omega arith) none in
    kept_run A c.args.j c.requires.0 c.requires.1 R (omega arith) (c.args.j - 1) (omega arith) _ (omega (arith, many.0, many.1, c.from.ensures)))

pub returns : goal.returns
returns c =
    with_runs c.args.runs (hlevel once) (λ A R. (
      left_is A c.args.j c.requires.0 c.requires.1 (omega arith) c.of_run.ensures,
      right_is A c.args.j c.requires.0 c.requires.1 R (omega arith) (c.args.j - 1) (omega arith) _ c.from.ensures c.of_run-2.ensures,
    ))
