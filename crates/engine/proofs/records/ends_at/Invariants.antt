use Rattle.placing.specs.Records.{fit_left, fit_right}
use Rattle.placing.proofs.Writing.{Writing}
use Rattle.engine.specs.Lent.{board, listed}
use Rattle.engine.proofs.records.ends_at.Given as goal

abbrev pub invariant-loop-j : goal.invariant-loop-j
invariant-loop-j l =
    Writing (fit_left (board l.runs) (listed l.runs)) (fit_right (board l.runs) (listed l.runs)) (listed l.runs) l.k l.initial.buffer l.buffer l.j
