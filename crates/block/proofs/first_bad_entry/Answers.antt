use Rattle.std.proofs.Common.{◌≡◌, ◌+◌, arith, true, below_more, length}
use Rattle.std.proofs.lemmas.Bool.Decides.{nat_tests}
use Rattle.words.proofs.First.{found_first, found_none}
use Rattle.block.specs.Block.{bad_entry}
use Rattle.block.proofs.Laws.{entry_test, unmarked, mark_more}
use Rattle.block.proofs.first_bad_entry.Goals as goal
use Rattle.block.proofs.first_bad_entry.Goals.{then-n-a-via-then-n-a, then-n-a-via-else-n-a+then-marks-a-eq1}

pub loop-i-init : goal.loop-i-init
loop-i-init c = record { marked = unmarked _ _ c.requires.2; before = λ j h k. absurd (omega arith) }

pub returns-then-n-a : goal.returns-then-n-a
returns-then-n-a c =
    let l = c.args.vs.now in
    let k = c.loop-i.i + 1 in
    let test = entry_test l c.loop-i.marks c.loop-i.i c.from-a.result c.from-a.ensures c.loop-i.invariant.marked in
    let bad : bad_entry (length l) l k ≡ true =
    elim c.then-n-a.branch [ then-n-a-via-then-n-a w ↦ grind (arith, nat_tests) | then-n-a-via-else-n-a+then-marks-a-eq1 w ↦ grind (arith, nat_tests) ] in
    found_first _ 1 (length l) k (omega arith) (omega arith) (λ j g h. c.loop-i.invariant.before j h g) bad

pub loop-i-preserved : goal.loop-i-preserved
loop-i-preserved c =
    let l = c.args.vs.now in
    let is = c.from-a.ensures in
    let marked = c.loop-i.invariant.marked in
    let test = entry_test l c.loop-i.marks c.loop-i.i c.from-a.result is marked in record {
      marked = mark_more l c.loop-i.marks c.loop-i.i c.from-a.result is marked (omega arith) (omega arith);
      before = below_more _ _ c.loop-i.invariant.before (λ _. grind (arith, nat_tests));
    }

pub returns : goal.returns
returns c = found_none _ 1 (length c.args.vs.now) (λ j g h. c.loop-i.invariant.before j (omega arith) g)
