use native.Mathlib.Omega.{arith}
use mathlib.Core.Path.{refl, sym, ◌∙◌}
use native.Mathlib.Nat.{zero-min}
use lib.ListN.{get_or, take}
use Rattle.std.proofs.lemmas.List.{take_more}
use Rattle.text.specs.Letters.{all_digits, value_after}
use Rattle.text.proofs.Reading.{value_last, digits_last, said_other, digit_test, digit_more}
use Rattle.text.proofs.said.Goals as goal

pub loop-c-init : goal.loop-c-init
unfolding value_after all_digits
loop-c-init c = record { read = sym (zero-min _); digits = refl }

pub returns-then-not-contains : goal.returns-then-not-contains
returns-then-not-contains c =
    let new = c.new.ensures in
    let d = get_or c.args.word.now c.loop-c.c-index 0 in
    let digit = digit_test _ _ d (omega (arith, new.start)) (omega (arith, new.end)) in
    said_other _ _ c.loop-c.c-index c.loop-c-test.true (digit ∙ sym (rw new.exhausted at c.contains.ensures.value) ∙ c.if-not-contains.true)

pub loop-c-preserved : goal.loop-c-preserved
loop-c-preserved c =
    let loop = c.loop-c in
    let w = c.args.word.now in
    let new = c.new.ensures in
    let d = get_or w loop.c-index 0 in
    let digit = digit_test _ _ d (omega (arith, new.start)) (omega (arith, new.end)) in
    let is = digit ∙ sym (rw new.exhausted at c.contains.ensures.value) ∙ c.if-not-contains.false in
    let more = take_more w loop.c-index 0 c.loop-c-test.true in
    record {
      read = rw (more, value_last 0 (take loop.c-index w) d) (c.min-said.ensures ∙ rw c.from.ensures (digit_more _ _ _ _ loop.invariant.read is));
      digits = rw more (digits_last (take loop.c-index w) d loop.invariant.digits is);
    }
