use Rattle.std.proofs.Common.{◌+◌, ◌-◌, ◌++◌, length, take, rules, arith, ap, ◌∙◌, sym, subst, le_refl}
use Rattle.std.proofs.lemmas.Slice.{take-put_mid_below}
use Rattle.std.proofs.KnownBytes.{Consumes-trans}
use Rattle.std.specs.Io.KnownBytes.{Consumes}
use borrow.Rule.Slice.PartMut.{put_mid}
use Rattle.show.proofs.Reading.{take_split, read_part}
use Rattle.show.proofs.input.read_block.Goals as goal

pub loop-done-preserved : goal.loop-done-preserved
loop-done-preserved g c =
    let from = c.loop-done.done in
    let old = c.loop-done.block in
    let room = length old - from in
    let within = c.loop-done.invariant.0 in
    let part = read_part from room c.in-Ok.n old c.read.new.buf within c.in-Ok.ensures.bound.0 in
    let kept = take-put_mid_below _ _ _ _ _ (le_refl _) within in
    let joined = take_split from (from + c.in-Ok.n) old (put_mid from room old c.read.new.buf) (omega arith) kept in (
      search rules,
      subst (Consumes _ _) (ap (λ l. take from old ++ l) (sym part) ∙ joined) (Consumes-trans _ _ _ _ _ c.loop-done.invariant.1 c.in-Ok.ensures.bytes.0),
    )
