use Prim.Native.Nat.{ℕ}
use mathlib.Core.Path.{◌≡◌, sym, ap, ◌∙◌}
use lib.ListN.{take}
use Rattle.words.specs.Numbers.{word_at, wrapped}
use Rattle.block.specs.Layout.{sum_at}
use Rattle.block.specs.Block.{posts, stated_sum, earlier_sum}
use Rattle.lamp.specs.Lamp.{sum_rows}
use Rattle.lamp.specs.Given.{nothing}
use Rattle.lamp.proofs.Tried.{none_stops}
use Rattle.lamp.proofs.Heads.{other_sum, sum_passes}
use Rattle.lamp.proofs.frame.summed.Goals as goal

pub returns-then-word-sum : goal.returns-then-word-sum
returns-then-word-sum c =
    let s = c.args.b.bytes.now in
    let e : c.sum_at-e.result ≡ sum_at (posts s) = c.sum_at-e.ensures ∙ ap sum_at c.args.b.headed.is in
    let stated : c.word.result ≡ stated_sum s = c.word.ensures ∙ ap (word_at s) e in
    let added : c.sum.result ≡ earlier_sum s = c.sum.ensures ∙ ap (λ (k : ℕ). wrapped (take k s)) e in
    other_sum s (λ q. c.if-word-sum.true (stated ∙ q ∙ sym added))

pub returns : goal.returns
returns c =
    let s = c.args.b.bytes.now in
    let e : c.sum_at-e.result ≡ sum_at (posts s) = c.sum_at-e.ensures ∙ ap sum_at c.args.b.headed.is in
    let stated : c.word.result ≡ stated_sum s = c.word.ensures ∙ ap (word_at s) e in
    let added : c.sum.result ≡ earlier_sum s = c.sum.ensures ∙ ap (λ (k : ℕ). wrapped (take k s)) e in
    none_stops s nothing sum_rows (sum_passes s (sym stated ∙ c.if-word-sum.false ∙ added))
