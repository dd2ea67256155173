use borrow.Author.Rules.{rules}
use mathlib.Core.Path.{◌≡◌, refl, ap, ◌∙◌}
use lib.ListN.{length, take, replicate}
use Rattle.words.specs.Numbers.{words_at}
use Rattle.words.proofs.Numbers.{words_length}
use Rattle.block.specs.Layout.{limit, order_at}
use Rattle.block.specs.Block.{order}
use Rattle.text.proofs.Pages.{fills, retold}
use Rattle.fits.proofs.whole_fit.Goals as goal

pub returns : goal.returns
unfolding order
returns c =
    let a = c.args in
    let s = a.b.bytes.now in
    let n = a.b.block.n in
    let long : length (take n (replicate limit 0)) ≡ n = search rules in
    let names = c.unpack.ensures ∙ ap (words_at s order_at) (long ∙ a.b.headed.is) in
    let many = ap length c.unpack.ensures ∙ words_length s _ order_at ∙ long in
    let written = fills c.fit_lines.ensures refl (search rules) in
    retold a.out.now written (rw (many, names) refl)
