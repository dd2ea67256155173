use borrow.Author.Rules.{rules}
use native.Mathlib.Omega.{arith}
use mathlib.Core.Path.{◌≡◌, refl, sym, ap, ◌∙◌}
use mathlib.Core.List.{List, ◌++◌}
use Prim.Native.Nat.{ℕ}
use lib.ListN.{length, take, replicate}
use Rattle.block.specs.Layout.{limit}
use Rattle.words.specs.Numbers.{words_at}
use Rattle.words.proofs.Numbers.{words_length}
use Rattle.block.specs.Layout.{order_at}
use Rattle.block.specs.Block.{order}
use Rattle.text.proofs.Pages.{writes_then, fills, retold}
use Rattle.show.specs.Shown.{head_line, lines_to}
use Rattle.show.specs.Entered.{entry_line}
use Rattle.show.proofs.Sheets.{front_lines}
use Rattle.show.proofs.whole_sheet.Goals as goal

pub returns : goal.returns
unfolding order
returns c =
    let a = c.args in
    let s = a.b.bytes.now in
    let n = a.b.block.n in
    let long : length (take n (replicate limit 0)) ≡ n = search rules in
    let names = c.unpack.ensures ∙ ap (words_at s order_at) (long ∙ a.b.headed.is) in
    let many = ap length c.unpack.ensures ∙ words_length s _ order_at ∙ long in
    let same = ap (λ (vs : List ℕ). lines_to a.k (entry_line vs a.sheet.now)) (sym names) ∙ front_lines _ a.sheet.now a.k (omega (arith, many)) in
    let written = fills (writes_then c.head_line.ensures c.lines.ensures) refl (search rules) in
    retold a.out.now written (ap (λ (t : List ℕ). head_line n a.k ++ t) same)
