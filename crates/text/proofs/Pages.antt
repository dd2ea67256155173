-- Pages: text after text is one text.
use Prim.Native.Nat.{ℕ}
use mathlib.Core.Path.{◌≡◌, refl, sym, ap, ◌∙◌}
use mathlib.Core.List.{List, [], ◌++◌}
use lib.ListN.{length}
use Rattle.text.specs.declared.Page.{Page}
use Rattle.text.specs.Filling.{Filling, filling, write, filled_with}
use Rattle.text.specs.Pages.{filled, Writes, OnePage}
use Rattle.text.proofs.Writing.{write_none, write_then, write_length, written, one_filling}

pub writes_none : (p : Page) → Writes p [] p
writes_none p = record { same = refl; text = sym (write_none _) }

pub writes_then : {p q r : Page} {t u : List ℕ} → Writes p t q → Writes q u r → Writes p (t ++ u) r
writes_then {p = p} {t = t} {u = u} a b = record { same = b.same ∙ a.same; text = write_then (filled p) t u a.text b.text }

-- the buffer of a page that was new, once it is back, holds this text
pub fills : {p q : Page} {t after : List ℕ} → Writes p t q → p.at ≡ 0 → after ≡ q.out.now → filling q.at after ≡ filled_with t p.out.now
fills {p = p} {q = q} {t = t} w new is = ap (filling q.at) is ∙ w.text ∙ rw new (written p.out.now t)

-- and so it holds any text that is the same
pub retold : {f : Filling} (b : List ℕ) {t u : List ℕ} → f ≡ filled_with t b → u ≡ t → f ≡ filled_with u b
retold b e same = e ∙ ap (λ (z : List ℕ). filled_with z b) (sym same)

pub one_page : OnePage
one_page = record {
  same = λ p q r t a b. one_filling.same (write (filled p) t) q.at r.at q.out.now r.out.now a.text b.text;
  long = λ p q t w. ap (λ (f : Filling). length f.1) w.text ∙ write_length (filled p) t;
}
