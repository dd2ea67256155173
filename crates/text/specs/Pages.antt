-- A page: a lent buffer that is filled with text from its start on.
use Rattle.std.specs.Prelude.{◌≡◌, List, ℕ, length}
use Rattle.text.specs.declared.Page.{Page}
use Rattle.text.specs.Filling.{Filling, filling, write}

-- how far it is filled, and its bytes
abbrev pub filled : Page → Filling
filled p = filling p.at p.out.now

-- the page q is the page p with this text more, over the same buffer
pub record Writes (p : Page) (t : List ℕ) (q : Page) : Type 0 where
  pub same : q.out.ghost_name ≡ p.out.ghost_name
  pub text : filled q ≡ write (filled p) t

-- a contract of text fixes the page after it: two that meet it, whatever page and text they were given, have the same buffer, filled as far;
-- and the buffer keeps its length
pub record OnePage : Type 0 where
  pub same : (p q r : Page) (t : List ℕ) → Writes p t q → Writes p t r → (q.at ≡ r.at) × (q.out.now ≡ r.out.now)
  pub long : (p q : Page) (t : List ℕ) → Writes p t q → length q.out.now ≡ length p.out.now
