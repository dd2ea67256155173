-- A lent buffer that is filled with text from its start on.
use Rattle.std.specs.Prelude.{ℕ, ◌+◌, min, ◌≡◌, cond, List, [], ◌∷◌, ◌++◌, ltb, length, take, drop, set}

-- how far it is filled, and its bytes
abbrev pub Filling : Type 0
Filling = ℕ × List ℕ

abbrev pub filling : ℕ → List ℕ → Filling
filling at b = (at, b)

-- one byte more; nothing where there is no room
unfoldable pub put : Filling → ℕ → Filling
put f c = cond (ltb f.0 (length f.1)) (f.0 + 1, set f.1 f.0 c) f

-- a text more, byte by byte
unfoldable pub write : Filling → List ℕ → Filling
write f [] = f
write f (c ∷ t) = write (put f c) t

-- a whole text in a buffer b, as far as it has room: so much of it, and what stood behind it stays
abbrev pub filled_with : List ℕ → List ℕ → Filling
filled_with t b = (min (length t) (length b), take (length b) t ++ drop (length t) b)

-- a contract of text fixes the answer and the buffer after it: two that meet it, whatever filling f it gives, are equal
pub record OneFilling : Type 0 where
  pub same : (f : Filling) (e d : ℕ) (after other : List ℕ) → filling e after ≡ f → filling d other ≡ f → (e ≡ d) × (after ≡ other)
