-- Rings, as tests that compute. A graph is the list of its neighbour lists, by name; its length is n.
use Rattle.std.specs.Prelude.{ℕ, Bool, true, false, not, ◌&&◌, ◌||◌, List, [], ◌∷◌, ◌++◌, ltb, eqb, length, get_or, take}
use Rattle.words.specs.Lists.{mem, all_of, count}

-- the list of post u
abbrev pub ring : List (List ℕ) → ℕ → List ℕ
ring G u = get_or G u []

-- a list read as a ring, once around: its first entry follows its last
unfoldable pub around : List ℕ → List ℕ
around l = l ++ take 1 l

-- b stands right after a
unfoldable pub next : ℕ → ℕ → List ℕ → Bool
next a b [] = false
next a b (x ∷ []) = false
next a b (x ∷ y ∷ l) = (eqb x a && eqb y b) || next a b (y ∷ l)

-- the test holds of each two entries that stand side by side
unfoldable pub all_next : (ℕ → ℕ → Bool) → List ℕ → Bool
all_next p [] = true
all_next p (x ∷ []) = true
all_next p (x ∷ y ∷ l) = p x y && all_next p (y ∷ l)

-- b follows a at u (G2): going around u's list, b comes right after a
unfoldable pub follows : List (List ℕ) → ℕ → ℕ → ℕ → Bool
follows G u a b = next a b (around (ring G u))

-- G3, of the entry v of u's list: it is a name, another than u, and stands in this list a single time; and v's list has u
unfoldable pub entry_rule : List (List ℕ) → ℕ → ℕ → Bool
entry_rule G u v = ltb v (length G) && (not (eqb v u) && (eqb (count (eqb v) (ring G u)) 1 && mem (ring G v) u))

unfoldable pub ring_rule : List (List ℕ) → ℕ → Bool
ring_rule G u = all_of (entry_rule G u) (ring G u)

-- G4, at u: of two entries side by side, v and then w, the ring of v has u right after w
unfoldable pub triangle_rule : List (List ℕ) → ℕ → Bool
triangle_rule G u = all_next (λ v w. follows G v w u) (around (ring G u))

-- G6: v1 has v2 in its list, and at v2 the entry after v1 is vn
unfoldable pub outer_rule : List (List ℕ) → ℕ → ℕ → ℕ → Bool
outer_rule G v1 v2 vn = mem (ring G v1) v2 && follows G v2 v1 vn
