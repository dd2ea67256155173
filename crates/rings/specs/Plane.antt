-- Plane and triangulated, said by quantifiers: what the lists must be, whatever the unit tests.
use Rattle.std.specs.Prelude.{ℕ, ◌*◌, ◌-◌, ◌<◌, ◌≡◌, ◌⊎◌, ◌≢◌, List, ◌∷◌, ◌++◌, map, length}
use Rattle.words.specs.Numbers.{sum_of}
use Rattle.words.specs.Lists.{In, Different}
use Rattle.rings.specs.Rings.{ring, around}

-- b follows a at u
abbrev pub Follows : List (List ℕ) → ℕ → ℕ → ℕ → Type 0
Follows G u a b = (X Y : List ℕ) × (around (ring G u) ≡ X ++ a ∷ b ∷ Y)

-- wires lead from v1 to u (G5)
pub data Reached (G : List (List ℕ)) (v1 : ℕ) : ℕ → Type 0 where
  here : Reached G v1 v1
  along : {u w : ℕ} → Reached G v1 u → In w (ring G u) → Reached G v1 w

-- a wire with both ends among these posts
abbrev pub Wire : List (List ℕ) → List ℕ → ℕ → ℕ → Type 0
Wire G placed a b = In a placed × In b placed × In b (ring G a)

-- u, v, w is the triangle a, b, c in the same turn, read from any of its posts on
abbrev pub SameTriangle : ℕ → ℕ → ℕ → ℕ → ℕ → ℕ → Type 0
SameTriangle a b c u v w = ((u ≡ a) × (v ≡ b) × (w ≡ c)) ⊎ (((u ≡ b) × (v ≡ c) × (w ≡ a)) ⊎ ((u ≡ c) × (v ≡ a) × (w ≡ b)))

-- it is the outer one, v2, v1, vn in this turn (in the other turn, v1, v2, vn is an inner one where n = 3)
abbrev pub OuterTriangle : ℕ → ℕ → ℕ → ℕ → ℕ → ℕ → Type 0
OuterTriangle v1 v2 vn u v w = SameTriangle v2 v1 vn u v w

-- G7: the rings of a triangulated plane board, with the bottom wire v1 v2 and vn as the third outer post
pub record Plane (G : List (List ℕ)) (v1 v2 vn : ℕ) : Type 0 where
  -- Rings
  pub below : (u v : ℕ) → u < length G → In v (ring G u) → v < length G
  pub other : (u v : ℕ) → u < length G → In v (ring G u) → v ≢ u
  pub once : (u : ℕ) → u < length G → Different (ring G u)
  pub returned : (u v : ℕ) → u < length G → In v (ring G u) → In u (ring G v)
  -- Triangles
  pub triangle : (u v w : ℕ) → u < length G → Follows G u v w → Follows G v w u
  -- Connected, with 6n-12 entries
  pub connected : (u : ℕ) → u < length G → Reached G v1 u
  pub entries : sum_of (map length G) ≡ 6 * length G - 12
  -- Outer triangle
  pub bottom : In v2 (ring G v1)
  pub outer : Follows G v2 v1 vn
