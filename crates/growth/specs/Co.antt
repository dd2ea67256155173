-- Chrobak and Nakano's conditions co1 to co3 (docs/RULES.md: X2), over rings. G_k is v1 to vk and the wires between them. Its faces are made of the whole
-- graph's triangles, joined across each wire that G_k lacks. All of it is meant for a triangulated plane graph (rings: Plane): on a torus triangles
-- joined so need not be a face, and the seven-post torus would keep co1 to co3.
use Rattle.std.specs.Prelude.{ℕ, suc, ◌≤◌, ◌<◌, ◌≡◌, ◌⊎◌, ◌≢◌, ◌↔◌, List, [], ◌∷◌, ◌++◌, length, take}
use Rattle.words.specs.Lists.{In, Different}
use Rattle.words.specs.Positions.{post}
use Rattle.rings.specs.Rings.{ring, around}
use Rattle.rings.specs.Plane.{Follows, Wire}

-- ---- faces, over any posts placed

-- The face in which the triangle a b c lies: the triangles reached from it by going on to the next corner, and by crossing a wire that is not one
-- between placed posts; so all triangles around a post that is not placed are joined. (A triangle u v w has w follow v at u, so it lies left of the
-- wire from u to v; right of it lies the triangle v u x.)
pub data Face (G : List (List ℕ)) (placed : List ℕ) (a b c : ℕ) : ℕ → ℕ → ℕ → Type 0 where
  same : Face G placed a b c a b c
  turn : {u v w : ℕ} → Face G placed a b c u v w → Face G placed a b c v w u
  cross : {u v w x : ℕ} → Face G placed a b c u v w → ¬ (Wire G placed u v) → Follows G v u x → Face G placed a b c v u x

-- the wire from x to y, both placed, has that face on its left. A wire with the face on both sides borders it in both directions.
abbrev pub Border : List (List ℕ) → List ℕ → ℕ → ℕ → ℕ → ℕ → ℕ → Type 0
Border G placed a b c x y = Wire G placed x y × ((z : ℕ) × Follows G x y z × Face G placed a b c x y z)

-- that face is a triangle: three wires between three different posts border it, and no other wire does (a placed post with no wire would not be seen
-- here; two_connected excludes it)
pub record Triangular (G : List (List ℕ)) (placed : List ℕ) (a b c : ℕ) : Type 0 where
  pub p : ℕ
  pub q : ℕ
  pub r : ℕ
  pub differ_pq : p ≢ q
  pub differ_qr : q ≢ r
  pub differ_rp : r ≢ p
  pub side_pq : Border G placed a b c p q
  pub side_qr : Border G placed a b c q r
  pub side_rp : Border G placed a b c r p
  pub only : (x y : ℕ) → Border G placed a b c x y → ((x ≡ p) × (y ≡ q)) ⊎ (((x ≡ q) × (y ≡ r)) ⊎ ((x ≡ r) × (y ≡ p)))

-- b is reached from a along wires between placed posts, without passing z
pub data Joined (G : List (List ℕ)) (placed : List ℕ) (z a : ℕ) : ℕ → Type 0 where
  here : Joined G placed z a a
  along : {u w : ℕ} → Joined G placed z a u → Wire G placed u w → w ≢ z → Joined G placed z a w

-- 2-connected: three posts or more, any two of which are joined without any one other post (for a z that is not placed: connected)
abbrev pub TwoConnected : List (List ℕ) → List ℕ → Type 0
TwoConnected G placed = (3 ≤ length placed) × ((z a b : ℕ) → In a placed → In b placed → a ≢ z → b ≢ z → Joined G placed z a b)

-- ---- stage k of the order vs: the posts placed are those in positions 1 to k

-- the exterior face of G_k is the one of the outer triangle v2 v1 vn
abbrev pub Exterior : List (List ℕ) → List ℕ → ℕ → ℕ → ℕ → ℕ → Type 0
Exterior G vs k u v w = Face G (take k vs) (post vs 2) (post vs 1) (post vs (length G)) u v w

-- a post that G_k lacks lies in its exterior face: the triangles around the post do
abbrev pub Outside : List (List ℕ) → List ℕ → ℕ → ℕ → Type 0
Outside G vs k v = (a b : ℕ) → Follows G v a b → Exterior G vs k v a b

-- C_k: the wires of G_k that border its exterior face, read with that face on the left; and their posts
abbrev pub ContourWire : List (List ℕ) → List ℕ → ℕ → ℕ → ℕ → Type 0
ContourWire G vs k x y = Border G (take k vs) (post vs 2) (post vs 1) (post vs (length G)) x y

abbrev pub ContourPost : List (List ℕ) → List ℕ → ℕ → ℕ → Type 0
ContourPost G vs k a = (b : ℕ) × (ContourWire G vs k a b ⊎ ContourWire G vs k b a)

-- The list K writes C_k as w_1 = v1, .., w_m = v2, from left to right along the top: no post twice; its wires are those from each post of the list to
-- the next, and back along the bottom from v2 to v1.
pub record ContourList (G : List (List ℕ)) (vs : List ℕ) (k : ℕ) (K : List ℕ) : Type 0 where
  pub between : List ℕ
  pub is : K ≡ post vs 1 ∷ (between ++ post vs 2 ∷ [])
  pub once : Different K
  pub wires : (x y : ℕ) → ContourWire G vs k x y ↔ (X Y : List ℕ) × (around K ≡ X ++ x ∷ y ∷ Y)

-- each face of G_k but the exterior one is a triangle
abbrev pub Triangulated : List (List ℕ) → List ℕ → ℕ → Type 0
Triangulated G vs k = (u v w : ℕ) → Follows G u v w → ¬ (Exterior G vs k u v w) → Triangular G (take k vs) u v w

-- below n, the next post lies in the exterior face of G_k
abbrev pub NextOutside : List (List ℕ) → List ℕ → ℕ → Type 0
NextOutside G vs k = k < length vs → Outside G vs k (post vs (suc k))

-- co1, co2 and co3 at stage k
pub record Co (G : List (List ℕ)) (vs : List ℕ) (k : ℕ) : Type 0 where
  -- co1: G_k holds together, even without any one of its posts, and each face but the exterior one is a triangle
  pub co1_two_connected : TwoConnected G (take k vs)
  pub co1_triangulated : Triangulated G vs k
  -- co2: v1 v2 is a wire of C_k (it follows from G6, and is stated all the same, as Chrobak and Nakano do)
  pub co2_base : ContourWire G vs k (post vs 1) (post vs 2) ⊎ ContourWire G vs k (post vs 2) (post vs 1)
  -- co3: below n, the next post lies in the exterior face, and its neighbours in G_k are on C_k
  pub co3_outside : NextOutside G vs k
  pub co3_near : k < length vs → (a : ℕ) → In a (take k vs) → In a (ring G (post vs (suc k))) → ContourPost G vs k a

-- the same written over the contour: the list K writes C_k, closed by the wire v1 v2 (co2), and the next post's neighbours in G_k stand in K
pub record CoOver (G : List (List ℕ)) (vs : List ℕ) (k : ℕ) (K : List ℕ) : Type 0 where
  pub contour : ContourList G vs k K
  pub co1_two_connected : TwoConnected G (take k vs)
  pub co1_triangulated : Triangulated G vs k
  pub co3_outside : NextOutside G vs k
  pub co3_near : k < length vs → (a : ℕ) → In a (take k vs) → In a (ring G (post vs (suc k))) → In a K

-- a canonical order by Chrobak and Nakano's conditions: it names each post once, and they hold at each stage from 3 to n
pub record CoOrder (G : List (List ℕ)) (vs : List ℕ) : Type 0 where
  pub all : length vs ≡ length G
  pub below : (a : ℕ) → In a vs → a < length G
  pub once : Different vs
  pub co : (k : ℕ) → 3 ≤ k → k ≤ length vs → Co G vs k
