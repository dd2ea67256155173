-- What an order is asked for so that one run is forced: wires to earlier posts and to later ones, and no word of where they stand in a ring.
use Rattle.std.specs.Prelude.{ℕ, ◌≤◌, ◌<◌, ◌≡◌, List, length}
use Rattle.words.specs.Lists.{In, Different}
use Rattle.words.specs.Positions.{post, Earlier, Later}
use Rattle.rings.specs.Rings.{ring}
use Rattle.order.specs.Canonical.{Two}

-- The order names each post once; each post from position 3 on has an earlier neighbour, and below n a later one. (Where v1, v2 and vn are the outer
-- triangle, that is an st-numbering from v1 to vn.)
pub record Bridging (G : List (List ℕ)) (vs : List ℕ) : Type 0 where
  pub all : length vs ≡ length G
  pub below : (a : ℕ) → In a vs → a < length G
  pub once : Different vs
  pub earlier : (k : ℕ) → 3 ≤ k → k ≤ length vs → (a : ℕ) × In a (ring G (post vs k)) × Earlier vs k a
  pub later : (k : ℕ) → 3 ≤ k → k < length vs → (a : ℕ) × In a (ring G (post vs k)) × Later vs k a

-- each post from position 3 on has two earlier neighbours
abbrev pub TwoEach : List (List ℕ) → List ℕ → Type 0
TwoEach G vs = (k : ℕ) → 3 ≤ k → k ≤ length vs → Two G vs k (post vs k)
