-- The canonical order, said by quantifiers over positions.
use Rattle.std.specs.Prelude.{ℕ, ◌≤◌, ◌<◌, ◌≡◌, ◌≢◌, List, ◌++◌, length}
use Rattle.words.specs.Lists.{In, Different}
use Rattle.words.specs.Positions.{post, Earlier, Later}
use Rattle.rings.specs.Rings.{ring}

-- two neighbours of v in earlier positions than k
pub record Two (G : List (List ℕ)) (vs : List ℕ) (k v : ℕ) : Type 0 where
  pub a : ℕ
  pub b : ℕ
  pub apart : a ≢ b
  pub near_a : In a (ring G v)
  pub near_b : In b (ring G v)
  pub earlier_a : Earlier vs k a
  pub earlier_b : Earlier vs k b

-- the earlier neighbours stand side by side: v's ring X ++ Y, read from Y on, is the run and then none of them
pub record OneRun (G : List (List ℕ)) (vs : List ℕ) (k v : ℕ) : Type 0 where
  pub X : List ℕ
  pub Y : List ℕ
  pub ring_is : ring G v ≡ X ++ Y
  pub the_run : List ℕ
  pub others : List ℕ
  pub turned : Y ++ X ≡ the_run ++ others
  pub in_run : (a : ℕ) → In a the_run → Earlier vs k a
  pub off_run : (a : ℕ) → In a others → ¬ (Earlier vs k a)

-- the order names each post once, and at each position from 3 to n: two earlier neighbours; one run; below n, a later neighbour
pub record Canonical (G : List (List ℕ)) (vs : List ℕ) : Type 0 where
  pub all : length vs ≡ length G
  pub below : (a : ℕ) → In a vs → a < length G
  pub once : Different vs
  pub two : (k : ℕ) → 3 ≤ k → k ≤ length vs → Two G vs k (post vs k)
  pub run : (k : ℕ) → 3 ≤ k → k ≤ length vs → OneRun G vs k (post vs k)
  pub later : (k : ℕ) → 3 ≤ k → k < length vs → (a : ℕ) × In a (ring G (post vs k)) × Later vs k a
