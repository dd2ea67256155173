-- Reading a stage from the arrays: the contour's columns by a running sum, then those of covered posts, from the last position down.
use Rattle.std.specs.Prelude.{ℕ, zero, suc, ◌+◌, ◌-◌, ◌≤◌, ◌<◌, ◌≡◌, cond, List, [], ◌∷◌, eqb, length, get_or, set}
use Rattle.block.specs.Layout.{bias}
use Rattle.contour.specs.Arrays.{along, Below}

-- the posts from a to z along the contour, at most k
unfoldable pub until : List ℕ → ℕ → ℕ → ℕ → List ℕ
until right a z zero = []
until right a z (suc k) = a ∷ cond (eqb a z) [] (until right (get_or right a 0) z k)

-- the columns of the posts of a list, after one in column s
unfoldable pub laid : List ℕ → List ℕ → ℕ → List ℕ → List ℕ
laid xs off s [] = xs
laid xs off s (a ∷ l) = laid (set xs a (s + get_or off a 0)) off (s + get_or off a 0) l

-- the column of u, which c covers; it is there already if c is u itself
abbrev pub column_of : List ℕ → List ℕ → ℕ → ℕ → ℕ
column_of xs off u c = cond (eqb c u) (get_or xs u 0) (get_or xs c 0 + get_or off u 0 - bias)

-- the columns of the posts in the first i positions, from the last down
unfoldable pub settled : List ℕ → List ℕ → List ℕ → List ℕ → ℕ → List ℕ
settled xs off cover vs zero = xs
settled xs off cover vs (suc i) = settled (set xs (get_or vs i 0) (column_of xs off (get_or vs i 0) (get_or cover (get_or vs i 0) 0))) off cover vs i

-- the numbers fit
abbrev pub ColumnFits : List ℕ → List ℕ → ℕ → ℕ → Type 0
ColumnFits xs off u c = (c ≡ u → ⊥) → (bias ≤ get_or xs c 0 + get_or off u 0) × (get_or xs c 0 + get_or off u 0 ≤ 65535)

abbrev pub Settles : List ℕ → List ℕ → List ℕ → List ℕ → ℕ → Type 0
Settles xs off cover vs zero = Unit {0}
Settles xs off cover vs (suc i) =
    ColumnFits xs off (get_or vs i 0) (get_or cover (get_or vs i 0) 0)
    × Settles (set xs (get_or vs i 0) (column_of xs off (get_or vs i 0) (get_or cover (get_or vs i 0) 0))) off cover vs i

-- the posts in the first k positions, and those that cover them, have room in the arrays
pub record Rooms (vs off cover xs : List ℕ) (k : ℕ) : Type 0 where
  pub of_vs : k ≤ length vs
  pub of_off : (i : ℕ) → i < k → get_or vs i 0 < length off
  pub of_cover : (i : ℕ) → i < k → get_or vs i 0 < length cover
  pub of_xs : (i : ℕ) → i < k → get_or vs i 0 < length xs
  pub of_covers : (i : ℕ) → i < k → get_or cover (get_or vs i 0) 0 < length xs

-- the contour from v1 to v2 has room, and the sum of its offsets fits
pub record Line (right off xs : List ℕ) (v1 v2 k : ℕ) : Type 0 where
  pub of_right : Below (length right) (until right v1 v2 k)
  pub of_off : Below (length off) (until right v1 v2 k)
  pub of_xs : Below (length xs) (until right v1 v2 k)
  pub fits : along off (until right v1 v2 k) ≤ 65535

-- the arrays are ready to be read at stage k
pub record Readable (vs off cover right xs : List ℕ) (k : ℕ) : Type 0 where
  pub two : 2 ≤ length vs
  pub line : Line right off xs (get_or vs 0 0) (get_or vs 1 0) (length vs)
  pub rooms : Rooms vs off cover xs k
  pub settles : Settles (laid xs off 0 (until right (get_or vs 0 0) (get_or vs 1 0) (length vs))) off cover vs k

-- the columns that are read
abbrev pub columns_of : (vs off cover right xs : List ℕ) → ℕ → List ℕ
columns_of vs off cover right xs k = settled (laid xs off 0 (until right (get_or vs 0 0) (get_or vs 1 0) (length vs))) off cover vs k
