-- A list of names as an order: positions are counted from 1.
use Rattle.std.specs.Prelude.{◌≡◌, ℕ, ◌-◌, ◌<◌, ◌≤◌, List, length, take, drop, nat_eq, slice_index}
use Rattle.words.specs.First.{first}

-- the post in position k; the posts in earlier positions; those in later ones
abbrev pub post : List ℕ → ℕ → ℕ
post vs k = slice_index vs (k - 1)

abbrev pub earlier : List ℕ → ℕ → List ℕ
earlier vs k = take (k - 1) vs

abbrev pub later : List ℕ → ℕ → List ℕ
later vs k = drop k vs

-- the position of a name; one beyond the list if it isn't there
abbrev pub position_of : List ℕ → ℕ → ℕ
position_of vs u = first 1 (length vs) (λ k. nat_eq (post vs k) u)

-- the same by positions: a stands in a position before k; after k
abbrev pub Earlier : List ℕ → ℕ → ℕ → Type 0
Earlier vs k a = (j : ℕ) × (1 ≤ j) × (j < k) × (post vs j ≡ a)

abbrev pub Later : List ℕ → ℕ → ℕ → Type 0
Later vs k a = (j : ℕ) × (k < j) × (j ≤ length vs) × (post vs j ≡ a)
