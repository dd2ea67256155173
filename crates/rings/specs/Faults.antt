-- What can be at fault with an entry of a list (docs/RULES.md: N9, N18, N19, N20), as tests that compute. Entries are counted from 0. Where a
-- name stands twice, only the later entry is bad, while G3 fails of both: of a whole list they say the same.
use Rattle.std.specs.Prelude.{ℕ, Bool, not, ◌||◌, List, leb, eqb, length, get_or, take}
use Rattle.words.specs.First.{first}
use Rattle.words.specs.Lists.{mem}
use Rattle.rings.specs.Rings.{ring}

-- entry i of u's list
abbrev pub entry : List (List ℕ) → ℕ → ℕ → ℕ
entry G u i = get_or (ring G u) i 0

-- its faults, in the order in which they are tried: it is n or more
unfoldable pub is_high : List (List ℕ) → ℕ → ℕ → Bool
is_high G u i = leb (length G) (entry G u i)

-- it is the post itself
unfoldable pub is_itself : List (List ℕ) → ℕ → ℕ → Bool
is_itself G u i = eqb (entry G u i) u

-- it repeats an earlier entry of the list
unfoldable pub is_repeated : List (List ℕ) → ℕ → ℕ → Bool
is_repeated G u i = mem (take i (ring G u)) (entry G u i)

-- the other post does not return it: that one's list has no u (and there is none if the entry is n or more)
unfoldable pub is_unreturned : List (List ℕ) → ℕ → ℕ → Bool
is_unreturned G u i = not (mem (ring G (entry G u i)) u)

-- a bad entry has one of them
unfoldable pub is_bad : List (List ℕ) → ℕ → ℕ → Bool
is_bad G u i = is_high G u i || (is_itself G u i || (is_repeated G u i || is_unreturned G u i))

-- which entry of u's list is the first bad one; the list's length if there is none
unfoldable pub first_bad : List (List ℕ) → ℕ → ℕ
first_bad G u = first 0 (length (ring G u)) (is_bad G u)
