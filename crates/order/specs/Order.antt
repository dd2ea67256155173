-- Canonical order, as tests that compute: over rings and a list of the posts placed, v1 first.
use Rattle.std.specs.Prelude.{ℕ, Bool, not, cond, ◌&&◌, ◌||◌, List, [], ◌∷◌, ◌++◌, leb, eqb, length, get_or, take, drop}
use Rattle.words.specs.First.{first, some}
use Rattle.words.specs.Lists.{mem, all_of, any_of, count}
use Rattle.words.specs.Positions.{post}
use Rattle.rings.specs.Rings.{ring}

-- v has at least two neighbours among those placed
unfoldable pub two_placed : List (List ℕ) → List ℕ → ℕ → Bool
two_placed G placed v = leb 2 (count (mem placed) (ring G v))

-- a ring read from place s of its list on
unfoldable pub from : ℕ → List ℕ → List ℕ
from s l = drop s l ++ take s l

-- the first entries of a list, as far as they are placed; and what comes after these
unfoldable pub lead : List ℕ → List ℕ → List ℕ
lead placed [] = []
lead placed (x ∷ l) = cond (mem placed x) (x ∷ lead placed l) []

unfoldable pub rest : List ℕ → List ℕ → List ℕ
rest placed [] = []
rest placed (x ∷ l) = cond (mem placed x) (rest placed l) (x ∷ l)

-- the placed entries stand side by side at the list's beginning
unfoldable pub leads : List ℕ → List ℕ → Bool
leads placed l = not (any_of (mem placed) (rest placed l))

-- O3: read from some place of v's ring on, the placed entries lead
unfoldable pub one_run : List (List ℕ) → List ℕ → ℕ → Bool
one_run G placed v = some 0 (length (ring G v)) (λ s. leads placed (from s (ring G v)))

-- v has a neighbour among those to come
unfoldable pub one_later : List (List ℕ) → List ℕ → ℕ → Bool
one_later G toCome v = any_of (mem toCome) (ring G v)

-- the place where the run of v begins: from there on the placed entries lead; where the whole ring is placed, it is that of v1
unfoldable pub begins : List (List ℕ) → List ℕ → ℕ → ℕ → Bool
begins G placed v s =
    leads placed (from s (ring G v)) && (not (all_of (mem placed) (ring G v)) || eqb (get_or (ring G v) s 0) (post placed 1))

-- the first such place, counted from 0; the list's length if there is none
abbrev pub run_begin : List (List ℕ) → List ℕ → ℕ → ℕ
run_begin G placed v = first 0 (length (ring G v)) (begins G placed v)

-- the run of v, read counter-clockwise: w_p to w_q
unfoldable pub run : List (List ℕ) → List ℕ → ℕ → List ℕ
run G placed v = lead placed (from (run_begin G placed v) (ring G v))
