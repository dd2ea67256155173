-- What a stage tells: a post's record (R1 to R5, R8), the entries of its sheet (R6), and the ends of the runs of all its posts.
use Rattle.std.specs.Prelude.{ℕ, cond, leb, eqb}
use mathlib.Core.List.{List, [], ◌∷◌, flat_map}
use Rattle.words.specs.Lists.{mem, last_of}
use Rattle.words.specs.Positions.{post, earlier, position_of}
use Rattle.order.specs.Order.{run}
use Rattle.placing.specs.Stages.{Stage}
use Rattle.placing.specs.declared.Standing.{Standing}
use Rattle.placing.specs.declared.Standing.TheVariants.{Waiting, OnContour, Covered}
use Rattle.placing.specs.declared.Record.{Record}

-- the posts beside u on a contour (R3). Its first post, v1, counts as its own left neighbour, and its last, v2, as its own right one
unfoldable pub left_of : List ℕ → ℕ → ℕ
left_of [] u = u
left_of (a ∷ []) u = u
left_of (a ∷ b ∷ l) u = cond (eqb b u) a (left_of (b ∷ l) u)

unfoldable pub right_of : List ℕ → ℕ → ℕ
right_of [] u = u
right_of (a ∷ []) u = u
right_of (a ∷ b ∷ l) u = cond (eqb a u) b (right_of (b ∷ l) u)

unfoldable pub standing : Stage → ℕ → Standing
standing t u =
    cond (mem t.contour u) (OnContour (left_of t.contour u) (right_of t.contour u)) (cond (mem t.placed u) (Covered (t.cover u)) Waiting)

-- the run over which u, a post of the list, was placed: its neighbours in earlier positions, left to right
unfoldable pub run_of : List (List ℕ) → List ℕ → ℕ → List ℕ
run_of G vs u = run G (earlier vs (position_of vs u)) u

-- R8: the ends of that run, its first and its last post; the posts in positions 1 and 2 have no run, and are their own ends
unfoldable pub fit_left : List (List ℕ) → List ℕ → ℕ → ℕ
fit_left G vs u = cond (leb 3 (position_of vs u)) (post (run_of G vs u) 1) u

unfoldable pub fit_right : List (List ℕ) → List ℕ → ℕ → ℕ
fit_right G vs u = cond (leb 3 (position_of vs u)) (last_of 0 (run_of G vs u)) u

-- R2: where a post waits, both numbers are 0; and its own name stands for both ends
unfoldable pub record_of : List (List ℕ) → Stage → ℕ → Record
record_of G t u =
    cond (mem t.placed u)
    (record { x = t.x u; y = t.y u; standing = standing t u; leftmost = fit_left G t.placed u; rightmost = fit_right G t.placed u })
    (record { x = 0; y = 0; standing = Waiting; leftmost = u; rightmost = u })

-- R6: two entries for each placed post in its turn, the column before the height
unfoldable pub entries_of : Stage → List ℕ
entries_of t = flat_map (λ u. t.x u ∷ t.y u ∷ []) t.placed

-- in the same way the ends of its run, the left one before the right one
unfoldable pub ends_of : List (List ℕ) → List ℕ → List ℕ
ends_of G vs = flat_map (λ u. fit_left G vs u ∷ fit_right G vs u ∷ []) vs
