-- Placing the posts: stages 3 to n, over rings and a list of the posts placed.
use Rattle.std.specs.Prelude.{ℕ, ◌+◌, ◌-◌, ◌/◌, cond, eqb, length, take, drop}
use mathlib.Core.List.{List, [], ◌∷◌, ◌++◌, flat_map}
use Rattle.words.specs.Lists.{mem, last_of}
use Rattle.words.specs.Positions.{post}
use Rattle.order.specs.Order.{run}

-- A stage: the posts placed, v1 to vk; the contour, its left end first; and by name: the group of a contour post, the places, and which post
-- covered a covered one (R4).
pub record Stage : Type 0 where
  pub placed : List ℕ
  pub contour : List ℕ
  pub group : ℕ → List ℕ
  pub x : ℕ → ℕ
  pub y : ℕ → ℕ
  pub cover : ℕ → ℕ

-- Stage 3 (S4): the first three posts in their corners, v3 between the others on the contour, and each alone in its group.
unfoldable pub third : ℕ → ℕ → ℕ → Stage
third v1 v2 v3 =
    record {
      placed = v1 ∷ v2 ∷ v3 ∷ [];
      contour = v1 ∷ v3 ∷ v2 ∷ [];
      group = λ u. u ∷ [];
      x = λ u. cond (eqb u v3) 1 (cond (eqb u v2) 2 0);
      y = λ u. cond (eqb u v3) 1 0;
      cover = λ u. u;
    }

-- a contour as far as a, from the left; and from a on
unfoldable pub up_to : ℕ → List ℕ → List ℕ
up_to a [] = []
up_to a (x ∷ l) = x ∷ cond (eqb x a) [] (up_to a l)

unfoldable pub on_from : ℕ → List ℕ → List ℕ
on_from a [] = []
on_from a (x ∷ l) = cond (eqb x a) (x ∷ l) (on_from a l)

-- the middle posts of a run (S5): all but its first and its last
abbrev pub inner : List ℕ → List ℕ
inner w = take (length w - 2) (drop 1 w)

-- S5 to S8: the stage that follows t, where w is the run of the new post v.
unfoldable pub place_over : Stage → List ℕ → ℕ → Stage
place_over t w v =
    let p = post w 1 in
    let q = last_of 0 w in
    -- the posts that move by 1, and those that move by 2
    let ones = flat_map t.group (inner w) in
    let twos = flat_map t.group (on_from q t.contour) in
    let moved : ℕ → ℕ = λ u. t.x u + (cond (mem ones u) 1 0 + cond (mem twos u) 2 0) in
    -- where the run's two ends have come to (S7)
    let xl = moved p in
    let yl = t.y p in
    let xr = moved q in
    let yr = t.y q in
    let newX = (xl + xr + yr - yl) / 2 in
    let newY = (xr - xl + yr + yl) / 2 in
    record {
      placed = t.placed ++ v ∷ [];
      contour = up_to p t.contour ++ v ∷ on_from q t.contour;
      group = λ u. cond (eqb u v) (v ∷ ones) (t.group u);
      x = λ u. cond (eqb u v) newX (moved u);
      y = λ u. cond (eqb u v) newY (t.y u);
      cover = λ u. cond (mem (inner w) u) v (t.cover u);
    }

unfoldable pub place : List (List ℕ) → Stage → ℕ → Stage
place G t v = place_over t (run G t.placed v) v

unfoldable pub place_all : List (List ℕ) → Stage → List ℕ → Stage
place_all G t [] = t
place_all G t (v ∷ vs) = place_all G (place G t v) vs

-- the stage at which the posts of the list, three or more, are placed in turn
unfoldable pub stage : List (List ℕ) → List ℕ → Stage
stage G vs = place_all G (third (post vs 1) (post vs 2) (post vs 3)) (drop 3 vs)
