-- What the engine takes: plane rings and a list of posts that fits so far, as running code holds them.
use Rattle.std.specs.Prelude.{ℕ, ◌+◌, ◌≤◌, ◌<◌, ◌≡◌, List, length}
use Rattle.words.specs.Positions.{post, earlier}
use Rattle.block.specs.Layout.{limit}
use Rattle.rings.specs.Plane.{Plane}
use Rattle.rings.specs.Held.{held, Cuts}
use Rattle.order.specs.Order.{run_begin, run}
use Rattle.order.specs.Fitting.{FitsSoFar}
use Rattle.order.specs.Ranked.{RunsBefore}
use Rattle.order.specs.declared.Run.{Run}

-- all lists' entries, where each list begins, and the list of posts; an accepted block's order is such a list
pub record Fitted (at ents vs : List ℕ) : Type 0 where
  pub vn : ℕ
  pub plane : Plane (held at ents) (post vs 1) (post vs 2) vn
  pub fits : FitsSoFar (held at ents) vn vs
  pub cuts : Cuts at ents
  pub three : 3 ≤ length vs
  pub most : length (held at ents) ≤ limit

-- and the run of each of its posts from the third on, by position
pub record RunsHeld (at ents vs : List ℕ) (runs : List Run) : Type 0 where
  pub room : length vs ≤ length runs
  pub known : RunsBefore (held at ents) vs runs (length vs + 1)

-- the run of the post in position k begins at this place of its ring, and has a post i, counted from 0
pub record RunKept (G : List (List ℕ)) (vs : List ℕ) (begin k i : ℕ) : Type 0 where
  pub least : 1 ≤ k
  pub most : k ≤ length vs
  pub low : post vs k < length G
  pub begins : begin ≡ run_begin G (earlier vs k) (post vs k)
  pub inside : i < length (run G (earlier vs k) (post vs k))
