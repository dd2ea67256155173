-- One step of the shift method, as its laws take it: s and s' are the places before and after it, g u and g' u the place on the contour of the
-- head of u's group; the new post v comes over the run from p to q.
use Rattle.std.specs.Prelude.{ℕ, ◌+◌, ◌≤◌, ◌<◌, ◌≡◌}
use Rattle.drawing.specs.Meeting.{Places}

-- a post of a group up to p's stays, and so does its group
pub record BeforeRun (s s' : Places) (g g' : ℕ → ℕ) (u : ℕ) : Type 0 where
  pub moves : s'.x u ≡ s.x u
  pub group : g' u ≡ g u

-- a post of a group between p's and q's moves by 1, and is in v's group now
pub record InRun (s s' : Places) (g g' : ℕ → ℕ) (p u : ℕ) : Type 0 where
  pub moves : s'.x u ≡ s.x u + 1
  pub group : g' u ≡ g p + 1

-- a post of a group from q's on moves by 2; q's group comes next to v's, and the others follow it as they did
pub record AfterRun (s s' : Places) (g g' : ℕ → ℕ) (p q u : ℕ) : Type 0 where
  pub moves : s'.x u ≡ s.x u + 2
  pub group : g' u + g q ≡ g u + g p + 2

-- the posts that are here: none changes its height, and each moves by its group; v's group is next to p's
pub record Regroup (s s' : Places) (g g' : ℕ → ℕ) (Here : ℕ → Type 0) (p q v : ℕ) : Type 0 where
  pub level : (u : ℕ) → Here u → s'.y u ≡ s.y u
  pub lo : (u : ℕ) → Here u → g u ≤ g p → BeforeRun s s' g g' u
  pub mi : (u : ℕ) → Here u → g p < g u → g u < g q → InRun s s' g g' p u
  pub hi : (u : ℕ) → Here u → g q ≤ g u → AfterRun s s' g g' p q u
  pub v_place : g' v ≡ g p + 1

-- and v is where the diagonals meet: the one that falls to q, on which x + y is the same, and the one that rises from p, on which x - y is
pub record Shifts (s s' : Places) (g g' : ℕ → ℕ) (Here : ℕ → Type 0) (p q v : ℕ) : Type 0 where
  pub shift : Regroup s s' g g' Here p q v
  pub v_sum : s'.x v + s'.y v ≡ s'.x q + s'.y q
  pub v_dif : s'.x v + s'.y p ≡ s'.x p + s'.y v
