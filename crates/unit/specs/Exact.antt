-- Beside demand 3: the method's halves are exact at every placing, and no difference in it is cut off at zero (whole numbers have nothing below
-- it). Of any unit with the three services.
use Rattle.std.specs.Prelude.{ℕ, ◌+◌, ◌*◌, ◌-◌, ◌≤◌, ◌<◌, ◌≡◌, List, length, take}
use Rattle.words.specs.Lists.{last_of}
use Rattle.words.specs.Positions.{post}
use Rattle.block.specs.Block.{order, lists}
use Rattle.order.specs.Order.{run}
use Rattle.drawing.specs.Meeting.{Places}
use Rattle.lamp.specs.Given.{accepted}
use Rattle.unit.specs.Demands.{Services, places, Placed}

-- the post that comes from stage k to k+1; its run; the run's ends w_p and w_q
abbrev pub new_post : List ℕ → ℕ → ℕ
new_post s k = post (order s) (k + 1)

abbrev pub new_run : List ℕ → ℕ → List ℕ
new_run s k = run (lists s) (take k (order s)) (new_post s k)

abbrev pub left_end : List ℕ → ℕ → ℕ
left_end s k = post (new_run s k) 1

abbrev pub right_end : List ℕ → ℕ → ℕ
right_end s k = last_of 0 (new_run s k)

-- Where p has come to (xl, yl) and q to (xr, yr): twice the new post's x is xl + xr + yr - yl, and twice its y is xr - xl + yr + yl, so nothing is
-- lost by halving; and what is taken off is not more than what it is taken from.
pub record ExactHalves (now : Places) (p q v : ℕ) : Type 0 where
  pub whole_x : now.y p ≤ now.x p + now.x q + now.y q
  pub twice_x : 2 * now.x v ≡ now.x p + now.x q + now.y q - now.y p
  pub whole_y : now.x p ≤ now.x q
  pub twice_y : 2 * now.y v ≡ now.x q - now.x p + now.y q + now.y p

pub record Exact (U : Services) : Type 0 where
  -- of an accepted block, at each stage but the last: the next post's run has two ends, which stand already, so that the run without its ends
  -- is its length less 2
  pub ends : (s : List ℕ) (n k : ℕ) → U.check s ≡ accepted n → 3 ≤ k → k < n → 2 ≤ length (new_run s k)
  pub left_stands : (s : List ℕ) (n k : ℕ) → U.check s ≡ accepted n → 3 ≤ k → k < n → Placed s k (left_end s k)
  pub right_stands : (s : List ℕ) (n k : ℕ) → U.check s ≡ accepted n → 3 ≤ k → k < n → Placed s k (right_end s k)
  -- where its ends and the new post stand at stage k+1
  pub halves : (s : List ℕ) (n k : ℕ) → U.check s ≡ accepted n → 3 ≤ k → k < n
      → ExactHalves (places s (k + 1)) (left_end s k) (right_end s k) (new_post s k)
  -- the grid's 2k - 4 and k - 2, the layout's 6n - 12 and 16n - 15, and the n - 1 and n - 2 of degrees and positions
  pub grid : (s : List ℕ) (n k : ℕ) → U.check s ≡ accepted n → 3 ≤ k → k ≤ n → (4 ≤ 2 * k) × (2 ≤ k)
  pub layout : (s : List ℕ) (n : ℕ) → U.check s ≡ accepted n → (12 ≤ 6 * n) × (15 ≤ 16 * n) × (2 ≤ n)
