-- The third demand, of blocks whose order passes: no stage can short.
use Prim.Native.Nat.{ℕ, ◌+◌, ◌*◌, ◌-◌, ◌≤◌, ◌<◌}
use mathlib.Core.Path.{◌≡◌}
use mathlib.Core.List.{List}
use native.Mathlib.Omega.{arith}
use lib.ListN.{length, take}
use Rattle.block.specs.Block.{posts, order, lists}
use Rattle.words.specs.Positions.{post}
use Rattle.rings.specs.Plane.{Plane, Wire}
use Rattle.order.specs.Fitting.{FitsSoFar}
use Rattle.order.proofs.Sound.{Passes}
use Rattle.order.proofs.Fitting.{passes_plane, passes_fits}
use Rattle.drawing.specs.Meeting.{OnGrid, NoneMeet}
use Rattle.shift.proofs.Every.{grid_at, no_short_at, moves_at}
use Rattle.lamp.specs.Given.{accepted}
use Rattle.lamp.proofs.Loads.{order_length}
use Rattle.unit.specs.Replies.{stage_at}
use Rattle.unit.specs.Demands.{Services, places, Placed, Moves, Demand3}

-- a block's order passes the tests of steps 7 to 13, and its n is the number of its lists
pub record Passing (s : List ℕ) : Type 0 where
  pub passes : Passes (lists s) (order s)
  pub all : posts s ≡ length (lists s)

-- its rings are plane, and its order fits to the end
module _ (s : List ℕ) (S : Passing s) where
  abbrev pub vn : ℕ
  vn = post (order s) (length (lists s))

  pub plane : Plane (lists s) (post (order s) 1) (post (order s) 2) vn
  plane = passes_plane (lists s) (order s) S.passes

  pub fits : FitsSoFar (lists s) vn (order s)
  fits = passes_fits (lists s) (order s) S.passes

  module _ (k : ℕ) (h : 3 ≤ k) where
    pub on_grid : k ≤ posts s → OnGrid (places s k) (Placed s k) (2 * k - 4) (k - 2)
    unfolding stage_at
    on_grid i = grid_at (lists s) vn (order s) plane fits k h (omega (arith, order_length s))

    pub no_short : k ≤ posts s → NoneMeet (places s k) (Wire (lists s) (take k (order s)))
    unfolding stage_at
    no_short i = no_short_at (lists s) vn (order s) plane fits k h (omega (arith, order_length s))

    pub moves : k < posts s → (u : ℕ) → Placed s k u → Moves (places s k) (places s (k + 1)) u
    unfolding stage_at
    moves i u a =
        let m = moves_at (lists s) vn (order s) plane fits k h (omega (arith, order_length s)) u a in
        record { height = m.0; never_left = m.1; at_most_two = m.2 }

-- the demand, for a unit that accepts only such blocks, with their n
pub demand_3 : (U : Services)
    → ((s : List ℕ) (n : ℕ) → U.check s ≡ accepted n → Passes (lists s) (order s) × (n ≡ posts s) × (posts s ≡ length (lists s)))
    → Demand3 U
demand_3 U passes =
    record {
      grid = λ s n k e h i. on_grid s (passing s n e) k h (omega (arith, (passes s n e).1));
      no_short = λ s n k e h i. no_short s (passing s n e) k h (omega (arith, (passes s n e).1));
      moves = λ s n k e h i. moves s (passing s n e) k h (omega (arith, (passes s n e).1));
    }
  where
    passing : (s : List ℕ) (n : ℕ) → U.check s ≡ accepted n → Passing s
    passing s n e = let p = passes s n e in record { passes = p.0; all = p.2 }
