-- Beside the demands (docs/RULES.md: X3): no sheet shows its board mirrored. Of any unit with the three services.
use Rattle.std.specs.Prelude.{ℕ, ◌≤◌, ◌≡◌, List}
use Rattle.words.specs.Positions.{post}
use Rattle.block.specs.Block.{posts, order, lists}
use Rattle.rings.specs.Plane.{Follows, OuterTriangle}
use Rattle.drawing.specs.Areas.{PositiveArea}
use Rattle.lamp.specs.Given.{accepted}
use Rattle.unit.specs.Demands.{Services, Accepted, places, Placed, on_sheet}

-- A triangle u, a, b inside stage k, in the turn of its rings: b follows a at u, each of the three is placed, and they are not v2, v1, vn so turned.
pub record Inner (s : List ℕ) (k u a b : ℕ) : Type 0 where
  pub turn : Follows (lists s) u a b
  pub placed_u : Placed s k u
  pub placed_a : Placed s k a
  pub placed_b : Placed s k b
  pub not_outer : ¬ (OuterTriangle (post (order s) 1) (post (order s) 2) (post (order s) (posts s)) u a b)

pub record NoMirror (U : Services) : Type 0 where
  -- of an accepted block: at every stage such a triangle turns counter-clockwise, with an area above 0
  pub stages : (s : List ℕ) (n k : ℕ) → U.check s ≡ accepted n → 3 ≤ k → k ≤ n → (u a b : ℕ) → Inner s k u a b → PositiveArea (places s k) u a b
  -- and so it has by the numbers that a sheet call wrote
  pub sheets : (s : List ℕ) (k : ℕ) (buffer : List ℕ) → Accepted (U.sheet s k buffer) → (u a b : ℕ) → Inner s k u a b
      → PositiveArea (on_sheet (order s) (U.buffer s k buffer)) u a b
