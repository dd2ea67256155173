-- Beside demand 3: how far the sheet of the last stage reaches. No post stands beyond its grid (Demand3: grid); that both sides of the grid are
-- reached stands here, so that x goes from 0 to 2n - 4 and y from 0 to n - 2 (docs/RULES.md: T8). Of any unit with the three services.
use Rattle.std.specs.Prelude.{ℕ, ◌*◌, ◌-◌, ◌≡◌, List}
use Rattle.words.specs.Positions.{post}
use Rattle.block.specs.Block.{posts, order}
use Rattle.drawing.specs.Meeting.{Places}
use Rattle.lamp.specs.Given.{accepted}
use Rattle.unit.specs.Demands.{Services, Accepted, places, on_sheet}

-- the post u stands in this column, at this height
pub record StandsAt (now : Places) (u column height : ℕ) : Type 0 where
  pub is_column : now.x u ≡ column
  pub is_height : now.y u ≡ height

-- of n posts in this order: v1 and v2 stand at the two ends of the bottom, and vn half way between them at the top
pub record Reaches (now : Places) (vs : List ℕ) (n : ℕ) : Type 0 where
  pub left : StandsAt now (post vs 1) 0 0
  pub right : StandsAt now (post vs 2) (2 * n - 4) 0
  pub top : StandsAt now (post vs n) (n - 2) (n - 2)

pub record SheetSize (U : Services) : Type 0 where
  -- of an accepted block: so it is at its last stage
  pub stages : (s : List ℕ) (n : ℕ) → U.check s ≡ accepted n → Reaches (places s n) (order s) n
  -- and so it is by the numbers that a sheet call for the last stage wrote
  pub sheets : (s b : List ℕ) → Accepted (U.sheet s (posts s) b) → Reaches (on_sheet (order s) (U.buffer s (posts s) b)) (order s) (posts s)
