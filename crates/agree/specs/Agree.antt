-- Of blocks: the rule per position (docs/RULES.md: O2 to O4) and Chrobak and Nakano's conditions (X2) ask the same of an order.
use Rattle.std.specs.Prelude.{ℕ, ◌≤◌, ◌<◌, ◌↔◌, List, take}
use Rattle.words.specs.Positions.{post}
use Rattle.block.specs.Block.{posts, order, lists}
use Rattle.rings.specs.Plane.{Reached}
use Rattle.placing.specs.Stages.{stage}
use Rattle.lamp.specs.Lamp.{block_rows, fitting_rows}
use Rattle.lamp.specs.Given.{NoneApplies}
use Rattle.lamp.specs.Retired.{paper_fitting_rows}
use Rattle.growth.specs.Co.{Co, CoOver}

-- G5: wires lead from v1 to every post
abbrev pub Connected : List ℕ → Type 0
Connected s = (u : ℕ) → u < posts s → Reached (lists s) (post (order s) 1) u

-- each stage keeps co1 to co3
abbrev pub CoStages : List ℕ → Type 0
CoStages s = (k : ℕ) → 3 ≤ k → k ≤ posts s → Co (lists s) (order s) k

-- the same written over contours: at every stage some list writes C_k, and they hold over it
abbrev pub CoLists : List ℕ → Type 0
CoLists s = (k : ℕ) → 3 ≤ k → k ≤ posts s → (K : List ℕ) × CoOver (lists s) (order s) k K

-- and the list is the contour over which the stages place the posts (S2)
abbrev pub CoContours : List ℕ → Type 0
CoContours s = (k : ℕ) → 3 ≤ k → k ≤ posts s → CoOver (lists s) (order s) k (stage (lists s) (take k (order s))).contour

-- X2, of connected blocks that pass 1 to 11: the rule per position asks just what co1 to co3 ask of all stages. The whole rule, with the later
-- neighbour (O4), and the rule as the table has it without.
pub record SameRule : Type 0 where
  pub exactly : (s : List ℕ) → NoneApplies block_rows s → Connected s → NoneApplies (paper_fitting_rows s) s ↔ CoStages s
  pub without_14 : (s : List ℕ) → NoneApplies block_rows s → Connected s → NoneApplies (fitting_rows s) s ↔ CoStages s
  -- And so it is with the conditions written over contours, which are then those of the stages (S8).
  pub over_lists : (s : List ℕ) → NoneApplies block_rows s → Connected s → NoneApplies (fitting_rows s) s ↔ CoLists s
  pub over_contours : (s : List ℕ) → NoneApplies block_rows s → Connected s → NoneApplies (fitting_rows s) s ↔ CoContours s
  -- That a block is connected needs no test: the rule gives it, and so does co1 at stage n.
  pub connected_by_rule : (s : List ℕ) → NoneApplies block_rows s → NoneApplies (fitting_rows s) s → Connected s
  pub connected_by_co : (s : List ℕ) → NoneApplies block_rows s → CoStages s → Connected s
