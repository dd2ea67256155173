-- How the engine holds a stage in the arrays of a contour.
use Rattle.std.specs.Prelude.{ℕ, ◌≤◌, List, length}
use Rattle.rings.specs.Given.{rings_of}
use Rattle.order.specs.declared.Runs.{Runs}
use Rattle.placing.specs.Stages.{Stage}
use Rattle.contour.specs.declared.Contour.{Contour}
use Rattle.engine.specs.Shows.{Shows, Room, RoomFor, Corners, Holds, Columned}

-- the rings, and the list of posts that fits on them
abbrev pub board : Runs → List (List ℕ)
board r = rings_of r.plan.lists

abbrev pub listed : Runs → List ℕ
listed r = r.plan.vs.now

-- stage k is one of that list
abbrev pub HasStage : Runs → ℕ → Type 0
HasStage r k = (3 ≤ k) × (k ≤ length r.plan.vs.now)

abbrev pub ShowsIn : Stage → Contour → Type 0
ShowsIn t c = Shows t c.ys.now c.off.now c.cover.now c.left.now c.right.now

abbrev pub RoomIn : ℕ → Contour → Type 0
RoomIn n c = Room n c.ys.now c.off.now c.cover.now c.left.now c.right.now

abbrev pub RoomForIn : ℕ → Contour → List ℕ → Type 0
RoomForIn u c xs = RoomFor u c.ys.now c.cover.now c.left.now c.right.now xs

abbrev pub CornersIn : ℕ → ℕ → ℕ → Contour → Type 0
CornersIn v1 v2 v3 c = Corners v1 v2 v3 c.ys.now c.off.now c.cover.now c.left.now c.right.now

abbrev pub HoldsIn : Runs → ℕ → Contour → Type 0
HoldsIn r k c = Holds r.plan.lists.at.now r.plan.lists.ents.now r.plan.vs.now k c.ys.now c.off.now c.cover.now c.left.now c.right.now

abbrev pub ColumnedIn : Runs → ℕ → Contour → List ℕ → Type 0
ColumnedIn r k c xs =
    Columned r.plan.lists.at.now r.plan.lists.ents.now r.plan.vs.now k c.ys.now c.off.now c.cover.now c.left.now c.right.now xs
