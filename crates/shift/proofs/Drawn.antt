-- A stage of the shift method, drawn: what each step keeps.
use Prim.Native.Nat.{ℕ, ◌+◌, ◌*◌}
use mathlib.Core.Path.{◌≡◌}
use mathlib.Core.List.{List}
use lib.ListN.{length}
use Rattle.words.specs.Lists.{In}
use Rattle.placing.specs.Stages.{Stage}
use Rattle.drawing.specs.Meeting.{Places}
use Rattle.drawing.proofs.Build.{Build, Post}
use Rattle.shift.proofs.Shifting.{Laid}

-- where the posts stand at a stage
abbrev pub places_of : Stage → Places
places_of t = record { x = t.x; y = t.y }

-- B is how the posts of the stage were placed, its index the contour; g u the place on the contour of the head of u's group
pub record Drawn (t : Stage) {C : List ℕ} (B : Build C) : Type 0 where
  pub contour : t.contour ≡ C
  pub posts : (u : ℕ) → Post B u → In u t.placed
  pub placed : (u : ℕ) → In u t.placed → Post B u
  pub width : ℕ
  pub wide : width + 4 ≡ 2 * length t.placed
  pub g : ℕ → ℕ
  pub laid : Laid (places_of t) g width B
  -- each post placed is in a group of the contour; and the group of c holds the posts placed with c's place
  pub headed : (u : ℕ) → Post B u → (c : ℕ) × In c C × (g u ≡ g c)
  pub in_group : (c u : ℕ) → In c C → In u (t.group c) → Post B u × (g u ≡ g c)
  pub grouped : (c u : ℕ) → In c C → Post B u → g u ≡ g c → In u (t.group c)
