-- No sheet is a mirror image: each inner triangle of a stage turns as its ring does, and so do the numbers that a sheet call wrote.
use Prim.Native.Nat.{ℕ, ◌≤◌}
use mathlib.Core.Path.{◌≡◌, sym}
use mathlib.Core.List.{List}
use native.Mathlib.Omega.{arith}
use Rattle.block.specs.Block.{posts, order, lists}
use Rattle.drawing.specs.Areas.{PositiveArea}
use Rattle.shift.proofs.Mirror.{no_mirror_at}
use Rattle.lamp.specs.Given.{accepted, check_reply}
use Rattle.lamp.proofs.Loads.{order_length}
use Rattle.lamp.proofs.Accepts.{lists_count, none_passes, accepted_none, accepted_posts}
use Rattle.unit.specs.Replies.{stage_at, sheet_reply}
use Rattle.unit.specs.Demands.{the_paper, Accepted, places, on_sheet}
use Rattle.unit.specs.Mirror.{Inner, NoMirror}
use Rattle.unit.proofs.DemandThree.{Passing, vn, plane, fits}
use Rattle.unit.proofs.Written.{sheet_passes, sheet_least, sheet_most, sheet_x, sheet_y}

module _ (s : List ℕ) (S : Passing s) (k : ℕ) (h : 3 ≤ k) (i : k ≤ posts s) where
  turns : (u a b : ℕ) → Inner s k u a b → PositiveArea (places s k) u a b
  unfolding stage_at
  turns u a b t =
      no_mirror_at (lists s) (vn s S) (order s) (plane s S) (fits s S) k h (omega (arith, order_length s)) u a b t.turn
      t.placed_u t.placed_a t.placed_b (λ o. t.not_outer (rw S.all o))

-- the same numbers, read off the sheet
module _ (s : List ℕ) (k : ℕ) (b : List ℕ) (g : Accepted (sheet_reply s k b)) where
  turns_on_sheet : (u a c : ℕ) → Inner s k u a c → PositiveArea (on_sheet (order s) (the_paper.buffer s k b)) u a c
  turns_on_sheet u a c t =
      let x = sheet_x s k b g in
      let y = sheet_y s k b g in
      rw (x u t.placed_u, x a t.placed_a, x c t.placed_b, y u t.placed_u, y a t.placed_a, y c t.placed_b)
      (turns s (sheet_passes s k b g) k (sheet_least s k b g) (sheet_most s k b g) u a c t)

pub no_mirror : NoMirror the_paper
no_mirror = record { stages = stages; sheets = turns_on_sheet }
  where
    stages : (s : List ℕ) (n k : ℕ) → check_reply s ≡ accepted n → 3 ≤ k → k ≤ n → (u a b : ℕ) → Inner s k u a b → PositiveArea (places s k) u a b
    stages s n k e h i =
        turns s (record { passes = none_passes s (accepted_none s n e); all = sym (lists_count s) }) k h (omega (arith, accepted_posts s n e))
