-- The last stage reaches both sides of its grid, and so do the numbers that a sheet call wrote.
use Prim.Native.Nat.{ℕ, ◌-◌, ◌≤◌}
use mathlib.Core.Path.{◌≡◌, refl, sym, ap, ◌∙◌}
use mathlib.Core.List.{List}
use native.Mathlib.Omega.{arith}
use lib.ListN.{length}
use Rattle.words.specs.Positions.{post}
use Rattle.words.proofs.Positions.{take_in}
use Rattle.block.specs.Block.{posts, order, lists}
use Rattle.shift.proofs.Corners.{bottom_at, top_at}
use Rattle.lamp.specs.Given.{accepted, check_reply}
use Rattle.lamp.proofs.Loads.{order_length}
use Rattle.lamp.proofs.Accepts.{lists_count, none_passes, accepted_none, accepted_posts, accepted_framed}
use Rattle.unit.specs.Replies.{stage_at, sheet_reply}
use Rattle.unit.specs.Demands.{the_paper, Accepted, places, Placed, on_sheet}
use Rattle.unit.specs.Size.{StandsAt, Reaches, SheetSize}
use Rattle.unit.proofs.DemandThree.{Passing, vn, plane, fits}
use Rattle.unit.proofs.Written.{sheet_passes, sheet_least, sheet_x, sheet_y}

module _ (s : List ℕ) (S : Passing s) (n : ℕ) (h : 3 ≤ n) (all : n ≡ posts s) where
  i : n ≤ length (order s)
  i = omega (arith, order_length s)

  reaches : Reaches (places s n) (order s) n
  unfolding stage_at
  reaches =
      let low = bottom_at (lists s) (vn s S) (order s) (plane s S) (fits s S) n h i in
      let last = top_at (lists s) (vn s S) (order s) (plane s S) (fits s S) n h i (ap (post (order s)) (all ∙ S.all)) in
      record {
        left = record { is_column = omega (arith, low.0); is_height = omega (arith, low.1) };
        right = record { is_column = omega (arith, low.2); is_height = omega (arith, low.3) };
        top = record { is_column = omega (arith, last.0); is_height = omega (arith, last.1) };
      }

-- the same numbers, read off the sheet
module _ (s b : List ℕ) (g : Accepted (sheet_reply s (posts s) b)) where
  read : (u x y : ℕ) → Placed s (posts s) u → StandsAt (places s (posts s)) u x y → StandsAt (on_sheet (order s) (the_paper.buffer s (posts s) b)) u x y
  read u x y a t =
      record { is_column = sheet_x s (posts s) b g u a ∙ t.is_column; is_height = sheet_y s (posts s) b g u a ∙ t.is_height }

  placed : (k : ℕ) → 1 ≤ k → k ≤ posts s → Placed s (posts s) (post (order s) k)
  placed k l m = take_in (posts s) (order s) (k - 1) (omega arith) (omega (arith, order_length s))

  reaches_on_sheet : Reaches (on_sheet (order s) (the_paper.buffer s (posts s) b)) (order s) (posts s)
  reaches_on_sheet =
      let three = sheet_least s (posts s) b g in
      let t = reaches s (sheet_passes s (posts s) b g) (posts s) three refl in
      record {
        left = read _ _ _ (placed 1 (omega arith) (omega arith)) t.left;
        right = read _ _ _ (placed 2 (omega arith) (omega arith)) t.right;
        top = read _ _ _ (placed (posts s) (omega arith) (omega arith)) t.top;
      }

pub sheet_size : SheetSize the_paper
sheet_size = record { stages = stages; sheets = reaches_on_sheet }
  where
    stages : (s : List ℕ) (n : ℕ) → check_reply s ≡ accepted n → Reaches (places s n) (order s) n
    stages s n e =
        reaches s (record { passes = none_passes s (accepted_none s n e); all = sym (lists_count s) }) n
        (omega (arith, accepted_posts s n e, (accepted_framed s n e).posts_least)) (accepted_posts s n e)
