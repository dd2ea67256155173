-- The halves are exact at every placing of an accepted block, and no difference is cut off.
use Prim.Native.Nat.{ℕ, ◌+◌, ◌≤◌, ◌<◌}
use mathlib.Core.Path.{◌≡◌, refl, sym}
use mathlib.Core.List.{List}
use native.Mathlib.Omega.{arith}
use lib.ListN.{length}
use Rattle.block.specs.Block.{order, lists}
use Rattle.shift.proofs.Next.{OneStep}
use Rattle.shift.proofs.Every.{exact_at}
use Rattle.lamp.specs.Given.{accepted, check_reply}
use Rattle.lamp.proofs.Loads.{order_length}
use Rattle.lamp.proofs.Accepts.{lists_count, none_passes, accepted_none, accepted_posts, accepted_framed}
use Rattle.unit.specs.Replies.{stage_at}
use Rattle.unit.specs.Demands.{the_paper, places, Placed}
use Rattle.unit.specs.Exact.{new_post, new_run, left_end, right_end, ExactHalves, Exact}
use Rattle.unit.proofs.DemandThree.{Passing, vn, plane, fits}

module _ (s : List ℕ) (n k : ℕ) (e : check_reply s ≡ accepted n) (h : 3 ≤ k) (i : k < n) where
  S : Passing s
  S = record { passes = none_passes s (accepted_none s n e); all = sym (lists_count s) }

  over : (2 ≤ length (new_run s k)) × Placed s k (left_end s k) × Placed s k (right_end s k)
      × OneStep (stage_at k s) (stage_at (k + 1) s) (left_end s k) (right_end s k) (new_post s k)
  unfolding stage_at
  over =
      exact_at (lists s) (vn s S) (order s) (plane s S) (fits s S) k h (omega (arith, order_length s, accepted_posts s n e)) (new_run s k) refl

  halves : ExactHalves (places s (k + 1)) (left_end s k) (right_end s k) (new_post s k)
  halves =
      let d = over.3 in
      record {
        whole_x = omega (arith, d.low);
        twice_x = omega (arith, d.low, d.exact_x);
        whole_y = omega (arith, d.rises);
        twice_y = omega (arith, d.rises, d.exact_y);
      }

pub exact_halves : Exact the_paper
exact_halves =
    record {
      ends = λ s n k e h i. (over s n k e h i).0;
      left_stands = λ s n k e h i. (over s n k e h i).1;
      right_stands = λ s n k e h i. (over s n k e h i).2;
      halves = halves;
      grid = λ s n k e h i. omega arith;
      layout = λ s n e. omega (arith, accepted_posts s n e, (accepted_framed s n e).posts_least);
    }
