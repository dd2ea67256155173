-- O2 to O4 and Chrobak and Nakano's conditions agree: in a triangulated plane graph an order is canonical by the rule per position exactly if each
-- stage keeps co1 to co3; and C_k is then a list from v1 to v2, over which they can be written.
use mathlib.Core.Logic.{◌↔◌, inr}
use mathlib.Core.List.{List}
use Prim.Native.Nat.{ℕ}
use lib.ListN.{length}
use Rattle.words.specs.Positions.{post}
use Rattle.rings.specs.Plane.{Plane}
use Rattle.order.specs.Canonical.{Canonical}
use Rattle.growth.specs.Co.{ContourList, Co, CoOver, CoOrder}
use Rattle.growth.proofs.FromStages.{from_stages}
use Rattle.growth.proofs.ToStages.{to_stages}
use Rattle.growth.proofs.Contours.{closing_wire, on_list}

module _ (G : List (List ℕ)) (vs : List ℕ) (k : ℕ) (K : List ℕ) where
  -- co1 to co3 over a contour that is written as a list, and by its wires
  pub over_contour : ContourList G vs k K → Co G vs k → CoOver G vs k K
  over_contour W c = record {
    contour = W;
    co1_two_connected = c.co1_two_connected;
    co1_triangulated = c.co1_triangulated;
    co3_outside = c.co3_outside;
    co3_near = λ l a i j. (on_list G vs k K W a).0 (c.co3_near l a i j);
  }

  pub by_wires : CoOver G vs k K → Co G vs k
  by_wires c = record {
    co1_two_connected = c.co1_two_connected;
    co1_triangulated = c.co1_triangulated;
    co2_base = inr (closing_wire G vs k K c.contour);
    co3_outside = c.co3_outside;
    co3_near = λ l a i j. (on_list G vs k K c.contour a).1 (c.co3_near l a i j);
  }

module _ (G : List (List ℕ)) (vs : List ℕ) (P : Plane G (post vs 1) (post vs 2) (post vs (length G))) where
  pub agree : Canonical G vs ↔ CoOrder G vs
  agree = (to_stages G vs P, from_stages G vs P)
