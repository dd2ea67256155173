-- What stands on a sheet: the entries of an accepted call are the stage's points, so demand 3 holds of them.
use Prim.Native.Nat.{ℕ, zero, suc, ◌+◌, ◌*◌, ◌-◌, ◌≤◌, ◌<◌}
use mathlib.Core.Path.{◌≡◌, refl, sym, ap, ◌∙◌, subst}
use mathlib.Core.Logic.{inl, inr}
use mathlib.Core.List.{List, [], ◌∷◌, ◌++◌, flat_map}
use native.Mathlib.Omega.{arith}
use lib.ListN.{length, get_or, take, drop, length-take}
use lib.Seq.{get_or-take}
use Rattle.words.specs.Lists.{In}
use Rattle.words.specs.Positions.{position_of}
use Rattle.words.proofs.Positions.{in_take, take_in, position_is}
use Rattle.block.specs.Block.{posts, order, lists}
use Rattle.rings.specs.Plane.{Wire}
use Rattle.placing.specs.Stages.{stage}
use Rattle.placing.specs.Records.{entries_of}
use Rattle.placing.proofs.Steps.{stage_placed}
use Rattle.drawing.specs.Meeting.{Places, Point, On, At, End, OnGrid, NoneMeet}
use Rattle.lamp.specs.Lamp.{check_rows, sheet_rows, stage_rows, room_rows}
use Rattle.lamp.specs.Given.{NoneApplies}
use Rattle.unit.specs.Replies.{stage_at, sheet_reply}
use Rattle.unit.specs.Demands.{the_paper, Accepted, places, Placed, Moves, on_sheet, Safe, SafeSheets}
use Rattle.lamp.proofs.Given.{given_says, none_left, none_right}
use Rattle.lamp.proofs.Loads.{order_length}
use Rattle.lamp.proofs.Accepts.{lists_count, none_passes, stage_range}
use Rattle.unit.proofs.DemandThree.{Passing, on_grid, no_short, moves}
use Rattle.unit.proofs.Demanded.{second_demand}

-- entries two by two
module _ (x y : ℕ → ℕ) where
  pub pairs_x : (l rest : List ℕ) (i : ℕ) → i < length l → get_or (flat_map (λ u. x u ∷ y u ∷ []) l ++ rest) (2 * i) 0 ≡ x (get_or l i 0)
  unfolding flat_map
  pairs_x [] rest i h = absurd (omega arith)
  pairs_x (u ∷ l) rest zero h = refl
  pairs_x (u ∷ l) rest (suc i) h = let e : 2 * suc i ≡ suc (suc (2 * i)) = omega arith in rw e (pairs_x l rest i (omega arith))

  pub pairs_y : (l rest : List ℕ) (i : ℕ) → i < length l → get_or (flat_map (λ u. x u ∷ y u ∷ []) l ++ rest) (2 * i + 1) 0 ≡ y (get_or l i 0)
  unfolding flat_map
  pairs_y [] rest i h = absurd (omega arith)
  pairs_y (u ∷ l) rest zero h = refl
  pairs_y (u ∷ l) rest (suc i) h = let e : 2 * suc i + 1 ≡ suc (suc (2 * i + 1)) = omega arith in rw e (pairs_y l rest i (omega arith))

-- points that are the same at the ends lie on the same segments
module _ (p q : Places) (Post : ℕ → Type 0) (same-x : (u : ℕ) → Post u → p.x u ≡ q.x u) (same-y : (u : ℕ) → Post u → p.y u ≡ q.y u) where
  same_on : {a b : ℕ} {P : Point} → Post a → Post b → On p a b P → On q a b P
  same_on {a} {b} {P} ha hb o =
      record { i = o.i; j = o.j; some = o.some; is_x = rw (← (same-x a ha), ← (same-x b hb)) o.is_x; is_y = rw (← (same-y a ha), ← (same-y b hb)) o.is_y }

  same_at : {z : ℕ} {P : Point} → Post z → At q z P → At p z P
  same_at {z} h o = record { is_x = rw (same-x z h) o.is_x; is_y = rw (same-y z h) o.is_y }

  same_grid : (w h : ℕ) → OnGrid q Post w h → OnGrid p Post w h
  same_grid w h g =
      record {
        inside = λ u i. rw (same-x u i, same-y u i) (g.inside u i);
        different = λ u z i j e f. g.different u z i j (sym (same-x u i) ∙ e ∙ same-x z j) (sym (same-y u i) ∙ f ∙ same-y z j);
      }

  same_meet : (W : ℕ → ℕ → Type 0) → ((a b : ℕ) → W a b → Post a × Post b) → NoneMeet q W → NoneMeet p W
  same_meet W ends none a b c e w v n m =
      let t = none a b c e w v n (m.0, same_on (ends a b w).0 (ends a b w).1 m.1, same_on (ends c e v).0 (ends c e v).1 m.2) in
      (t.0, t.1, t.2, same_at (end_post t.0 t.1) t.3)
    where
      end_post : (z : ℕ) → End z a b → Post z
      end_post z (inl q) = rw q (ends a b w).0
      end_post z (inr q) = rw q (ends a b w).1

module _ (s : List ℕ) (k : ℕ) (b : List ℕ) (a : Accepted (sheet_reply s k b)) where
  none : NoneApplies (check_rows s ++ (stage_rows k ++ room_rows k (length b))) s
  unfolding sheet_reply sheet_rows
  none = given_says s (λ z. 2 * k) (sheet_rows s k (length b)) a.0 a.1

  pub sheet_passes : Passing s
  sheet_passes = record { passes = none_passes s (none_left (check_rows s) (stage_rows k ++ room_rows k (length b)) s none); all = sym (lists_count s) }

  inside : (3 ≤ k) × (k ≤ posts s)
  inside =
      let own = stage_rows k ++ room_rows k (length b) in
      stage_range s k (none_left (stage_rows k) (room_rows k (length b)) s (none_right (check_rows s) own s none))

  pub sheet_least : 3 ≤ k
  sheet_least = inside.0

  pub sheet_most : k ≤ posts s
  sheet_most = inside.1

  -- the buffer's entries are where the posts stand
  pub written : the_paper.buffer s k b ≡ flat_map (λ u. (stage_at k s).x u ∷ (stage_at k s).y u ∷ []) (take k (order s)) ++ drop (2 * k) b
  unfolding entries_of stage_at
  written =
      second_demand.stands s k b a
      ∙ ap (λ (l : List ℕ). flat_map (λ u. (stage (lists s) (take k (order s))).x u ∷ (stage (lists s) (take k (order s))).y u ∷ []) l ++ drop (2 * k) b)
      (stage_placed (lists s) (order s) k sheet_least (omega (arith, sheet_most, order_length s)))

  pub sheet_x : (u : ℕ) → Placed s k u → (on_sheet (order s) (the_paper.buffer s k b)).x u ≡ (places s k).x u
  sheet_x u h =
      let t = position_is (order s) k u h in
      let i = position_of (order s) u - 1 in
      let there : i < length (take k (order s)) = omega (arith, t.0, t.1, length-take k (order s)) in
      let at = pairs_x (stage_at k s).x (stage_at k s).y (take k (order s)) (drop (2 * k) b) i there in
      rw written (at ∙ ap (stage_at k s).x (get_or-take k (order s) i 0 t.0 ∙ t.2))

  pub sheet_y : (u : ℕ) → Placed s k u → (on_sheet (order s) (the_paper.buffer s k b)).y u ≡ (places s k).y u
  sheet_y u h =
      let t = position_is (order s) k u h in
      let i = position_of (order s) u - 1 in
      let there : i < length (take k (order s)) = omega (arith, t.0, t.1, length-take k (order s)) in
      let at = pairs_y (stage_at k s).x (stage_at k s).y (take k (order s)) (drop (2 * k) b) i there in
      rw written (at ∙ ap (stage_at k s).y (get_or-take k (order s) i 0 t.0 ∙ t.2))

  pub sheet_safe : Safe s k (the_paper.buffer s k b)
  sheet_safe =
      let sheet = on_sheet (order s) (the_paper.buffer s k b) in
      let stage = places s k in
      let W = Wire (lists s) (take k (order s)) in
      let on = on_grid s sheet_passes k sheet_least sheet_most in
      let apart = no_short s sheet_passes k sheet_least sheet_most in
      record {
        grid = same_grid sheet stage (Placed s k) sheet_x sheet_y (2 * k - 4) (k - 2) on;
        no_short = same_meet sheet stage (Placed s k) sheet_x sheet_y W (λ c e w. (w.0, w.1)) apart;
      }

later : (s : List ℕ) (k u : ℕ) → Placed s k u → Placed s (k + 1) u
later s k u h =
    let t = in_take k (order s) u h in
    subst (λ (z : ℕ). In z (take (k + 1) (order s))) t.3 (take_in (k + 1) (order s) t.0 (omega (arith, t.1)) t.2)

-- every sheet is safe, and from one to the next posts move as they may
pub safe_sheets : SafeSheets the_paper
safe_sheets = record { safe = sheet_safe; moving = moving }
  where
    moving : (s : List ℕ) (k : ℕ) (b c : List ℕ) → Accepted (sheet_reply s k b) → Accepted (sheet_reply s (k + 1) c) → (u : ℕ) → Placed s k u
        → Moves (on_sheet (order s) (the_paper.buffer s k b)) (on_sheet (order s) (the_paper.buffer s (k + 1) c)) u
    moving s k b c f g u h =
        let m = moves s (sheet_passes s k b f) k (sheet_least s k b f) (omega (arith, sheet_most s (k + 1) c g)) u h in
        let n = later s k u h in
        record {
          height = rw (sheet_y s k b f u h, sheet_y s (k + 1) c g u n) m.height;
          never_left = rw (sheet_x s k b f u h, sheet_x s (k + 1) c g u n) m.never_left;
          at_most_two = rw (sheet_x s k b f u h, sheet_x s (k + 1) c g u n) m.at_most_two;
        }
