-- What is told of runs is so, and each post stands between the ends of its run: by records, by sheets, and by the ends that are listed.
use Prim.Native.Nat.{ℕ, ◌+◌, ◌*◌, ◌-◌, ◌≤◌, ◌<◌}
use mathlib.Core.Path.{◌≡◌, refl, sym, ap, ◌∙◌, subst}
use mathlib.Core.Logic.{◌⊎◌, inl, inr}
use mathlib.Core.List.{List, ◌++◌}
use native.Mathlib.Omega.{arith}
use lib.ListN.{length, get_or, take, drop, length-take}
use lib.Seq.{get_or-take}
use Rattle.words.specs.Lists.{In, last_of}
use Rattle.words.specs.Positions.{post, earlier}
use Rattle.words.proofs.Positions.{in_take, take_in, in_earlier, earlier_in}
use Rattle.block.specs.Block.{posts, order, lists}
use Rattle.rings.proofs.Says.{entry_returned}
use Rattle.order.specs.Order.{from, run}
use Rattle.order.specs.Ranked.{fit_of}
use Rattle.std.proofs.Common.{Ok}
use Rattle.order.proofs.Tests.{lead_placed}
use Rattle.order.proofs.Growth.{run_near}
use Rattle.order.proofs.Fitting.{fits_faces}
use Rattle.order.proofs.Reading.{run_read, run_inside}
use Rattle.placing.specs.Records.{standing, fit_left, fit_right, record_of, ends_of}
use Rattle.placing.specs.declared.Record.{Record}
use Rattle.placing.proofs.Steps.{stage_placed}
use Rattle.placing.proofs.Fits.{left_end_lem, right_end_lem, left_own, right_own, left_front, right_front, recorded, unplaced}
use Rattle.shift.proofs.Between.{run_two, left_near, right_near, left_earlier, right_earlier, all_in_run, begin_inside, last_run, between_at, within_ends_at}
use Rattle.lamp.specs.Lamp.{check_rows, stage_rows, name_rows, sheet_rows, post_rows}
use Rattle.lamp.specs.Given.{accepted, check_reply, NoneApplies}
use Rattle.lamp.proofs.Given.{given_says, accepted_is, none_left, none_right}
use Rattle.lamp.proofs.Loads.{order_length}
use Rattle.lamp.proofs.Accepts.{lists_count, none_passes, accepted_none, accepted_posts, accepted_framed, stage_range}
use Rattle.unit.specs.Replies.{stage_at, sheet_reply, post_reply, ends_after}
use Rattle.unit.specs.Demands.{the_paper, Accepted, places, Placed, on_sheet}
use Rattle.unit.specs.Between.{run_at, begin_at, list_at, RunFound, Flanked, Between, FitBetween}
use Rattle.unit.proofs.DemandThree.{Passing, vn, plane, fits}
use Rattle.unit.proofs.Demanded.{writes}
use Rattle.unit.proofs.Written.{pairs_x, pairs_y, sheet_x}

-- ---- the runs of a block that passes
module _ (s : List ℕ) (S : Passing s) (j : ℕ) (h : 3 ≤ j) (i : j ≤ posts s) where
  within : j ≤ length (order s)
  within = omega (arith, order_length s)

  is_good_lem : fit_of (lists s) (earlier (order s) j) (post (order s) j) ≡ Ok (record { begin = begin_at s j; many = length (run_at s j) })
  is_good_lem = rw ((fits s S).two j h within, (fits s S).run j h within) refl

  run_placed : (a : ℕ) → In a (run_at s j) → In a (earlier (order s) j)
  unfolding run
  run_placed a q = lead_placed (earlier (order s) j) (from (begin_at s j) (list_at s j)) a q

  is_found : RunFound s j (begin_at s j) (length (run_at s j))
  is_found =
      let vs = order s in
      record {
        inside = begin_inside (lists s) (vn s S) vs (plane s S) (fits s S) j h within;
        two = run_two (lists s) (vn s S) vs (plane s S) (fits s S) j h within;
        read = run_read (lists s) (earlier vs j) (post vs j);
        each = λ a. (
          λ q. (run_near (lists s) (earlier vs j) (post vs j) a q, in_earlier vs j a (run_placed a q)),
          λ q. all_in_run (lists s) (vn s S) vs (plane s S) (fits s S) j h within a q.0 (earlier_in vs j a (omega (arith, within)) q.1),
        );
      }

-- the last run
module _ (s : List ℕ) (S : Passing s) (n : ℕ) (h : 3 ≤ n) (all : n ≡ posts s) where
  last_ends : (post (run_at s n) 1 ≡ post (order s) 1) × (last_of 0 (run_at s n) ≡ post (order s) 2)
  last_ends = last_run (lists s) (vn s S) (order s) (plane s S) (fits s S) n h (omega (arith, order_length s)) (ap (post (order s)) (all ∙ S.all))

  begins_first : get_or (list_at s n) (begin_at s n) 0 ≡ post (order s) 1
  begins_first =
      let F = is_found s S n h (omega arith) in
      let z : begin_at s n + 0 ≡ begin_at s n = omega arith in
      let r = run_inside (lists s) (earlier (order s) n) (post (order s) n) 0 (omega (arith, F.two)) (omega (arith, F.inside)) in
      sym (r ∙ ap (λ (b : ℕ). get_or (list_at s n) b 0) z) ∙ last_ends.0

-- ---- an accepted record
module _ (s : List ℕ) (k u : ℕ) (r : Record) (e : post_reply s k u ≡ accepted r) where
  none : NoneApplies (check_rows s ++ (stage_rows k ++ name_rows u)) s
  unfolding post_reply post_rows
  none = given_says s (λ z. record_of (lists z) (stage_at k z) u) (post_rows s k u) r e

  passing : Passing s
  passing = record { passes = none_passes s (none_left (check_rows s) (stage_rows k ++ name_rows u) s none); all = sym (lists_count s) }

  range : (3 ≤ k) × (k ≤ posts s)
  range = stage_range s k (none_left (stage_rows k) (name_rows u) s (none_right (check_rows s) (stage_rows k ++ name_rows u) s none))

  most : k ≤ length (order s)
  most = omega (arith, range.1, order_length s)

  placed_is : (stage_at k s).placed ≡ take k (order s)
  unfolding stage_at
  placed_is = stage_placed (lists s) (order s) k range.0 most

  record_is : r ≡ record_of (lists s) (stage_at k s) u
  unfolding post_reply post_rows
  record_is = accepted_is s (λ z. record_of (lists z) (stage_at k z) u) (post_rows s k u) r e

  -- of a post that is placed
  module _ (p : Placed s k u) where
    is : r ≡ record {
      x = (stage_at k s).x u;
      y = (stage_at k s).y u;
      standing = standing (stage_at k s) u;
      leftmost = fit_left (lists s) (stage_at k s).placed u;
      rightmost = fit_right (lists s) (stage_at k s).placed u;
    }
    is = record_is ∙ recorded (lists s) (stage_at k s) u (rw placed_is p)

    column : r.x ≡ (stage_at k s).x u
    column = ap (λ (r : Record). r.x) is

    left_told : r.leftmost ≡ fit_left (lists s) (take k (order s)) u
    left_told = ap (λ (r : Record). r.leftmost) is ∙ ap (λ (l : List ℕ). fit_left (lists s) l u) placed_is

    right_told : r.rightmost ≡ fit_right (lists s) (take k (order s)) u
    right_told = ap (λ (r : Record). r.rightmost) is ∙ ap (λ (l : List ℕ). fit_right (lists s) l u) placed_is

-- ---- of the post in position j
module _ (s : List ℕ) (k j : ℕ) (r : Record) (l : 1 ≤ j) (m : j ≤ k) (e : post_reply s k (post (order s) j) ≡ accepted r) where
  S : Passing s
  S = passing s k (post (order s) j) r e

  here : Placed s k (post (order s) j)
  here = take_in k (order s) (j - 1) (omega arith) (omega (arith, most s k (post (order s) j) r e))

  to_end : j ≤ length (order s)
  to_end = omega (arith, most s k (post (order s) j) r e)

  left_of_list : r.leftmost ≡ fit_left (lists s) (order s) (post (order s) j)
  left_of_list =
      left_told s k (post (order s) j) r e here ∙ left_front (lists s) (order s) (fits s S).once k j l m (most s k (post (order s) j) r e)

  right_of_list : r.rightmost ≡ fit_right (lists s) (order s) (post (order s) j)
  right_of_list =
      right_told s k (post (order s) j) r e here ∙ right_front (lists s) (order s) (fits s S).once k j l m (most s k (post (order s) j) r e)

  tells : 3 ≤ j → (r.leftmost ≡ post (run_at s j) 1) × (r.rightmost ≡ last_of 0 (run_at s j))
  tells h = (
    left_of_list ∙ left_end_lem (lists s) (order s) (fits s S).once j l to_end h,
    right_of_list ∙ right_end_lem (lists s) (order s) (fits s S).once j l to_end h,
  )

  tells_own : j < 3 → (r.leftmost ≡ post (order s) j) × (r.rightmost ≡ post (order s) j)
  tells_own h = (
    left_of_list ∙ left_own (lists s) (order s) (fits s S).once j l to_end h,
    right_of_list ∙ right_own (lists s) (order s) (fits s S).once j l to_end h,
  )

  -- what is earlier is placed
  still : (a : ℕ) → In a (earlier (order s) j) → Placed s k a
  still a q =
      let w = in_take (j - 1) (order s) a q in
      subst (λ (c : ℕ). In c (take k (order s))) w.3 (take_in k (order s) w.0 (omega (arith, w.1)) w.2)

  module _ (h : 3 ≤ j) where
    fits_between : Between s k j (places s k) (post (run_at s j) 1) (last_of 0 (run_at s j))
    unfolding stage_at
    fits_between =
        let G = lists s in
        let vs = order s in
        let F = fits_faces G (vn s S) vs (plane s S) (fits s S) in
        let near-l = left_near G (vn s S) vs (plane s S) (fits s S) j h to_end in
        let near-r = right_near G (vn s S) vs (plane s S) (fits s S) j h to_end in
        let before-l = left_earlier G (vn s S) vs (plane s S) (fits s S) j h to_end in
        let before-r = right_earlier G (vn s S) vs (plane s S) (fits s S) j h to_end in
        let x = between_at G (vn s S) vs (plane s S) (fits s S) k j h m (most s k (post vs j) r e) in
        record {
          left_wire = (still _ before-l, here, entry_returned G F (post vs j) _ near-l);
          right_wire = (here, still _ before-r, near-r);
          left_earlier = in_earlier vs j _ before-l;
          right_earlier = in_earlier vs j _ before-r;
          flanked = record { left = x.0; right = x.1 };
          outermost = within_ends_at G (vn s S) vs (plane s S) (fits s S) k j h m (most s k (post vs j) r e);
        }

    stands_between : Between s k j (places s k) r.leftmost r.rightmost
    stands_between = let t = tells h in rw (t.0, t.1) fits_between

-- a post that waits
waits : (s : List ℕ) (k j : ℕ) (r : Record) → 1 ≤ j → j ≤ length (order s) → k < j → post_reply s k (post (order s) j) ≡ accepted r
    → (r.leftmost ≡ post (order s) j) × (r.rightmost ≡ post (order s) j)
waits s k j r l i h e =
    let u = post (order s) j in
    let S = passing s k u r e in
    let is = record_is s k u r e ∙ unplaced (lists s) (stage_at k s) u (λ q. out S (subst (In u) (placed_is s k u r e) q)) in
    (ap (λ (r : Record). r.leftmost) is, ap (λ (r : Record). r.rightmost) is)
  where
    out : Passing s → In (post (order s) j) (take k (order s)) → ⊥
    out S q =
        let w = in_take k (order s) (post (order s) j) q in
        let d = (fits s S).once w.0 (j - 1) w.2 (omega arith) w.3 in
        omega (arith, w.1)

-- ---- what ends writes
module _ (s : List ℕ) (k : ℕ) (b : List ℕ) (a : Accepted (sheet_reply s k b)) where
  ends_written : ends_after s k b ≡ ends_of (lists s) (take k (order s)) ++ drop (2 * k) b
  unfolding ends_after sheet_reply
  ends_written =
      writes (sheet_reply s k b) k (ends_of (lists s) (take k (order s))) b a (λ m e. accepted_is s (λ z. 2 * k) (sheet_rows s k (length b)) m e)

  lists_ends : (j : ℕ) (r : Record) → 1 ≤ j → j ≤ k → post_reply s k (post (order s) j) ≡ accepted r
      → (get_or (ends_after s k b) (2 * (j - 1)) 0 ≡ r.leftmost) × (get_or (ends_after s k b) (2 * (j - 1) + 1) 0 ≡ r.rightmost)
  unfolding ends_of
  lists_ends j r l m e =
      let u = post (order s) j in
      let p = here s k j r l m e in
      let there : j - 1 < length (take k (order s)) = omega (arith, length-take k (order s), most s k u r e) in
      let at : get_or (take k (order s)) (j - 1) 0 ≡ u = get_or-take k (order s) (j - 1) 0 (omega arith) in
      let L = fit_left (lists s) (take k (order s)) in
      let R = fit_right (lists s) (take k (order s)) in
      rw ends_written (
        pairs_x L R (take k (order s)) (drop (2 * k) b) (j - 1) there ∙ ap L at ∙ sym (left_told s k u r e p),
        pairs_y L R (take k (order s)) (drop (2 * k) b) (j - 1) there ∙ ap R at ∙ sym (right_told s k u r e p),
      )

pub fit_between : FitBetween the_paper
fit_between =
    record {
      good = λ s n j e h i. is_good_lem s (checked s n e) j h (omega (arith, accepted_posts s n e));
      found = λ s n j e h i. is_found s (checked s n e) j h (omega (arith, accepted_posts s n e));
      from_first = λ s n e. begins_first s (checked s n e) n (least s n e) (accepted_posts s n e);
      to_second = λ s n e. (last_ends s (checked s n e) n (least s n e) (accepted_posts s n e)).1;
      told = λ s k j r h m e. tells s k j r (omega arith) m e h;
      own = own;
      stages = λ s k j r h m e. stands_between s k j r (omega arith) m e h;
      records = columns;
      sheets = on_sheets;
      listed = λ s k j b r l m a. lists_ends s k b a j r l m;
    }
  where
    checked : (s : List ℕ) (n : ℕ) → check_reply s ≡ accepted n → Passing s
    checked s n e = record { passes = none_passes s (accepted_none s n e); all = sym (lists_count s) }

    least : (s : List ℕ) (n : ℕ) → check_reply s ≡ accepted n → 3 ≤ n
    least s n e = omega (arith, accepted_posts s n e, (accepted_framed s n e).posts_least)

    own : (s : List ℕ) (k j : ℕ) (r : Record) → 1 ≤ j → j ≤ length (order s) → (j < 3) ⊎ (k < j) → post_reply s k (post (order s) j) ≡ accepted r
        → (r.leftmost ≡ post (order s) j) × (r.rightmost ≡ post (order s) j)
    own s k j r l i (inl h) e = tells_own s k j r l (omega (arith, (range s k (post (order s) j) r e).0)) e h
    own s k j r l i (inr h) e = waits s k j r l i h e

    columns : (s : List ℕ) (k j : ℕ) (r a b : Record) → 3 ≤ j → j ≤ k → post_reply s k (post (order s) j) ≡ accepted r
        → post_reply s k r.leftmost ≡ accepted a → post_reply s k r.rightmost ≡ accepted b → (a.x < r.x) × (r.x < b.x)
    columns s k j r a b h m e f g =
        let B = stands_between s k j r (omega arith) m e h in
        let xa = column s k r.leftmost a f B.left_wire.0 in
        let xb = column s k r.rightmost b g B.right_wire.1 in
        let xr = column s k (post (order s) j) r e B.right_wire.0 in
        (omega (arith, xa, xr, B.flanked.left), omega (arith, xb, xr, B.flanked.right))

    on_sheets : (s : List ℕ) (k j : ℕ) (b : List ℕ) (r : Record) → 3 ≤ j → j ≤ k → Accepted (sheet_reply s k b)
        → post_reply s k (post (order s) j) ≡ accepted r
        → Flanked (on_sheet (order s) (the_paper.buffer s k b)) r.leftmost (post (order s) j) r.rightmost
    on_sheets s k j b r h m a e =
        let B = stands_between s k j r (omega arith) m e h in
        let xa = sheet_x s k b a r.leftmost B.left_wire.0 in
        let xu = sheet_x s k b a (post (order s) j) B.right_wire.0 in
        let xb = sheet_x s k b a r.rightmost B.right_wire.1 in
        record { left = omega (arith, xa, xu, B.flanked.left); right = omega (arith, xu, xb, B.flanked.right) }
