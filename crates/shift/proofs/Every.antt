-- Every stage of a list that fits so far is drawn; and what follows for each stage and each step.
use Prim.Native.Nat.{ℕ, ◌+◌, ◌*◌, ◌-◌, ◌%◌, ◌≤◌, ◌<◌}
use mathlib.Core.Path.{◌≡◌, refl, ap, sym, ◌∙◌, subst⁻¹}
use mathlib.Core.Logic.{◌⊎◌, inl, inr, ◌≢◌}
use mathlib.Core.List.{List, [], ◌∷◌, ◌++◌}
use native.Mathlib.Omega.{arith}
use lib.ListN.{length, take, length-append}
use lib.Seq.{length-take-le}
use Rattle.words.specs.Lists.{In, last_of}
use Rattle.words.specs.Positions.{post}
use Rattle.words.proofs.Lists.{Once, in_right, last_append}
use Rattle.rings.specs.Rings.{ring}
use Rattle.rings.specs.Plane.{Plane, Wire}
use Rattle.order.specs.Order.{run}
use Rattle.order.specs.Fitting.{FitsSoFar}
use Rattle.order.proofs.Fitting.{fits_faces, fits_once}
use Rattle.placing.specs.Stages.{Stage, place, stage}
use Rattle.placing.proofs.Steps.{Step, stage_next, stage_placed, stage_first, stage_second, step_at, at_each_stage}
use Rattle.drawing.specs.Meeting.{NoneMeet, OnGrid}
use Rattle.words.proofs.Chains.{Chain}
use Rattle.drawing.proofs.Build.{Built, Good}
use Rattle.shift.proofs.Drawn.{places_of, Drawn}
use Rattle.shift.proofs.Next.{OneStep}
use Rattle.shift.proofs.DrawnSays.{turns, drawn_apart, low, drawn_within, grid, rising, even, contour_placed, in_some, in_one, group_placed}
use Rattle.shift.proofs.Tied.{Tied, tied_third, tied_next, one_step, left_moves, inner_moves, right_moves}

-- v1, v2 and v3 are three posts
pub three_differ : (vs : List ℕ) → Once vs → 3 ≤ length vs → (post vs 1 ≢ post vs 2) × (post vs 1 ≢ post vs 3) × (post vs 2 ≢ post vs 3)
three_differ [] o h = absurd (omega arith)
three_differ (a ∷ []) o h = absurd (omega arith)
three_differ (a ∷ b ∷ []) o h = absurd (omega arith)
three_differ (a ∷ b ∷ c ∷ l) o h = ((λ e. o.0 (inl e)), (λ e. o.0 (inr (inl e))), (λ e. o.1.0 (inl e)))

-- a step of the method: the next stage, what it does to the posts, and how far the group of each contour post moves
pub record Advance (G : List (List ℕ)) (t t' : Stage) (v : ℕ) : Type 0 where
  pub step : Step G t v
  pub next : t' ≡ place G t v
  pub does : OneStep t t' step.p step.q v
  pub left : (c u : ℕ) → In c (step.X ++ step.p ∷ []) → In u (t.group c) → t'.x u ≡ t.x u
  pub inner : (c u : ℕ) → In c step.M → In u (t.group c) → t'.x u ≡ t.x u + 1
  pub right : (c u : ℕ) → In c (step.q ∷ step.Y) → In u (t.group c) → t'.x u ≡ t.x u + 2

module _ (G : List (List ℕ)) (vn : ℕ) (vs : List ℕ) (P : Plane G (post vs 1) (post vs 2) vn) (A : FitsSoFar G vn vs) where
  -- the drawing of stage k, its wires those of the rings
  pub tied_at : (k : ℕ) → 3 ≤ k → k ≤ length vs → Tied G (stage G (take k vs))
  tied_at k h i =
      let F = fits_faces G vn vs P A in
      let d = three_differ vs (fits_once G vn vs P A) (omega arith) in
      at_each_stage G vn vs P A (Tied G) (tied_third G F (post vs 1) (post vs 2) (post vs 3) d.0 d.1 d.2)
      (λ t v S T. tied_next G t v S T F) k h i

  module _ (k : ℕ) (h : 3 ≤ k) (i : k ≤ length vs) where
    abbrev t : Stage
    t = stage G (take k vs)

    -- v1 to vk are placed
    pub placed_at : t.placed ≡ take k vs
    placed_at = stage_placed G vs k h i

    pub count_at : length t.placed ≡ k
    count_at = ap length placed_at ∙ length-take-le k vs i

    pub drawn_at : Drawn t (tied_at k h i).B
    drawn_at = (tied_at k h i).drawn

    pub wires_at : (u w : ℕ) → In u (take k vs) → In w (take k vs) → In w (ring G u) → Built (tied_at k h i).B u w ⊎ Built (tied_at k h i).B w u
    wires_at u w a b = (tied_at k h i).wires u w (rw placed_at a) (rw placed_at b)

    -- no triangle has turned over
    pub turns_at : Good (places_of t) (tied_at k h i).B
    turns_at = turns drawn_at

    -- the height is at most the column, and both together at most 2k - 4
    pub low_at : (u : ℕ) → In u (take k vs) → t.y u ≤ t.x u
    low_at u a = low drawn_at u (rw placed_at a)

    pub within_at : (u : ℕ) → In u (take k vs) → t.x u + t.y u + 4 ≤ 2 * k
    within_at u a = let c = count_at in omega (arith, drawn_within drawn_at u (rw placed_at a))

    -- no column beyond 2k - 4, no height beyond k - 2, and no point for two posts
    pub grid_at : OnGrid (places_of t) (λ u. In u (take k vs)) (2 * k - 4) (k - 2)
    grid_at =
        record {
          inside = λ u a. (omega (arith, within_at u a), omega (arith, within_at u a, low_at u a));
          different = λ u w a b. (grid drawn_at).different u w (rw placed_at a) (rw placed_at b);
        }

    -- two wires have no point in common but a post at which both end
    pub no_short_at : NoneMeet (places_of t) (Wire G (take k vs))
    no_short_at a b c e f g = drawn_apart drawn_at a b c e (wires_at a b f.0 f.1 f.2) (wires_at c e g.0 g.1 g.2)

    -- the contour's columns rise from left to right, from v1 in column 0 to v2 in column 2k - 4; and x + y is even on it
    pub rising_at : Chain (λ a b. t.x a < t.x b) t.contour
    rising_at = rising drawn_at

    pub even_at : (u : ℕ) → In u t.contour → (t.x u + t.y u) % 2 ≡ 0
    even_at = even drawn_at

    pub left_at : t.x (post vs 1) ≡ 0
    left_at = ap t.x (sym (stage_first G vs k h i)) ∙ (tied_at k h i).left

    pub right_at : t.x (post vs 2) ≡ 2 * k - 4
    right_at =
        let c = count_at in
        let e = ap t.x (stage_second G vs k h i) in
        omega (arith, (tied_at k h i).right)

    -- the contour's posts are placed, and each post placed is in the group of one of them, and of no other
    pub contour_placed_at : (c : ℕ) → In c t.contour → In c (take k vs)
    contour_placed_at c a = rw placed_at at (contour_placed drawn_at c a)

    pub group_placed_at : (c u : ℕ) → In c t.contour → In u (t.group c) → In u (take k vs)
    group_placed_at c u a b = rw placed_at at (group_placed drawn_at c u a b)

    pub in_some_at : (u : ℕ) → In u (take k vs) → (c : ℕ) × In c t.contour × In u (t.group c)
    in_some_at u a = in_some drawn_at u (rw placed_at a)

    pub in_one_at : (a b u : ℕ) → In a t.contour → In b t.contour → In u (t.group a) → In u (t.group b) → a ≡ b
    in_one_at = in_one drawn_at

  -- ---- from stage k to k + 1
  module _ (k : ℕ) (h : 3 ≤ k) (i : k < length vs) where
    pub one_step_at : Advance G (stage G (take k vs)) (stage G (take (k + 1) vs)) (post vs (k + 1))
    one_step_at =
        let e = stage_next G vs k h i in
        let S = step_at G vn vs P A k h i in
        let T = tied_at k h (omega arith) in
        let t = stage G (take k vs) in
        let v = post vs (k + 1) in
        record {
          step = S;
          next = e;
          does = rw e (one_step G t v S T);
          left = rw e (left_moves G t v S T);
          inner = rw e (inner_moves G t v S T);
          right = rw e (right_moves G t v S T);
        }

    -- a post that stands is as high as before, and 0, 1 or 2 columns further right
    pub moves_at : (u : ℕ) → In u (take k vs) → ((stage G (take (k + 1) vs)).y u ≡ (stage G (take k vs)).y u)
        × ((stage G (take k vs)).x u ≤ (stage G (take (k + 1) vs)).x u) × ((stage G (take (k + 1) vs)).x u ≤ (stage G (take k vs)).x u + 2)
    moves_at u a =
        let b : In u (stage G (take k vs)).placed = rw (placed_at k h (omega arith)) a in
        let d = one_step_at.does in
        (d.height u b, d.never_left u b, d.at_most_two u b)

    -- the new post's run, as its step has it
    pub run_at_lem : let S = one_step_at.step in run G (take k vs) (post vs (k + 1)) ≡ S.p ∷ (S.M ++ S.q ∷ [])
    run_at_lem = ap (λ (l : List ℕ). run G l (post vs (k + 1))) (sym (placed_at k h (omega arith))) ∙ one_step_at.step.run_is

    -- the new post's run w has two ends, both placed before, and the step is one over them: what is halved is exact
    pub exact_at : (w : List ℕ) → w ≡ run G (take k vs) (post vs (k + 1)) → (2 ≤ length w) × In (post w 1) (take k vs) × In (last_of 0 w) (take k vs)
        × OneStep (stage G (take k vs)) (stage G (take (k + 1) vs)) (post w 1) (last_of 0 w) (post vs (k + 1))
    exact_at w e =
        let A = one_step_at in
        let S = A.step in
        let is : w ≡ S.p ∷ (S.M ++ S.q ∷ []) = e ∙ run_at_lem in
        let all = contour_placed_at k h (omega arith) in
        let p = in_right S.p S.X (S.p ∷ (S.M ++ S.q ∷ S.Y)) (inl refl) in
        let q = in_right S.q S.X (S.p ∷ (S.M ++ S.q ∷ S.Y)) (inr (in_right S.q S.M (S.q ∷ S.Y) (inl refl))) in
        rw (is, last_append S.p S.M S.q []) (
          omega (arith, length-append S.M (S.q ∷ [])),
          all S.p (subst⁻¹ (In S.p) S.before p),
          all S.q (subst⁻¹ (In S.q) S.before q),
          A.does,
        )
