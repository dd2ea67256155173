-- The corners of a drawing: at every stage v1 and v2 stand at the two ends of the bottom, and vn, which comes last, at the top between them.
use Prim.Native.Nat.{ℕ, ◌+◌, ◌*◌, ◌-◌, ◌≤◌, ◌<◌}
use mathlib.Core.Path.{◌≡◌, refl, ap, ◌∙◌}
use mathlib.Core.List.{List}
use native.Mathlib.Omega.{arith}
use lib.ListN.{length, take}
use Rattle.words.specs.Lists.{In}
use Rattle.words.specs.Positions.{post}
use Rattle.words.proofs.Lists.{turn_closes}
use Rattle.words.proofs.Positions.{take_in}
use Rattle.words.proofs.Tests.{eqb_same}
use Rattle.rings.specs.Plane.{Plane}
use Rattle.rings.proofs.Around.{After}
use Rattle.order.specs.Fitting.{FitsSoFar}
use Rattle.order.proofs.Fitting.{fits_faces, fits_outer}
use Rattle.placing.specs.Stages.{Stage, third, stage}
use Rattle.placing.proofs.Steps.{stage_third, stage_first, stage_second, from_three}
use Rattle.shift.proofs.Every.{Advance, placed_at, low_at, within_at, left_at, right_at, one_step_at}

module _ (G : List (List ℕ)) (vn : ℕ) (vs : List ℕ) (P : Plane G (post vs 1) (post vs 2) vn) (A : FitsSoFar G vn vs) where
  -- v1 and v2 stand at the bottom: a post is no higher than its column, and both together are at most 2k - 4
  module _ (k : ℕ) (h : 3 ≤ k) (i : k ≤ length vs) where
    first_in : In (post vs 1) (take k vs)
    first_in = take_in k vs 0 (omega arith) (omega arith)

    second_in : In (post vs 2) (take k vs)
    second_in = take_in k vs 1 (omega arith) (omega arith)

    first_low : (stage G (take k vs)).y (post vs 1) ≡ 0
    first_low = omega (arith, low_at G vn vs P A k h i (post vs 1) first_in, left_at G vn vs P A k h i)

    second_low : (stage G (take k vs)).y (post vs 2) ≡ 0
    second_low = omega (arith, within_at G vn vs P A k h i (post vs 2) second_in, right_at G vn vs P A k h i)

    pub bottom_at : let t = stage G (take k vs) in
        (t.x (post vs 1) ≡ 0) × (t.y (post vs 1) ≡ 0) × (t.x (post vs 2) ≡ 2 * k - 4) × (t.y (post vs 2) ≡ 0)
    bottom_at = (left_at G vn vs P A k h i, first_low, right_at G vn vs P A k h i, second_low)

  -- the post in position k stands in column k - 2 and at height k - 2
  abbrev pub Top : ℕ → Type 0
  Top k = ((stage G (take k vs)).x (post vs k) ≡ k - 2) × ((stage G (take k vs)).y (post vs k) ≡ k - 2)

  -- v2, v1 is a turn of vn's ring
  at_vn : After G vn (post vs 2) (post vs 1)
  at_vn =
      let F = fits_faces G vn vs P A in
      F.triangle (post vs 1) vn (post vs 2) (F.triangle (post vs 2) (post vs 1) vn (fits_outer G vn vs P A))

  -- the step to vn: its run goes from v1 to v2, the whole width of the drawing, of which it is put half as high and half as far
  module _ (k : ℕ) (h : 3 ≤ k) (i : k < length vs) (e : post vs (k + 1) ≡ vn) where
    abbrev t' : Stage
    t' = stage G (take (k + 1) vs)

    abbrev D : Advance G (stage G (take k vs)) t' (post vs (k + 1))
    D = one_step_at G vn vs P A k h i

    pub top_ends : (D.step.p ≡ post vs 1) × (D.step.q ≡ post vs 2)
    top_ends =
        let S = D.step in
        let j : k ≤ length vs = omega arith in
        let here = placed_at G vn vs P A k h j in
        turn_closes S.p S.M S.q (post vs 2) (post vs 1) (rw (stage_first G vs k h j, stage_second G vs k h j) at S.no_turn)
        (S.the_run_lem.inner (post vs 2) (post vs 1) (rw e at_vn) (rw here (second_in k h j)) (rw here (first_in k h j)))

    top_step : Top (k + 1)
    top_step =
        let d = D.does in
        let low = bottom_at (k + 1) (omega arith) (omega arith) in
        let e = top_ends in
        let xp = ap t'.x e.0 ∙ low.0 in
        let yp = ap t'.y e.0 ∙ low.1 in
        let xq = ap t'.x e.1 ∙ low.2 in
        let yq = ap t'.y e.1 ∙ low.3 in
        (omega (arith, d.exact_x), omega (arith, d.exact_y))

  -- with three posts, vn is v3
  top_third : 3 ≤ length vs → Top 3
  unfolding third
  top_third h = rw (stage_third G vs h, eqb_same (post vs 3)) (refl, refl)

  pub top_at : (n : ℕ) → 3 ≤ n → n ≤ length vs → post vs n ≡ vn → Top n
  top_at n h i = from_three (λ n. post vs n ≡ vn → Top n) (length vs) (λ e. top_third (omega arith)) (λ k h i r. top_step k h i) n h i
