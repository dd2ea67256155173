-- The contour of stage k (S8) writes C_k, where the order passes.
use mathlib.Core.Path.{◌≡◌, refl, ap, ◌∙◌, subst, subst⁻¹}
use mathlib.Core.List.{List, [], ◌∷◌}
use Prim.Native.Nat.{ℕ, ◌+◌, ◌-◌, ◌≤◌}
use native.Mathlib.Omega.{arith}
use native.Mathlib.Decide.{ℕ_discrete}
use lib.ListN.{length, take}
use lib.Seq.{get_or-take}
use Rattle.words.specs.Lists.{In}
use Rattle.words.specs.Positions.{post}
use Rattle.rings.specs.Plane.{Plane}
use Rattle.rings.proofs.Around.{After}
use Rattle.rings.proofs.Says.{Faces}
use Rattle.order.specs.Canonical.{Canonical}
use Rattle.order.proofs.Contour.{Contour}
use Rattle.order.specs.Fitting.{FitsSoFar}
use Rattle.order.proofs.Sound.{Passes, boarded_faces, boarded_outer, passes_sound}
use Rattle.order.proofs.Fitting.{passes_plane, passes_fits}
use Rattle.placing.specs.Stages.{Stage, third, place, stage}
use Rattle.placing.proofs.Steps.{Step, stage_third, stage_next, stage_placed, contours, step_at}
use Rattle.growth.specs.Co.{ContourList}
use Rattle.growth.proofs.Named.{post_in}
use Rattle.growth.proofs.Contours.{last_contour, contour_written, last_written}

module _ (G : List (List ℕ)) (vs : List ℕ) (T : Passes G vs) where
  n : length vs ≡ length G
  n = T.board.all

  abbrev v1 : ℕ
  v1 = post vs 1

  abbrev v2 : ℕ
  v2 = post vs 2

  abbrev vn : ℕ
  vn = post vs (length G)

  abbrev P : Plane G (post vs 1) (post vs 2) (post vs (length G))
  P = passes_plane G vs T

  abbrev A : FitsSoFar G (post vs (length G)) vs
  A = passes_fits G vs T

  -- stage n, from the one before
  last_step : (t : Stage) (k : ℕ) → 3 ≤ k → k + 1 ≡ length G → t.placed ≡ take k vs → (s : Step G t vn)
      → (place G t vn).contour ≡ v1 ∷ vn ∷ v2 ∷ []
  last_step t k h l e s =
      let w1 = post t.placed 1 in
      let w2 = post t.placed 2 in
      let e1 : w1 ≡ v1 = ap (λ (r : List ℕ). post r 1) e ∙ get_or-take k vs 0 0 (omega arith) in
      let e2 : w2 ≡ v2 = ap (λ (r : List ℕ). post r 2) e ∙ get_or-take k vs 1 0 (omega arith) in
      let C = subst (Contour (After G) w1 w2 t.placed) s.before s.old in
      s.after
      ∙ last_contour (After G) w1 w2 vn t.placed s.p s.M s.q s.X s.Y s.the_run_lem C s.no_turn
      (rw (e1, e2) back) (rw (e1, e) (placed 1 (omega arith) (omega arith))) (rw (e2, e) (placed 2 (omega arith) (omega arith)))
      ∙ (rw (e1, e2) refl)
    where
      F : Faces G
      F = boarded_faces G vs T.board

      back : After G vn v2 v1
      back = F.triangle v1 vn v2 (F.triangle v2 v1 vn (boarded_outer G vs T.board))

      placed : (j : ℕ) → 1 ≤ j → j ≤ 2 → In (post vs j) (take k vs)
      placed j a b = post_in vs k j a (omega arith) (omega (arith, n))

  pub stage_contour_list : (k : ℕ) → 3 ≤ k → k ≤ length G → ContourList G vs k (stage G (take k vs)).contour
  unfolding third
  stage_contour_list k h i = go (ℕ_discrete k (length G)) (ℕ_discrete k 3)
    where
      S : Plane G v1 v2 vn × Canonical G vs
      S = passes_sound G vs T

      last : k ≡ length G → (stage G (take k vs)).contour ≡ v1 ∷ vn ∷ v2 ∷ [] → ContourList G vs k (stage G (take k vs)).contour
      last e c =
          let at_n = last_written G vs S.0 S.1 (omega arith) in
          subst⁻¹ (ContourList G vs k) c (subst⁻¹ (λ (j : ℕ). ContourList G vs j (v1 ∷ vn ∷ v2 ∷ [])) e at_n)

      go : Dec (k ≡ length G) → Dec (k ≡ 3) → ContourList G vs k (stage G (take k vs)).contour
      go (no m) d = contour_written G vs S.0 S.1 k h (omega arith) (stage G (take k vs)).contour (contours G vn vs P A k h (omega (arith, n)))
      go (yes e) (yes d) =
          let f : length G ≡ 3 = omega arith in
          last e (rw (d, f) (ap (λ (t : Stage). t.contour) (stage_third G vs (omega (arith, n)))))
      go (yes e) (no m) =
          let f : k - 1 + 1 ≡ length G = omega arith in
          let q : k ≡ k - 1 + 1 = omega arith in
          let t = stage G (take (k - 1) vs) in
          let s = rw f at (step_at G vn vs P A (k - 1) (omega arith) (omega (arith, n))) in
          let placed = stage_placed G vs (k - 1) (omega arith) (omega (arith, n)) in
          let grown = ap (λ (t : Stage). t.contour) (stage_next G vs (k - 1) (omega arith) (omega (arith, n))) in
          last e (ap (λ (j : ℕ). (stage G (take j vs)).contour) q ∙ grown ∙ (rw f (last_step t (k - 1) (omega arith) f placed s)))
