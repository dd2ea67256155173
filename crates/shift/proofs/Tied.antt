-- A stage is drawn, and its wires are those of the rings: so it is at stage 3, and each step keeps it so.
use Prim.Native.Nat.{ℕ, ◌+◌, ◌*◌, ◌≤◌}
use mathlib.Core.Path.{◌≡◌, refl, ap, sym, ◌∙◌, subst}
use mathlib.Core.Logic.{◌⊎◌, inl, inr, ◌≢◌}
use mathlib.Core.List.{List, [], ◌∷◌, ◌++◌, flat_map}
use native.Mathlib.Omega.{arith}
use lib.ListN.{length, length-append, get_or-append}
use Rattle.words.specs.Lists.{In, last_of, Head}
use Rattle.words.specs.Positions.{post}
use Rattle.words.proofs.Lists.{head_same, in_head, last_append, last_in, in_cases}
use Rattle.rings.specs.Rings.{ring}
use Rattle.rings.proofs.Says.{Faces, entry_other, entry_returned}
use Rattle.placing.specs.Stages.{Stage, third, place_over, place}
use Rattle.placing.proofs.Steps.{Step, place_placed}
use Rattle.placing.proofs.Placed.{moved_by, place_x_old}
use Rattle.drawing.proofs.Build.{Build, Post, Built, on_contour}
use Rattle.drawing.proofs.Build.Build.{post as over}
use Rattle.shift.proofs.Drawn.{Drawn}
use Rattle.shift.proofs.Over.{before_run, after_run, inside, by_0, by_1, by_2}
use Rattle.shift.proofs.Next.{OneStep, step, stepped}
use Rattle.shift.proofs.Start.{three, start, first_post, second_post}
use Rattle.shift.proofs.Tri.{Over}
use Rattle.shift.proofs.DrawnSays.{Recast, recast}

-- a stage drawn over its contour C, and each wire of the rings between its posts is one of the drawing
pub record Tied (G : List (List ℕ)) (t : Stage) : Type 0 where
  pub C : List ℕ
  pub B : Build C
  pub drawn : Drawn t B
  pub wires : (u w : ℕ) → In u t.placed → In w t.placed → In w (ring G u) → Built B u w ⊎ Built B w u
  -- v1 stands in column 0, and v2 in column 2k - 4
  pub two : 2 ≤ length t.placed
  pub left : t.x (post t.placed 1) ≡ 0
  pub right : t.x (post t.placed 2) + 4 ≡ 2 * length t.placed

-- ---- stage 3
module _ (G : List (List ℕ)) (F : Faces G) (v1 v2 v3 : ℕ) (d12 : v1 ≢ v2) (d13 : v1 ≢ v3) (d23 : v2 ≢ v3) where
  third_wires : (u w : ℕ) → In u (v1 ∷ v2 ∷ v3 ∷ []) → In w (v1 ∷ v2 ∷ v3 ∷ []) → In w (ring G u) → Built (three v1 v2 v3) u w ⊎ Built (three v1 v2 v3) w u
  third_wires u w (inl e) (inl f) h = absurd (entry_other G F u w h (f ∙ sym e))
  third_wires u w (inl e) (inr (inl f)) h = inl (inr (e, f))
  third_wires u w (inl e) (inr (inr (inl f))) h = inr (inl (f, inl e))
  third_wires u w (inr (inl e)) (inl f) h = inr (inr (f, e))
  third_wires u w (inr (inl e)) (inr (inl f)) h = absurd (entry_other G F u w h (f ∙ sym e))
  third_wires u w (inr (inl e)) (inr (inr (inl f))) h = inr (inl (f, inr (inl e)))
  third_wires u w (inr (inr (inl e))) (inl f) h = inl (inl (e, inl f))
  third_wires u w (inr (inr (inl e))) (inr (inl f)) h = inl (inl (e, inr (inl f)))
  third_wires u w (inr (inr (inl e))) (inr (inr (inl f))) h = absurd (entry_other G F u w h (f ∙ sym e))
  third_wires u w (inl e) (inr (inr (inr x7))) h = elim x7 [ ]
  third_wires u w (inr (inl e)) (inr (inr (inr x9))) h = elim x9 [ ]
  third_wires u w (inr (inr (inl e))) (inr (inr (inr x12))) h = elim x12 [ ]
  third_wires u w (inr (inr (inr x10))) _ h = elim x10 [ ]

  pub tied_third : Tied G (third v1 v2 v3)
  unfolding third
  tied_third =
      record {
        C = v1 ∷ v3 ∷ v2 ∷ [];
        B = three v1 v2 v3;
        drawn = start v1 v2 v3 d12 d13 d23;
        wires = third_wires;
        two = omega arith;
        left = (first_post v1 v2 v3 d12 d13 d23).is_x;
        right = ap (λ (n : ℕ). n + 4) (second_post v1 v2 v3 d12 d13 d23).is_x;
      }

  pub third_over : Over tied_third.B v3 (v1 ∷ v2 ∷ [])
  unfolding tied_third
  third_over = inl (refl, refl)

-- ---- the step
module _ (G : List (List ℕ)) (t : Stage) (v : ℕ) (S : Step G t v) where
  abbrev contour_is : List ℕ
  contour_is = S.X ++ S.p ∷ (S.M ++ S.q ∷ S.Y)

  place_over_lem : place G t v ≡ place_over t (S.p ∷ (S.M ++ S.q ∷ [])) v
  unfolding place
  place_over_lem = ap (λ (w : List ℕ). place_over t w v) S.run_is

  -- a new wire is one between v and its run
  step_wires : (F : Faces G) (B : Build contour_is)
      → ((u w : ℕ) → In u t.placed → In w t.placed → In w (ring G u) → Built B u w ⊎ Built B w u)
      → (u w : ℕ) → In u (t.placed ++ v ∷ []) → In w (t.placed ++ v ∷ []) → In w (ring G u)
      → Built (over S.X S.p S.M S.q S.Y v B) u w ⊎ Built (over S.X S.p S.M S.q S.Y v B) w u
  step_wires F B f u w i j h = in_cases u t.placed (v ∷ []) old new i
    where
      back : In u (ring G w)
      back = entry_returned G F u w h

      old : In u t.placed → Built (over S.X S.p S.M S.q S.Y v B) u w ⊎ Built (over S.X S.p S.M S.q S.Y v B) w u
      old k =
          in_cases w t.placed (v ∷ []) (λ l. elim (f u w k l h) [ inl a ↦ inl (inr a) | inr a ↦ inr (inr a) ])
          (elim [ inl e ↦ inr (inl (e, S.run_all u (subst (λ (n : ℕ). In u (ring G n)) e back) k)) | inr z ↦ absurd z ]) j

      new : In u (v ∷ []) → Built (over S.X S.p S.M S.q S.Y v B) u w ⊎ Built (over S.X S.p S.M S.q S.Y v B) w u
      new (inr z) = absurd z
      new (inl e) =
          in_cases w t.placed (v ∷ []) (λ l. inl (inl (e, S.run_all w (subst (λ (n : ℕ). In w (ring G n)) e h) l)))
          (elim [ inl d ↦ absurd (entry_other G F u w h (d ∙ sym e)) | inr z ↦ absurd z ]) j

  -- the drawing of the next stage
  module _ (T : Tied G t) where
    redrawn : Recast t T.B contour_is
    redrawn = recast T.B contour_is T.drawn S.before

    pub one_step : OneStep t (place G t v) S.p S.q v
    one_step = rw place_over_lem (stepped t S.X S.p S.M S.q S.Y v redrawn.drawn S.new)

    -- how far each post moves: not at all in the groups up to w_p, by 1 in those between, by 2 in those from w_q on
    new_x : (u : ℕ) → Post redrawn.B' u → (n : ℕ) → moved_by (flat_map t.group S.M) (flat_map t.group (S.q ∷ S.Y)) u ≡ n
        → (place G t v).x u ≡ t.x u + n
    new_x u h n e = place_x_old G t v S u (λ d. S.new (rw d at (redrawn.drawn.posts u h))) ∙ ap (λ (m : ℕ). t.x u + m) e

    pub left_moves : (c u : ℕ) → In c (S.X ++ S.p ∷ []) → In u (t.group c) → (place G t v).x u ≡ t.x u
    left_moves c u i h =
        let b = before_run t S.X S.p S.M S.q S.Y redrawn.drawn c i in
        let k = redrawn.drawn.in_group c u b.1 h in
        omega (arith, new_x u k.0 0 (by_0 t S.X S.p S.M S.q S.Y redrawn.drawn u (omega (arith, b.0, k.1))))

    pub inner_moves : (c u : ℕ) → In c S.M → In u (t.group c) → (place G t v).x u ≡ t.x u + 1
    inner_moves c u i h =
        let b = inside t S.X S.p S.M S.q S.Y redrawn.drawn c i in
        let k = redrawn.drawn.in_group c u b.2 h in
        new_x u k.0 1
        (by_1 t S.X S.p S.M S.q S.Y redrawn.drawn u k.0 (omega (arith, b.0, k.1)) (omega (arith, b.1, k.1)))

    pub right_moves : (c u : ℕ) → In c (S.q ∷ S.Y) → In u (t.group c) → (place G t v).x u ≡ t.x u + 2
    right_moves c u i h =
        let b = after_run t S.X S.p S.M S.q S.Y redrawn.drawn c i in
        let k = redrawn.drawn.in_group c u b.1 h in
        new_x u k.0 2 (by_2 t S.X S.p S.M S.q S.Y redrawn.drawn u k.0 (omega (arith, b.0, k.1)))

    -- each contour post is in its own group
    own : (c : ℕ) → In c contour_is → In c (t.group c)
    own c i = redrawn.drawn.grouped c c i (on_contour redrawn.B' c i) refl

    -- so v1, the contour's first post, stays, and v2, its last, moves by 2
    first_stays : (u : ℕ) → Head t.contour u → (place G t v).x u ≡ t.x u
    first_stays u h =
        let i = in_head u (S.X ++ S.p ∷ []) (head_same u S.X S.p (S.M ++ S.q ∷ S.Y) [] (subst (λ (l : List ℕ). Head l u) S.before h)) in
        left_moves u u i (own u (before_run t S.X S.p S.M S.q S.Y redrawn.drawn u i).1)

    last_moves : (a u : ℕ) → last_of a t.contour ≡ u → (place G t v).x u ≡ t.x u + 2
    last_moves a u h =
        let e : last_of S.q S.Y ≡ u =
        sym (last_append S.p S.M S.q S.Y) ∙ sym (last_append a S.X S.p (S.M ++ S.q ∷ S.Y)) ∙ sym (ap (last_of a) S.before) ∙ h in
        let i = subst (λ (n : ℕ). In n (S.q ∷ S.Y)) e (last_in S.q S.Y) in
        right_moves u u i (own u (after_run t S.X S.p S.M S.q S.Y redrawn.drawn u i).1)

    pub tied_next : Faces G → Tied G (place G t v)
    tied_next F =
        let R = redrawn in
        let e = place_placed G t v in
        let n = T.two in
        let e1 : post (t.placed ++ v ∷ []) 1 ≡ post t.placed 1 = get_or-append t.placed (v ∷ []) 0 0 (omega arith) in
        let e2 : post (t.placed ++ v ∷ []) 2 ≡ post t.placed 2 = get_or-append t.placed (v ∷ []) 0 1 (omega arith) in
        let l = length-append t.placed (v ∷ []) in
        record {
          C = S.X ++ S.p ∷ v ∷ S.q ∷ S.Y;
          B = over S.X S.p S.M S.q S.Y v R.B';
          drawn = rw place_over_lem (step t S.X S.p S.M S.q S.Y v R.drawn S.new);
          wires = λ u w i j.
              step_wires F R.B'
              (λ u w i j h. elim (T.wires u w i j h) [ inl a ↦ inl (R.wire u w a) | inr a ↦ inr (R.wire w u a) ])
              u w (rw e at i) (rw e at j);
          two = rw e (omega arith);
          left = rw (e, e1) (first_stays (post t.placed 1) S.old.first ∙ T.left);
          right = rw (e, e2) (omega (arith, last_moves (post t.placed 1) (post t.placed 2) S.old.last, T.right));
        }

    -- its runs: those that were there, and v's
    pub over_old : (F : Faces G) (u : ℕ) (w : List ℕ) → Over T.B u w → Over (tied_next F).B u w
    unfolding tied_next
    over_old F u w h = inr (redrawn.over u w h)

    pub over_new : (F : Faces G) → Over (tied_next F).B v (S.p ∷ (S.M ++ S.q ∷ []))
    unfolding tied_next
    over_new F = inl (refl, refl)
