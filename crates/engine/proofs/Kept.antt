-- What each stage keeps besides its drawing: a covered post and the one that covers it are in one group, so each later step moves them alike.
use Prim.Native.Nat.{ℕ, ◌+◌, ◌*◌, ◌≤◌, ◌<◌}
use mathlib.Core.Path.{◌≡◌, refl, ap, sym, ◌∙◌, subst, subst⁻¹}
use mathlib.Core.Logic.{◌⊎◌, inl, inr, ◌≢◌}
use mathlib.Core.List.{List, [], ◌∷◌, ◌++◌, flat_map}
use native.Mathlib.Omega.{arith}
use native.Mathlib.Decide.{ℕ_discrete, dec_lt}
use lib.ListN.{length, get_or, take, length-append, get_or-append}
use lib.Seq.{get_or_at}
use Rattle.words.specs.Lists.{In, Head}
use Rattle.words.specs.Positions.{post}
use Rattle.words.proofs.Lists.{in_head, head_same, in_dec, in_left, in_right, in_cases, swap_in, filled}
use Rattle.words.proofs.Tests.{eqb_same, eqb_other, place_in, mem_true, mem_false}
use Rattle.rings.specs.Plane.{Plane}
use Rattle.order.specs.Fitting.{FitsSoFar}
use Rattle.order.proofs.Fitting.{fits_once}
use Rattle.placing.specs.Stages.{Stage, third, place_over, place, stage}
use Rattle.placing.proofs.Steps.{Step, place_placed, at_each_stage}
use Rattle.placing.proofs.Placed.{place_group, place_cover, place_x_old}
use Rattle.drawing.proofs.Build.{Build, post as build-post, on_contour}
use Rattle.shift.proofs.Groups.{in_groups, groups_in, sides}
use Rattle.shift.proofs.Drawn.{Drawn}
use Rattle.shift.proofs.Over.{before_run, inside, after_run, ends, by_0, by_1, by_2}
use Rattle.shift.proofs.Next.{OneStep, step, stepped}
use Rattle.shift.proofs.Start.{three, start}
use Rattle.shift.proofs.Every.{three_differ}
use Rattle.shift.proofs.DrawnSays.{in_some, in_one, group_placed, drawn_within, Recast, recast}

pub record Kept (t : Stage) : Type 0 where
  pub C : List ℕ
  pub B : Build C
  pub drawn : Drawn t B
  pub together : (u c : ℕ) → In u t.placed → ¬ (In u t.contour) → In c t.contour → In u (t.group c) → In (t.cover u) (t.group c)
  pub origin : t.x (post t.placed 1) ≡ 0
  -- the one that covers it stands in a later position
  pub behind : (i : ℕ) → i < length t.placed → ¬ (In (get_or t.placed i 0) t.contour)
      → (j : ℕ) × (i < j) × (j < length t.placed) × (get_or t.placed j 0 ≡ t.cover (get_or t.placed i 0))

-- what one step does to the columns: up to w_p none moves, inside the run by 1, from w_q on by 2; a covered post as the one that covers it
pub record StepMoves (G : List (List ℕ)) (t : Stage) (v : ℕ) (s : Step G t v) : Type 0 where
  pub stays : (a : ℕ) → In a (s.X ++ s.p ∷ []) → (place G t v).x a ≡ t.x a
  pub by_one : (a : ℕ) → In a s.M → (place G t v).x a ≡ t.x a + 1
  pub by_two : (a : ℕ) → In a (s.q ∷ s.Y) → (place G t v).x a ≡ t.x a + 2
  pub alike : (u : ℕ) → In u t.placed → ¬ (In u t.contour) → (place G t v).x u + t.x (t.cover u) ≡ (place G t v).x (t.cover u) + t.x u
  pub cover_placed : (u : ℕ) → In u t.placed → ¬ (In u t.contour) → In (t.cover u) t.placed
  pub one : OneStep t (place G t v) s.p s.q v
  -- between w_p and w_q no slope is steeper than one step up or down, and all is within the sheet
  pub up : t.x s.p + t.y s.p ≤ t.x s.q + t.y s.q
  pub down : t.x s.p + t.y s.q ≤ t.x s.q + t.y s.p
  pub within : (u : ℕ) → In u t.placed → t.x u + t.y u + 4 ≤ 2 * length t.placed

module _ (G : List (List ℕ)) (t : Stage) (v : ℕ) (s : Step G t v) (K : Kept t) where
  abbrev t' : Stage
  t' = place G t v

  pub old : (a : ℕ) → In a t.placed → ¬ (a ≡ v)
  old a h e = s.new (rw e at h)

  R : Recast t K.B (s.X ++ s.p ∷ (s.M ++ s.q ∷ s.Y))
  R = recast K.B (s.X ++ s.p ∷ (s.M ++ s.q ∷ s.Y)) K.drawn s.before

  abbrev D : Drawn t R.B'
  D = R.drawn

  place_is : t' ≡ place_over t (s.p ∷ (s.M ++ s.q ∷ [])) v
  unfolding place
  place_is = ap (λ (w : List ℕ). place_over t w v) s.run_is

  one_step : OneStep t t' s.p s.q v
  one_step = subst⁻¹ (λ (n : Stage). OneStep t n s.p s.q v) place_is (stepped t s.X s.p s.M s.q s.Y v D s.new)

  -- how far a post placed moves, by the place of its group
  moved_0 : (u : ℕ) → In u t.placed → D.g u ≤ D.g s.p → t'.x u ≡ t.x u
  moved_0 u h k = omega (arith, place_x_old G t v s u (old u h), by_0 t s.X s.p s.M s.q s.Y D u k)

  moved_1 : (u : ℕ) → In u t.placed → D.g s.p < D.g u → D.g u < D.g s.q → t'.x u ≡ t.x u + 1
  moved_1 u h k l = omega (arith, place_x_old G t v s u (old u h), by_1 t s.X s.p s.M s.q s.Y D u (D.placed u h) k l)

  moved_2 : (u : ℕ) → In u t.placed → D.g s.q ≤ D.g u → t'.x u ≡ t.x u + 2
  moved_2 u h k = omega (arith, place_x_old G t v s u (old u h), by_2 t s.X s.p s.M s.q s.Y D u (D.placed u h) k)

  on : (a : ℕ) → In a (s.X ++ s.p ∷ (s.M ++ s.q ∷ s.Y)) → In a t.placed
  on a i = D.posts a (on_contour R.B' a i)

  stays : (a : ℕ) → In a (s.X ++ s.p ∷ []) → t'.x a ≡ t.x a
  stays a i = let b = before_run t s.X s.p s.M s.q s.Y D a i in moved_0 a (on a b.1) b.0

  by_one : (a : ℕ) → In a s.M → t'.x a ≡ t.x a + 1
  by_one a i = let b = inside t s.X s.p s.M s.q s.Y D a i in moved_1 a (on a b.2) b.0 b.1

  by_two : (a : ℕ) → In a (s.q ∷ s.Y) → t'.x a ≡ t.x a + 2
  by_two a i = let b = after_run t s.X s.p s.M s.q s.Y D a i in moved_2 a (on a b.1) b.0

  cover_placed : (u : ℕ) → In u t.placed → ¬ (In u t.contour) → In (t.cover u) t.placed
  cover_placed u h n =
      let r = in_some D u h in
      group_placed D r.0 (t.cover u) r.1 (K.together u r.0 h n r.1 r.2)

  same_group : (u : ℕ) → In u t.placed → ¬ (In u t.contour) → D.g u ≡ D.g (t.cover u)
  same_group u h n =
      let r = in_some D u h in
      let i = subst (In r.0) D.contour r.1 in
      (D.in_group r.0 u i r.2).1 ∙ sym (D.in_group r.0 (t.cover u) i (K.together u r.0 h n r.1 r.2)).1

  alike : (u : ℕ) → In u t.placed → ¬ (In u t.contour) → t'.x u + t.x (t.cover u) ≡ t'.x (t.cover u) + t.x u
  alike u h n = go (dec_lt (D.g s.p) (D.g u)) (dec_lt (D.g u) (D.g s.q))
    where
      w : ℕ
      w = t.cover u

      hw : In (t.cover u) t.placed
      hw = cover_placed u h n

      e : D.g u ≡ D.g (t.cover u)
      e = same_group u h n

      go : Dec (D.g s.p < D.g u) → Dec (D.g u < D.g s.q) → t'.x u + t.x (t.cover u) ≡ t'.x (t.cover u) + t.x u
      go (no a) d = omega (arith, moved_0 u h (omega arith), moved_0 (t.cover u) hw (omega (arith, e)))
      go (yes a) (yes b) = omega (arith, moved_1 u h a b, moved_1 (t.cover u) hw (omega (arith, e)) (omega (arith, e)))
      go (yes a) (no b) = omega (arith, moved_2 u h (omega arith), moved_2 (t.cover u) hw (omega (arith, e)))

  pub step_moves : StepMoves G t v s
  step_moves =
      let pq = ends t s.X s.p s.M s.q s.Y D in
      record {
        stays = stays;
        by_one = by_one;
        by_two = by_two;
        alike = alike;
        cover_placed = cover_placed;
        one = one_step;
        up = pq.sum;
        down = pq.dif;
        within = drawn_within D;
      }

  -- ---- the next stage keeps it
  drawn' : Drawn t' (build-post s.X s.p s.M s.q s.Y v R.B')
  drawn' = subst⁻¹ (λ (n : Stage). Drawn n (build-post s.X s.p s.M s.q s.Y v R.B')) place_is
      (step t s.X s.p s.M s.q s.Y v D s.new)

  on_new : In v t'.contour
  on_new = rw s.after (in_right v s.X (s.p ∷ v ∷ s.q ∷ s.Y) (inr (inl refl)))

  pub old_placed : (u : ℕ) → In u t'.placed → ¬ (In u t'.contour) → In u t.placed
  old_placed u h n =
      in_cases u t.placed (v ∷ []) (λ i. i) (elim [ inl e ↦ absurd (n (rw e on_new)) | inr z ↦ absurd z ]) (subst (In u) (place_placed G t v) h)

  -- a post that was on the contour, and is not one of the covered, stays on it
  pub still_on : (u : ℕ) → In u t.contour → ¬ (In u s.M) → In u t'.contour
  still_on u i n = rw s.after (go (sides u s.X s.p s.M s.q s.Y (subst (In u) s.before i)))
    where
      go : In u (s.X ++ s.p ∷ []) ⊎ (In u s.M ⊎ In u (s.q ∷ s.Y)) → In u (s.X ++ s.p ∷ v ∷ s.q ∷ s.Y)
      go (inl h) = in_cases u s.X (s.p ∷ []) (λ j. in_left u s.X (s.p ∷ v ∷ s.q ∷ s.Y) j)
          (elim [ inl e ↦ in_right u s.X (s.p ∷ v ∷ s.q ∷ s.Y) (inl e) | inr z ↦ absurd z ]) h
      go (inr (inl h)) = absurd (n h)
      go (inr (inr h)) = in_right u s.X (s.p ∷ v ∷ s.q ∷ s.Y) (inr (inr h))

  -- one that is on it now was on it, or is new
  pub was_on : (c : ℕ) → In c t'.contour → ¬ (c ≡ v) → In c t.contour
  was_on c i n = rw s.before (swap_in s.p v s.q s.M s.Y c s.X (λ e. absurd (n e)) (λ j. j) (subst (In c) s.after i))

  group_new : t'.group v ≡ v ∷ flat_map t.group s.M
  group_new = place_group G t v s v ∙ rw (eqb_same v) refl

  group_old : (c : ℕ) → ¬ (c ≡ v) → t'.group c ≡ t.group c
  group_old c n = place_group G t v s c ∙ rw (eqb_other c v n) refl

  pub cover_in : (u : ℕ) → In u s.M → t'.cover u ≡ v
  cover_in u i = place_cover G t v s u ∙ rw (mem_true s.M u i) refl

  pub cover_off : (u : ℕ) → ¬ (In u s.M) → t'.cover u ≡ t.cover u
  cover_off u n = place_cover G t v s u ∙ rw (mem_false s.M u n) refl

  in_M : (u : ℕ) → In u s.M → In u t.contour
  in_M u i = rw s.before (in_right u s.X (s.p ∷ (s.M ++ s.q ∷ s.Y)) (inr (in_left u s.M (s.q ∷ s.Y) i)))

  own : (c : ℕ) → In c t.contour → In c (t.group c)
  own c i = let j = subst (In c) D.contour i in D.grouped c c j (on_contour R.B' c j) refl

  together' : (u c : ℕ) → In u t'.placed → ¬ (In u t'.contour) → In c t'.contour → In u (t'.group c) → In (t'.cover u) (t'.group c)
  together' u c h n i g = go (in_dec u s.M) (ℕ_discrete c v)
    where
      hu : In u t.placed
      hu = old_placed u h n

      go : Dec (In u s.M) → Dec (c ≡ v) → In (t'.cover u) (t'.group c)
      go (yes m) d =
          let w : In u (t'.group v) = subst⁻¹ (In u) group_new (inr (groups_in t.group u u s.M m (own u (in_M u m)))) in
          let e : c ≡ v = in_one drawn' c v u i on_new g w in
          rw (cover_in u m, e, group_new) (inl refl)
      go (no m) (yes e) = subst⁻¹ (In (t'.cover u)) (ap t'.group e ∙ group_new) (subst⁻¹ (λ z. In z (v ∷ flat_map t.group s.M)) (cover_off u m)
          (deep (subst (In u) (ap t'.group e ∙ group_new) g)))
        where
          deep : In u (v ∷ flat_map t.group s.M) → In (t.cover u) (v ∷ flat_map t.group s.M)
          deep (inl e) = absurd (old u hu e)
          deep (inr j) =
              let r = in_groups t.group u s.M j in
              inr (groups_in t.group (t.cover u) r.0 s.M r.1 (K.together u r.0 hu (λ k. n (still_on u k m)) (in_M r.0 r.1) r.2))
      go (no m) (no e) =
          subst⁻¹ (In (t'.cover u)) (group_old c e)
          (rw (cover_off u m) (K.together u c hu (λ k. n (still_on u k m)) (was_on c i e) (subst (In u) (group_old c e) g)))

  behind' : (i : ℕ) → i < length t'.placed → ¬ (In (get_or t'.placed i 0) t'.contour)
      → (j : ℕ) × (i < j) × (j < length t'.placed) × (get_or t'.placed j 0 ≡ t'.cover (get_or t'.placed i 0))
  behind' =
      subst⁻¹ (λ (l : List ℕ). (i : ℕ) → i < length l → ¬ (In (get_or l i 0) t'.contour) → (j : ℕ) × (i < j) × (j < length l)
      × (get_or l j 0 ≡ t'.cover (get_or l i 0))) (place_placed G t v) at
    where
      n : length (t.placed ++ v ∷ []) ≡ length t.placed + 1
      n = omega (arith, length-append t.placed (v ∷ []))

      at : (i : ℕ) → i < length (t.placed ++ v ∷ []) → ¬ (In (get_or (t.placed ++ v ∷ []) i 0) t'.contour)
          → (j : ℕ) × (i < j) × (j < length (t.placed ++ v ∷ [])) × (get_or (t.placed ++ v ∷ []) j 0 ≡ t'.cover (get_or (t.placed ++ v ∷ []) i 0))
      at i h k = go (dec_lt i (length t.placed))
        where
          go : Dec (i < length t.placed) → (j : ℕ) × (i < j) × (j < length (t.placed ++ v ∷ []))
              × (get_or (t.placed ++ v ∷ []) j 0 ≡ t'.cover (get_or (t.placed ++ v ∷ []) i 0))
          go (no m) = absurd (k (rw (get_or_at t.placed v [] 0 i (omega (arith, n))) on_new))
          go (yes l) = low (in_dec u s.M)
            where
              u : ℕ
              u = get_or t.placed i 0

              e : get_or (t.placed ++ v ∷ []) i 0 ≡ get_or t.placed i 0
              e = get_or-append t.placed (v ∷ []) 0 i l

              low : Dec (In (get_or t.placed i 0) s.M) → (j : ℕ) × (i < j) × (j < length (t.placed ++ v ∷ []))
                  × (get_or (t.placed ++ v ∷ []) j 0 ≡ t'.cover (get_or (t.placed ++ v ∷ []) i 0))
              low (yes m) = (
                length t.placed,
                l,
                omega (arith, n),
                get_or_at t.placed v [] 0 (length t.placed) refl
                    ∙ sym (ap t'.cover e ∙ cover_in (get_or t.placed i 0) m),
              )
              low (no m) =
                  let r = K.behind i l (λ c. k (rw e (still_on (get_or t.placed i 0) c m))) in (
                    r.0,
                    r.1,
                    omega (arith, n, r.2),
                    get_or-append t.placed (v ∷ []) 0 r.0 r.2 ∙ r.3
                        ∙ sym (ap t'.cover e ∙ cover_off (get_or t.placed i 0) m),
                  )

  -- v1 stays where it is
  pub first_kept : post t'.placed 1 ≡ post t.placed 1
  first_kept = ap (λ (l : List ℕ). post l 1) (place_placed G t v) ∙ get_or-append t.placed (v ∷ []) 0 0
      (filled t.placed s.p (s.on_placed s.p (rw s.before (in_right s.p s.X (s.p ∷ (s.M ++ s.q ∷ s.Y)) (inl refl)))))

  pub first_on : In (post t.placed 1) (s.X ++ s.p ∷ [])
  first_on = in_head (post t.placed 1) (s.X ++ s.p ∷ [])
      (head_same (post t.placed 1) s.X s.p (s.M ++ s.q ∷ s.Y) [] (subst (λ (l : List ℕ). Head l (post t.placed 1)) s.before s.old.first))

  origin' : t'.x (post t'.placed 1) ≡ 0
  origin' = ap t'.x first_kept ∙ stays (post t.placed 1) first_on ∙ K.origin

  pub kept_next : Kept t'
  kept_next = record {
    C = s.X ++ s.p ∷ v ∷ s.q ∷ s.Y;
    B = build-post s.X s.p s.M s.q s.Y v R.B';
    drawn = drawn';
    together = together';
    origin = origin';
    behind = behind';
  }

-- stage 3 covers nobody
pub on_third : (v1 v2 v3 u : ℕ) → In u (v1 ∷ v2 ∷ v3 ∷ []) → In u (v1 ∷ v3 ∷ v2 ∷ [])
on_third v1 v2 v3 u (inl e) = inl e
on_third v1 v2 v3 u (inr (inl e)) = inr (inr (inl e))
on_third v1 v2 v3 u (inr (inr (inl e))) = inr (inl e)
on_third v1 v2 v3 u (inr (inr (inr z))) = absurd z

pub kept_third : (v1 v2 v3 : ℕ) → v1 ≢ v2 → v1 ≢ v3 → v2 ≢ v3 → Kept (third v1 v2 v3)
unfolding third
kept_third v1 v2 v3 d12 d13 d23 =
    record {
      C = v1 ∷ v3 ∷ v2 ∷ [];
      B = three v1 v2 v3;
      drawn = start v1 v2 v3 d12 d13 d23;
      together = λ u c h n. absurd (n (on_third v1 v2 v3 u h));
      origin = rw (eqb_other v1 v3 d13, eqb_other v1 v2 d12) refl;
      behind = λ i h n. absurd (n (on_third v1 v2 v3 (get_or (v1 ∷ v2 ∷ v3 ∷ []) i 0) (place_in (v1 ∷ v2 ∷ v3 ∷ []) i h)));
    }

-- every stage of a list that fits so far
pub kept_at : (G : List (List ℕ)) (vn : ℕ) (vs : List ℕ) → Plane G (post vs 1) (post vs 2) vn → FitsSoFar G vn vs
    → (k : ℕ) → 3 ≤ k → k ≤ length vs → Kept (stage G (take k vs))
kept_at G vn vs P A k h i =
    let d = three_differ vs (fits_once G vn vs P A) (omega arith) in
    at_each_stage G vn vs P A Kept (kept_third (post vs 1) (post vs 2) (post vs 3) d.0 d.1 d.2) (λ t v s K. kept_next G t v s K) k h i
