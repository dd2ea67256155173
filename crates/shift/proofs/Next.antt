-- From a stage to the next: a new post v over the run p, M, q of the contour X, p, M, q, Y keeps the stage drawn.
use Prim.Native.Nat.{ℕ, ◌+◌, ◌*◌, ◌-◌, ◌/◌, ◌%◌, ◌≤◌, ◌<◌}
use mathlib.Core.Path.{◌≡◌, refl, ap, sym, ◌∙◌, subst, subst⁻¹}
use mathlib.Core.Logic.{◌⊎◌, inl, inr, ◌≢◌}
use mathlib.Core.Bool.{cond}
use mathlib.Core.List.{List, [], ◌∷◌, ◌++◌, flat_map, append_assoc}
use native.Mathlib.Omega.{arith}
use lib.Dec.{eqb, leb}
use lib.ListN.{length, length-append}
use borrow.Author.Tests.{eq-eqb, ne_eqb, le-leb, lt-leb}
use Rattle.words.specs.Lists.{In}
use Rattle.placing.specs.Stages.{Stage, place_over}
use Rattle.words.proofs.Lists.{in_cases, in_left, in_right}
use Rattle.drawing.proofs.Build.{Build, post, Post, on_contour}
use Rattle.shift.specs.Step.{Regroup, Shifts}
use Rattle.shift.proofs.Groups.{sides}
use Rattle.shift.proofs.Group.{Moved, lo, mi, hi, moved}
use Rattle.shift.proofs.Shifting.{laid_next}
use Rattle.shift.proofs.Drawn.{places_of, Drawn}
use Rattle.placing.proofs.Placed.{moved_by}
use Rattle.shift.proofs.Over.{over, before_run, inside, after_run, ends, ones, in_ones, by_0, by_1, by_2, placed_over}

-- the places of the groups: up to p's as they were, v's and the run's inner ones next, and then those from q's on
abbrev pub next_g : (ℕ → ℕ) → (p q v : ℕ) → ℕ → ℕ
next_g g p q v u =
    cond (eqb u v) (g p + 1) (cond (leb (g u) (g p)) (g u) (cond (leb (g q) (g u)) (g u + g p + 2 - g q) (g p + 1)))

-- the halves are exact: a and b are how far w_p and w_q move
halves_x : (xp yp xq yq a b n : ℕ) → a ≡ 0 → b ≡ 2 → yp ≤ xp → (xp + yp) % 2 ≡ 0 → (xq + yq) % 2 ≡ 0 → n ≡ (xp + a + (xq + b) + yq - yp) / 2
    → 2 * n + yp ≡ xp + (xq + 2) + yq
halves_x xp yp xq yq a b n ea eb h i j e = omega arith

halves_y : (xp yp xq yq a b n : ℕ) → a ≡ 0 → b ≡ 2 → xp ≤ xq → (xp + yp) % 2 ≡ 0 → (xq + yq) % 2 ≡ 0 → n ≡ (xq + b - (xp + a) + yq + yp) / 2
    → 2 * n + xp ≡ xq + 2 + yq + yp
halves_y xp yp xq yq a b n ea eb h i j e = omega arith

-- what one step does to the posts: those that stand, and the new one between w_p and w_q
pub record OneStep (t t' : Stage) (p q v : ℕ) : Type 0 where
  pub height : (u : ℕ) → In u t.placed → t'.y u ≡ t.y u
  pub never_left : (u : ℕ) → In u t.placed → t.x u ≤ t'.x u
  pub at_most_two : (u : ℕ) → In u t.placed → t'.x u ≤ t.x u + 2
  pub left_stays : t'.x p ≡ t.x p
  pub right_moves : t'.x q ≡ t.x q + 2
  -- the differences lose nothing, and the halves are exact
  pub low : t'.y p ≤ t'.x p
  pub rises : t'.x p < t'.x q
  pub exact_x : 2 * t'.x v + t'.y p ≡ t'.x p + t'.x q + t'.y q
  pub exact_y : 2 * t'.y v + t'.x p ≡ t'.x q + t'.y q + t'.y p

module _ (t : Stage) (X : List ℕ) (p : ℕ) (M : List ℕ) (q : ℕ) (Y : List ℕ) (v : ℕ) {B : Build (X ++ p ∷ (M ++ q ∷ Y))}
    (D : Drawn t B) (fresh : ¬ (In v t.placed)) where
  open D use {g}

  abbrev t' : Stage
  t' = over t p q M (X ++ p ∷ []) (q ∷ Y) v

  abbrev g' : ℕ → ℕ
  g' = next_g g p q v

  abbrev by : ℕ → ℕ
  by = moved_by (flat_map t.group M) (flat_map t.group (q ∷ Y))

  other : (u : ℕ) → Post B u → u ≢ v
  other u h e = fresh (D.posts v (rw e at h))

  x_old : (u : ℕ) → Post B u → t'.x u ≡ t.x u + by u
  unfolding over
  x_old u h = rw (ne_eqb u v (other u h))

  y_old : (u : ℕ) → Post B u → t'.y u ≡ t.y u
  unfolding over
  y_old u h = rw (ne_eqb u v (other u h))

  x_new : t'.x v ≡ (t.x p + by p + (t.x q + by q) + t.y q - t.y p) / 2
  unfolding over
  x_new = rw (eq-eqb v v refl)

  y_new : t'.y v ≡ (t.x q + by q - (t.x p + by p) + t.y q + t.y p) / 2
  unfolding over
  y_new = rw (eq-eqb v v refl)

  g_old : (u : ℕ) → Post B u → g' u ≡ cond (leb (g u) (g p)) (g u) (cond (leb (g q) (g u)) (g u + g p + 2 - g q) (g p + 1))
  g_old u h = rw (ne_eqb u v (other u h))

  g_new : g' v ≡ g p + 1
  g_new = rw (eq-eqb v v refl)

  high : (u : ℕ) → Post B u → g q ≤ g u → g' u + g q ≡ g u + g p + 2
  high u h k =
      let pq = (ends t X p M q Y D).ord in
      let e : g' u ≡ g u + g p + 2 - g q = g_old u h ∙ rw (lt-leb (g u) (g p) (omega arith), le-leb (g q) (g u) k) in
      omega arith

  regroup : Regroup (places_of t) (places_of t') g g' (Post B) p q v
  regroup =
      record {
        level = y_old;
        lo = λ u h k. record { moves = omega (arith, x_old u h, by_0 t X p M q Y D u k); group = g_old u h ∙ rw (le-leb (g u) (g p) k) };
        mi = λ u h k l.
            record {
              moves = omega (arith, x_old u h, by_1 t X p M q Y D u h k l);
              group = g_old u h ∙ rw (lt-leb (g u) (g p) k, lt-leb (g q) (g u) l);
            };
        hi = λ u h k. record { moves = omega (arith, x_old u h, by_2 t X p M q Y D u h k); group = high u h k };
        v_place = g_new;
      }

  in_p : In p (X ++ p ∷ (M ++ q ∷ Y))
  in_p = in_right p X (p ∷ (M ++ q ∷ Y)) (inl refl)

  in_q : In q (X ++ p ∷ (M ++ q ∷ Y))
  in_q = in_right q X (p ∷ (M ++ q ∷ Y)) (inr (in_right q M (q ∷ Y) (inl refl)))

  on_p : Post B p
  on_p = on_contour B p in_p

  on_q : Post B q
  on_q = on_contour B q in_q

  abbrev Moves_of : ℕ → Type 0
  Moves_of = Moved (places_of t) (places_of t') g g' p q

  moves_of : (u : ℕ) → Post B u → Moves_of u
  moves_of = moved (places_of t) (places_of t') g g' (Post B) p q v regroup

  right : (u : ℕ) → Moves_of u → (t.x u ≤ t'.x u) × (t'.x u ≤ t.x u + 2)
  right u (lo a b) = omega arith
  right u (mi a a' b) = omega arith
  right u (hi a b) = omega arith

  one_step : OneStep t t' p q v
  one_step =
      let pq = ends t X p M q Y D in
      let a = by_0 t X p M q Y D p (omega arith) in
      let b = by_2 t X p M q Y D q on_q (omega arith) in
      let xp : t'.x p ≡ t.x p = omega (arith, x_old p on_p) in
      let xq : t'.x q ≡ t.x q + 2 = omega (arith, x_old q on_q) in
      let yp = y_old p on_p in
      let yq = y_old q on_q in
      let bp = (D.laid.bounds p on_p).0 in
      let ep = D.laid.even p in_p in
      let eq = D.laid.even q in_q in
      let ex = halves_x (t.x p) (t.y p) (t.x q) (t.y q) (by p) (by q) (t'.x v) a b bp ep eq x_new in
      let ey = halves_y (t.x p) (t.y p) (t.x q) (t.y q) (by p) (by q) (t'.y v) a b (omega (arith, pq.far)) ep eq y_new in
      record {
        height = λ u h. y_old u (D.placed u h);
        never_left = λ u h. (right u (moves_of u (D.placed u h))).0;
        at_most_two = λ u h. (right u (moves_of u (D.placed u h))).1;
        left_stays = xp;
        right_moves = xq;
        low = omega arith;
        rises = omega (arith, pq.far);
        exact_x = omega arith;
        exact_y = omega arith;
      }

  step_of : Shifts (places_of t) (places_of t') g g' (Post B) p q v
  step_of = record { shift = regroup; v_sum = omega (arith, one_step); v_dif = omega (arith, one_step) }

  -- ---- the groups
  -- a post that stays on the contour
  record Stays (c : ℕ) : Type 0 where
    is_post : Post B c
    was_on : In c (X ++ p ∷ (M ++ q ∷ Y))
    where_to : (g' c ≤ g p) ⊎ (g p + 2 ≤ g' c)
    only : (u : ℕ) → Post B u → g' u ≡ g' c → g u ≡ g c

  stays_left : (c : ℕ) → In c (X ++ p ∷ []) → Stays c
  stays_left c i =
      let b = before_run t X p M q Y D c i in
      let h = on_contour B c b.1 in
      let r = regroup.lo c h b.0 in
      record { is_post = h; was_on = b.1; where_to = inl (omega (arith, r, b.0)); only = λ u k e. go u (moves_of u k) r.group b.0 e }
    where
      go : (u : ℕ) → Moves_of u → g' c ≡ g c → g c ≤ g p → g' u ≡ g' c → g u ≡ g c
      go u (lo a b) i j k = omega arith
      go u (mi a a' b) i j k = omega arith
      go u (hi a b) i j k = omega arith

  stays_right : (c : ℕ) → In c (q ∷ Y) → Stays c
  stays_right c i =
      let b = after_run t X p M q Y D c i in
      let h = on_contour B c b.1 in
      let r = regroup.hi c h b.0 in
      record { is_post = h; was_on = b.1; where_to = inr (omega (arith, r, b.0)); only = λ u k e. go u (moves_of u k) r.group b.0 e }
    where
      go : (u : ℕ) → Moves_of u → g' c + g q ≡ g c + g p + 2 → g q ≤ g c → g' u ≡ g' c → g u ≡ g c
      go u (lo a b) i j k = omega arith
      go u (mi a a' b) i j k = omega arith
      go u (hi a b) i j k = omega arith

  -- a post of the new contour: v, or one that stays
  on_new : (c : ℕ) → In c (X ++ p ∷ v ∷ q ∷ Y) → (c ≡ v) ⊎ Stays c
  on_new c i = go (sides c X p (v ∷ []) q Y i)
    where
      go : In c (X ++ p ∷ []) ⊎ (In c (v ∷ []) ⊎ In c (q ∷ Y)) → (c ≡ v) ⊎ Stays c
      go (inl k) = inr (stays_left c k)
      go (inr (inl (inl e))) = inl e
      go (inr (inl (inr z))) = absurd z
      go (inr (inr k)) = inr (stays_right c k)

  same_place : (u c : ℕ) → Post B u → Post B c → g u ≡ g c → g' u ≡ g' c
  same_place u c h k e = cc (g_old u h, g_old c k)

  group_old : (c : ℕ) → Post B c → t'.group c ≡ t.group c
  unfolding over
  group_old c h = rw (ne_eqb c v (other c h))

  group_new : t'.group v ≡ v ∷ flat_map t.group M
  unfolding over
  group_new = rw (eq-eqb v v refl)

  in_group' : (c u : ℕ) → In c (X ++ p ∷ v ∷ q ∷ Y) → In u (t'.group c) → ((u ≡ v) ⊎ Post B u) × (g' u ≡ g' c)
  in_group' c u i h = go (on_new c i)
    where
      new : In u (v ∷ flat_map t.group M) → ((u ≡ v) ⊎ Post B u) × (g' u ≡ g' v)
      new (inl e) = (inl e, ap g' e)
      new (inr k) = let r = in_ones t X p M q Y D u k in (inr r.0, (regroup.mi u r.0 r.1 r.2).group ∙ sym g_new)

      go : (c ≡ v) ⊎ Stays c → ((u ≡ v) ⊎ Post B u) × (g' u ≡ g' c)
      go (inl e) = rw e (new (subst (In u) (ap t'.group e ∙ group_new) h))
      go (inr S) =
          let r = D.in_group c u S.was_on (subst (In u) (group_old c S.is_post) h) in
          (inr r.0, same_place u c r.0 S.is_post r.1)

  grouped' : (c u : ℕ) → In c (X ++ p ∷ v ∷ q ∷ Y) → (u ≡ v) ⊎ Post B u → g' u ≡ g' c → In u (t'.group c)
  grouped' c u i h e = go (on_new c i) h
    where
      new : (k : Post B u) → Moves_of u → g' u ≡ g p + 1 → In u (flat_map t.group M)
      new k (lo a b) z = absurd (omega arith)
      new k (mi a a' b) z = ones t X p M q Y D u k a a'
      new k (hi a b) z = absurd (omega arith)

      off : (g' c ≤ g p) ⊎ (g p + 2 ≤ g' c) → g' u ≡ g p + 1 → ⊥
      off (inl k) z = omega arith
      off (inr k) z = omega arith

      go : (c ≡ v) ⊎ Stays c → (u ≡ v) ⊎ Post B u → In u (t'.group c)
      go (inl d) (inl k) = subst⁻¹ (In u) (ap t'.group d ∙ group_new) (inl k)
      go (inl d) (inr k) = subst⁻¹ (In u) (ap t'.group d ∙ group_new) (inr (new k (moves_of u k) (e ∙ ap g' d ∙ g_new)))
      go (inr S) (inl k) = absurd (off S.where_to (ap g' k ∙ g_new))
      go (inr S) (inr k) = subst⁻¹ (In u) (group_old c S.is_post) (D.grouped c u S.was_on k (S.only u k e))

  headed' : (u : ℕ) → (u ≡ v) ⊎ Post B u → (c : ℕ) × In c (X ++ p ∷ v ∷ q ∷ Y) × (g' u ≡ g' c)
  headed' u (inl e) = (v, in_right v X (p ∷ v ∷ q ∷ Y) (inr (inl refl)), ap g' e)
  headed' u (inr h) = let r = D.headed u h in go r.0 r.1 r.2 (sides r.0 X p M q Y r.1)
    where
      go : (c : ℕ) → In c (X ++ p ∷ (M ++ q ∷ Y)) → g u ≡ g c → In c (X ++ p ∷ []) ⊎ (In c M ⊎ In c (q ∷ Y))
          → (c : ℕ) × In c (X ++ p ∷ v ∷ q ∷ Y) × (g' u ≡ g' c)
      go c i e (inl k) = (
        c,
        subst (In c) (append_assoc X (p ∷ []) (v ∷ q ∷ Y)) (in_left c (X ++ p ∷ []) (v ∷ q ∷ Y) k),
        same_place u c h (on_contour B c i) e,
      )
      go c i e (inr (inl k)) =
          let r = inside t X p M q Y D c k in
          (v, in_right v X (p ∷ v ∷ q ∷ Y) (inr (inl refl)), (regroup.mi u h (omega (arith, r.0)) (omega (arith, r.1))).group ∙ sym g_new)
      go c i e (inr (inr k)) = (c, in_right c X (p ∷ v ∷ q ∷ Y) (inr (inr k)), same_place u c h (on_contour B c i) e)

  -- ---- the next stage
  contour' : t'.contour ≡ X ++ p ∷ v ∷ q ∷ Y
  unfolding over
  contour' = append_assoc X (p ∷ []) (v ∷ q ∷ Y)

  placed' : t'.placed ≡ t.placed ++ v ∷ []
  unfolding over
  placed' = refl

  drawn : Drawn t' (post X p M q Y v B)
  drawn =
      record {
        contour = contour';
        posts = posts;
        placed = λ u h. in_cases u t.placed (v ∷ []) (λ k. inr (D.placed u k)) (elim [ inl e ↦ inl e | inr z ↦ absurd z ]) (rw placed' at h);
        width = D.width + 2;
        wide = omega (arith, D.wide, ap length placed', length-append t.placed (v ∷ []));
        g = g';
        laid = laid_next (places_of t) (places_of t') g g' D.width X p M q Y v B D.laid step_of;
        headed = headed';
        in_group = in_group';
        grouped = grouped';
      }
    where
      posts : (u : ℕ) → (u ≡ v) ⊎ Post B u → In u t'.placed
      posts u (inl e) = rw placed' (in_right u t.placed (v ∷ []) (inl e))
      posts u (inr k) = rw placed' (in_left u t.placed (v ∷ []) (D.posts u k))

  -- the step, and what it does
  pub step : Drawn (place_over t (p ∷ (M ++ q ∷ [])) v) (post X p M q Y v B)
  step = rw (placed_over t X p M q Y D v) drawn

  pub stepped : OneStep t (place_over t (p ∷ (M ++ q ∷ [])) v) p q v
  stepped = rw (placed_over t X p M q Y D v) one_step
