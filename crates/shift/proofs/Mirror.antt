-- No triangle is turned over: each triangle of the rings whose posts are placed turns counter-clockwise, but for the outer one.
use Prim.Native.Nat.{ℕ, suc, ◌≤◌, ◌<◌}
use mathlib.Core.Path.{◌≡◌, refl, sym, ◌∙◌, subst}
use mathlib.Core.Logic.{inl, inr, ◌≢◌}
use mathlib.Core.List.{List, [], ◌∷◌, ◌++◌}
use native.Mathlib.Omega.{arith}
use lib.ListN.{length, take, get_or-append}
use Rattle.words.specs.Lists.{In, Adj}
use Rattle.words.specs.Positions.{post}
use Rattle.words.proofs.Lists.{Once, adj_cases, adj_init, adj_tail, head_one, once_split, once_drop, in_right, in_cases}
use Rattle.words.proofs.Positions.{in_take, post_suc}
use Rattle.rings.specs.Plane.{Plane, Follows, OuterTriangle}
use Rattle.rings.proofs.Around.{After, follows_after}
use Rattle.rings.proofs.Says.{Faces, next_corner}
use Rattle.order.proofs.Contour.{Rings, Contour}
use Rattle.order.proofs.NewRun.{rings}
use Rattle.order.specs.Fitting.{FitsSoFar}
use Rattle.order.proofs.Fitting.{fits_faces, fits_outer, fits_once}
use Rattle.placing.specs.Stages.{Stage, third, place, stage}
use Rattle.placing.proofs.Steps.{Step, place_placed, at_each_stage}
use Rattle.drawing.specs.Areas.{PositiveArea}
use Rattle.drawing.proofs.Build.{Build}
use Rattle.shift.proofs.Drawn.{places_of}
use Rattle.shift.proofs.Tri.{Tri, tri_turn}
use Rattle.shift.proofs.DrawnSays.{turns}
use Rattle.shift.proofs.Tied.{Tied, tied_third, third_over, tied_next, over_old, over_new}
use Rattle.shift.proofs.Every.{three_differ, placed_at}

-- one of the three posts was placed over the two others, or it is the outer one
data Accounted {C : List ℕ} (B : Build C) (v1 v2 vn u a b : ℕ) : Type 0 where
  over_u : Tri B a b u → Accounted B v1 v2 vn u a b
  over_a : Tri B b u a → Accounted B v1 v2 vn u a b
  over_b : Tri B u a b → Accounted B v1 v2 vn u a b
  outer : OuterTriangle v1 v2 vn u a b → Accounted B v1 v2 vn u a b

turn_accounted : {C : List ℕ} {B : Build C} {v1 v2 vn u a b : ℕ} → Accounted B v1 v2 vn u a b → Accounted B v1 v2 vn a b u
turn_accounted (over_u h) = over_b h
turn_accounted (over_a h) = over_u h
turn_accounted (over_b h) = over_a h
turn_accounted (outer h) = outer (next_corner h)

-- all three placed: the new post is none of them, or by turning the first
all_faces : (F : ℕ → ℕ → ℕ → Type 0) (R : Rings F) (T : ℕ → ℕ → ℕ → Type 0) (rot : (u a b : ℕ) → T u a b → T a b u) (done : List ℕ) (v : ℕ)
    → ((a b : ℕ) → F v a b → In a done → In b done → T v a b) → ((u a b : ℕ) → F u a b → In u done → In a done → In b done → T u a b)
    → (u a b : ℕ) → F u a b → In u (v ∷ done) → In a (v ∷ done) → In b (v ∷ done) → T u a b
all_faces F R T rot done v f g u a b h (inl i) (inl j) k = absurd (R.self v b (rw (i, j) at h))
all_faces F R T rot done v f g u a b h (inl i) (inr j) (inl k) = absurd (R.self v a (R.triangle a v v (R.triangle v a v (rw (i, k) at h))))
all_faces F R T rot done v f g u a b h (inl i) (inr j) (inr k) = rw i (f a b (rw i at h) j k)
all_faces F R T rot done v f g u a b h (inr i) (inl j) (inl k) = absurd (R.self v u (R.triangle u v v (rw (j, k) at h)))
all_faces F R T rot done v f g u a b h (inr i) (inl j) (inr k) = rw j (rot b u v (rot v b u (f b u (R.triangle u v b (rw j at h)) k i)))
all_faces F R T rot done v f g u a b h (inr i) (inr j) (inl k) = rw k (rot v u a (f u a (R.triangle a v u (R.triangle u a v (rw k at h))) i j))
all_faces F R T rot done v f g u a b h (inr i) (inr j) (inr k) = g u a b h i j k

-- a drawing in which each triangle of the rings between placed posts is one of the drawing's, or the outer one
record Faced (G : List (List ℕ)) (v1 v2 vn : ℕ) (t : Stage) : Type 0 where
  tied : Tied G t
  first : post t.placed 1 ≡ v1
  second : post t.placed 2 ≡ v2
  faces : (u a b : ℕ) → After G u a b → In u t.placed → In a t.placed → In b t.placed → Accounted tied.B v1 v2 vn u a b

last_to_first : (u : ℕ) (l : List ℕ) (v : ℕ) → In u (l ++ v ∷ []) → In u (v ∷ l)
last_to_first u l v = in_cases u l (v ∷ []) (λ i. inr i) (elim [ inl e ↦ inl e | inr z ↦ absurd z ])

module _ (G : List (List ℕ)) (F : Faces G) (v1 v2 vn : ℕ) (o : After G v2 v1 vn) where
  R : Rings (After G)
  R = rings G F

  -- ---- stage 3
  module _ (v : ℕ) (d12 : v1 ≢ v2) (d13 : v1 ≢ v) (d23 : v2 ≢ v) where
    abbrev T3 : Tied G (third v1 v2 v)
    T3 = tied_third G F v1 v2 v d12 d13 d23

    corner : (a b : ℕ) → After G v a b → In a (v1 ∷ v2 ∷ []) → In b (v1 ∷ v2 ∷ []) → Accounted T3.B v1 v2 vn v a b
    corner a b f (inl i) (inl j) = absurd (R.self v1 v (R.triangle v v1 v1 (rw (i, j) at f)))
    corner a b f (inl i) (inr (inl j)) = over_u (v1 ∷ v2 ∷ [], third_over G F v1 v2 v d12 d13 d23, inl (sym i, sym j))
    corner a b f (inr (inl i)) (inl j) = outer (inr (inr (R.next_one v2 v1 v vn (R.triangle v v2 v1 (rw (i, j) at f)) o, i, j)))
    corner a b f (inr (inl i)) (inr (inl j)) = absurd (R.self v2 v (R.triangle v v2 v2 (rw (i, j) at f)))
    corner a b f (inl i) (inr (inr x4)) = elim x4 [ ]
    corner a b f (inr (inl i)) (inr (inr x7)) = elim x7 [ ]
    corner a b f (inr (inr x6)) _ = elim x6 [ ]

    -- two posts have no triangle
    flat : (u a b : ℕ) → After G u a b → In u (v1 ∷ v2 ∷ []) → In a (v1 ∷ v2 ∷ []) → In b (v1 ∷ v2 ∷ []) → ⊥
    flat u a b f (inl i) (inl j) k = R.self v1 b (rw (i, j) at f)
    flat u a b f (inl i) (inr (inl j)) (inl k) = R.self v1 v2 (R.triangle v2 v1 v1 (R.triangle v1 v2 v1 (rw (i, j, k) at f)))
    flat u a b f (inl i) (inr (inl j)) (inr (inl k)) = R.self v2 v1 (R.triangle v1 v2 v2 (rw (i, j, k) at f))
    flat u a b f (inr (inl i)) (inl j) (inl k) = R.self v1 v2 (R.triangle v2 v1 v1 (rw (i, j, k) at f))
    flat u a b f (inr (inl i)) (inl j) (inr (inl k)) = R.self v2 v1 (R.triangle v1 v2 v2 (R.triangle v2 v1 v2 (rw (i, j, k) at f)))
    flat u a b f (inr (inl i)) (inr (inl j)) k = R.self v2 b (rw (i, j) at f)
    flat u a b f (inl i) (inr (inl j)) (inr (inr x7)) = elim x7 [ ]
    flat u a b f (inl i) (inr (inr x7)) k = elim x7 [ ]
    flat u a b f (inr (inl i)) (inl j) (inr (inr x8)) = elim x8 [ ]
    flat u a b f (inr (inl i)) (inr (inr x9)) k = elim x9 [ ]
    flat u a b f (inr (inr x7)) _ k = elim x7 [ ]

    faced_third : Faced G v1 v2 vn (third v1 v2 v)
    unfolding third
    faced_third =
        record {
          tied = T3;
          first = refl;
          second = refl;
          faces = λ u a b f i j k.
              all_faces (After G) R (Accounted T3.B v1 v2 vn) (λ u a b. turn_accounted) (v1 ∷ v2 ∷ []) v corner
              (λ u a b f i j k. absurd (flat u a b f i j k))
              u a b f (last_to_first u (v1 ∷ v2 ∷ []) v i) (last_to_first a (v1 ∷ v2 ∷ []) v j) (last_to_first b (v1 ∷ v2 ∷ []) v k);
        }

  -- ---- the step
  module _ (t : Stage) (v : ℕ) (S : Step G t v) (D : Faced G v1 v2 vn t) where
    abbrev T' : Tied G (place G t v)
    T' = tied_next G t v S D.tied F

    not_back : (X : List ℕ) (p : ℕ) (M : List ℕ) (q : ℕ) (Y : List ℕ) → Once (X ++ p ∷ (M ++ q ∷ Y)) → Adj (X ++ p ∷ (M ++ q ∷ Y)) q p → ⊥
    not_back X p M q Y one h =
        let c = once_split X (p ∷ (M ++ q ∷ Y)) one in
        adj_cases q p X p (M ++ q ∷ Y) (λ i. c.1 q (adj_init q p X p i) (inr (in_right q M (q ∷ Y) (inl refl))))
        (λ i. (once_drop X (p ∷ (M ++ q ∷ Y)) one).0 (adj_tail q p p (M ++ q ∷ Y) i)) h

    -- where the run closes to a ring, v is vn and its ends are v1 and v2
    closes : After G v S.q S.p → (v ≡ vn) × (S.q ≡ v2) × (S.p ≡ v1)
    closes f =
        via (K.edge S.q S.p v (S.the_run_lem.placed S.q (inr (in_right S.q S.M (S.q ∷ []) (inl refl))))
        (S.the_run_lem.placed S.p (inl refl)) S.new f')
      where
        K : Contour (After G) (post t.placed 1) (post t.placed 2) t.placed (S.X ++ S.p ∷ (S.M ++ S.q ∷ S.Y))
        K = subst (Contour (After G) (post t.placed 1) (post t.placed 2) t.placed) S.before S.old

        f' : After G S.q S.p v
        f' = R.triangle v S.q S.p f

        via : Adj (post t.placed 2 ∷ (S.X ++ S.p ∷ (S.M ++ S.q ∷ S.Y))) S.q S.p → (v ≡ vn) × (S.q ≡ v2) × (S.p ≡ v1)
        via (inl e) =
            let eq : S.q ≡ v2 = sym e.0 ∙ D.second in
            let ep : S.p ≡ v1 = head_one (S.X ++ S.p ∷ (S.M ++ S.q ∷ S.Y)) S.p (post t.placed 1) e.1 K.first ∙ D.first in
            (R.next_one v2 v1 v vn (rw (eq, ep) at f') o, eq, ep)
        via (inr h) = absurd (not_back S.X S.p S.M S.q S.Y K.once h)

    new_face : (a b : ℕ) → After G v a b → In a t.placed → In b t.placed → Accounted T'.B v1 v2 vn v a b
    new_face a b f i j =
        adj_cases a b (S.p ∷ S.M) S.q (S.p ∷ []) (λ h. over_u (_, over_new G t v S D.tied F, h))
        (elim [
          | inl e ↦ let c = closes (rw (← e.0, ← e.1) at f) in outer (inr (inr (c.0, sym e.0 ∙ c.1, sym e.1 ∙ c.2)))
          | inr h ↦ absurd (elim h [ inl e ↦ e.1 | inr k ↦ k ])
        ])
        (S.the_run_lem.inner a b f i j)

    tri_old : (a b u : ℕ) → Tri D.tied.B a b u → Tri T'.B a b u
    tri_old a b u h = (h.0, over_old G t v S D.tied F u h.0 h.1, h.2)

    still : {u a b : ℕ} → Accounted D.tied.B v1 v2 vn u a b → Accounted T'.B v1 v2 vn u a b
    still {u} {a} {b} (over_u h) = over_u (tri_old a b u h)
    still {u} {a} {b} (over_a h) = over_a (tri_old b u a h)
    still {u} {a} {b} (over_b h) = over_b (tri_old u a b h)
    still (outer h) = outer h

    faced_next : Faced G v1 v2 vn (place G t v)
    faced_next =
        let e = place_placed G t v in
        let n = D.tied.two in
        record {
          tied = T';
          first = rw e (get_or-append t.placed (v ∷ []) 0 0 (omega arith) ∙ D.first);
          second = rw e (get_or-append t.placed (v ∷ []) 0 1 (omega arith) ∙ D.second);
          faces = λ u a b f i j k.
              all_faces (After G) R (Accounted T'.B v1 v2 vn) (λ u a b. turn_accounted) t.placed v new_face
              (λ u a b f i j k. still (D.faces u a b f i j k))
              u a b f (last_to_first u t.placed v (rw e at i)) (last_to_first a t.placed v (rw e at j)) (last_to_first b t.placed v (rw e at k));
        }

-- ---- every stage
module _ (G : List (List ℕ)) (vn : ℕ) (vs : List ℕ) (P : Plane G (post vs 1) (post vs 2) vn) (A : FitsSoFar G vn vs) (k : ℕ) (h : 3 ≤ k)
    (i : k ≤ length vs) where
  abbrev v1 : ℕ
  v1 = post vs 1

  abbrev v2 : ℕ
  v2 = post vs 2

  faced_at : Faced G v1 v2 vn (stage G (take k vs))
  faced_at =
      let F = fits_faces G vn vs P A in
      let o = fits_outer G vn vs P A in
      let d = three_differ vs (fits_once G vn vs P A) (omega arith) in
      at_each_stage G vn vs P A (Faced G v1 v2 vn) (faced_third G F v1 v2 vn o (post vs 3) d.0 d.1 d.2) (faced_next G F v1 v2 vn o) k h i

  -- a triangle of the rings turns counter-clockwise, unless it is the outer one
  pub no_mirror_at : (u a b : ℕ) → Follows G u a b → In u (take k vs) → In a (take k vs) → In b (take k vs) → ¬ (OuterTriangle v1 v2 vn u a b)
      → PositiveArea (places_of (stage G (take k vs))) u a b
  no_mirror_at u a b f iu ia ib out = go (D.faces u a b (follows_after G u a b f) (rw e iu) (rw e ia) (rw e ib))
    where
      D : Faced G v1 v2 vn (stage G (take k vs))
      D = faced_at

      e : (stage G (take k vs)).placed ≡ take k vs
      e = placed_at G vn vs P A k h i

      go : Accounted D.tied.B v1 v2 vn u a b → PositiveArea (places_of (stage G (take k vs))) u a b
      go (over_u h) = let t = tri_turn (places_of (stage G (take k vs))) D.tied.B a b u (turns D.tied.drawn) h in omega (arith, t)
      go (over_a h) = let t = tri_turn (places_of (stage G (take k vs))) D.tied.B b u a (turns D.tied.drawn) h in omega (arith, t)
      go (over_b h) = tri_turn (places_of (stage G (take k vs))) D.tied.B u a b (turns D.tied.drawn) h
      go (outer h) = absurd (out h)

  -- before the last stage vn waits, and every triangle turns so
  vn_waits : k < length G → (a : ℕ) → In a (take k vs) → a ≢ vn
  vn_waits l a j e =
      let r = in_take k vs a j in
      let n = A.last (suc r.0) (omega arith) (omega (arith, r.2)) (post_suc vs r.0 ∙ r.3 ∙ e) in
      omega (arith, r.1)

  pub no_mirror_before : k < length G → (u a b : ℕ) → Follows G u a b → In u (take k vs) → In a (take k vs) → In b (take k vs)
      → PositiveArea (places_of (stage G (take k vs))) u a b
  no_mirror_before l u a b f iu ia ib =
      no_mirror_at u a b f iu ia ib
      (elim [ inl t ↦ vn_waits l b ib t.2 | inr r ↦ elim r [ inl t ↦ vn_waits l a ia t.1 | inr t ↦ vn_waits l u iu t.0 ] ])
