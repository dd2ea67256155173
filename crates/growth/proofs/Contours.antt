-- C_k is the contour of the order's laws: a list from v1 to v2 whose wires, closed from v2 to v1, are exactly those that border the exterior face.
use mathlib.Core.Path.{◌≡◌, refl, sym, ap, ◌∙◌, subst}
use mathlib.Core.Logic.{inl, inr, ◌≢◌, ◌↔◌}
use mathlib.Core.List.{List, [], ◌∷◌, ◌++◌, append_assoc}
use Prim.Native.Nat.{ℕ, ◌≤◌, ◌<◌}
use native.Mathlib.Omega.{arith}
use lib.ListN.{length, take}
use Rattle.words.specs.Lists.{In, last_of, Head, Adj}
use Rattle.words.specs.Positions.{post}
use Rattle.words.proofs.Lists.{Once, adj_turn, once_next, first_alone, last_alone, last_append, head_one, turn_closes}
use Rattle.words.proofs.Tests.{different_once, once_different}
use Rattle.rings.specs.Rings.{ring, around}
use Rattle.rings.specs.Plane.{Plane}
use Rattle.rings.proofs.Around.{After, adj_cut, cut_adj, follows_after, around_in, around_next, around_cut}
use Rattle.rings.proofs.Says.{Faces, faces_plane, entry_other, entry_returned}
use Rattle.order.specs.Canonical.{Canonical}
use Rattle.order.proofs.Contour.{Run, Contour}
use Rattle.order.proofs.NewRun.{two_ends}
use Rattle.order.proofs.Growth.{Names}
use Rattle.growth.specs.Co.{Face, ContourWire, ContourPost, ContourList}
use Rattle.growth.specs.Co.Face.{same, turn, cross}
use Rattle.growth.proofs.Named.{post_in, post_apart, not_yet}
use Rattle.growth.proofs.Triangles.{all_sides, sides_only}
use Rattle.growth.proofs.ToStages.{leave_at, leave_wire, base_wire}

-- the list closes by the wire from v2 to v1
pub closing_wire : (G : List (List ℕ)) (vs : List ℕ) (k : ℕ) (K : List ℕ) → ContourList G vs k K → ContourWire G vs k (post vs 2) (post vs 1)
closing_wire G vs k K W = (W.wires v2 v1).1 (v1 ∷ W.between, [], ap around W.is ∙ around_cut v1 W.between (v2 ∷ []))
  where
    v1 : ℕ
    v1 = post vs 1

    v2 : ℕ
    v2 = post vs 2

-- a post is on C_k if it is in the list, and only then
pub on_list : (G : List (List ℕ)) (vs : List ℕ) (k : ℕ) (K : List ℕ) → ContourList G vs k K → (a : ℕ) → ContourPost G vs k a ↔ In a K
on_list G vs k K W a = (to, from)
  where
    to : ContourPost G vs k a → In a K
    to (b, inl w) = let t = (W.wires a b).0 w in (around_in K a b (cut_adj (around K) t.0 a b t.1 t.2)).0
    to (b, inr w) = let t = (W.wires b a).0 w in (around_in K b a (cut_adj (around K) t.0 b a t.1 t.2)).1

    from : In a K → ContourPost G vs k a
    from i = let b = around_next K a i in (b.0, inl ((W.wires a b.0).1 (adj_cut (around K) a b.0 b.1)))

-- while vn waits, every triangle of the exterior face has a waiting post
module _ (G : List (List ℕ)) (A : Faces G) (placed : List ℕ) (v1 v2 vn : ℕ) (m : ¬ (In vn placed)) where
  exterior_waits : {u v w : ℕ} → Face G placed v2 v1 vn u v w → ¬ (In u placed × In v placed × In w placed)
  exterior_waits same t = m t.2
  exterior_waits (turn f) t = exterior_waits f (t.2, t.0, t.1)
  exterior_waits (cross {u} {v} {w} {x} f nw g) t =
      nw (t.1, t.0, entry_returned G A v u (around_in (ring G v) u x (follows_after G v u x g)).0)

-- the run of vn, from v1 to v2, is the whole contour
module _ (F : ℕ → ℕ → ℕ → Type 0) (v1 v2 v : ℕ) (done : List ℕ) (p : ℕ) (M : List ℕ) (q : ℕ) (X Y : List ℕ)
    (U : Run F done v p M q) (C : Contour F v1 v2 done (X ++ p ∷ (M ++ q ∷ Y)))
    (cut : ¬ (Adj (p ∷ (M ++ q ∷ [])) v2 v1)) (f : F v v2 v1) (i1 : In v1 done) (i2 : In v2 done) where
  ends : (q ≡ v2) × (p ≡ v1)
  ends = let t = turn_closes p M q v2 v1 cut (U.inner v2 v1 f i2 i1) in (t.1, t.0)

  pub last_contour : X ++ p ∷ v ∷ q ∷ Y ≡ v1 ∷ v ∷ v2 ∷ []
  last_contour = go X Y no_X no_Y ends.1 ends.0
    where
      a : X ++ p ∷ (M ++ q ∷ Y) ≡ (X ++ p ∷ M) ++ q ∷ Y
      a = sym (append_assoc X (p ∷ M) (q ∷ Y))

      no_X : X ≡ []
      no_X = first_alone X p (M ++ q ∷ Y) C.once (subst (Head (X ++ p ∷ (M ++ q ∷ Y))) (sym ends.1) C.first)

      no_Y : Y ≡ []
      no_Y = last_alone v1 (X ++ p ∷ M) q Y (subst Once a C.once) (ap (last_of v1) (sym a) ∙ C.last ∙ sym ends.0)

      go : (X Y : List ℕ) → X ≡ [] → Y ≡ [] → p ≡ v1 → q ≡ v2 → X ++ p ∷ v ∷ q ∷ Y ≡ v1 ∷ v ∷ v2 ∷ []
      go X Y ex ey ep eq = rw (ex, ey, ep, eq)

module _ (G : List (List ℕ)) (vs : List ℕ) (P : Plane G (post vs 1) (post vs 2) (post vs (length G))) (O : Canonical G vs) where
  abbrev v1 : ℕ
  v1 = post vs 1

  abbrev v2 : ℕ
  v2 = post vs 2

  abbrev vn : ℕ
  vn = post vs (length G)

  A : Faces G
  A = faces_plane G v1 v2 vn P

  n : length vs ≡ length G
  n = O.all

  N : Names (length G) vs
  N = record { all = O.all; below = O.below; once = different_once vs O.once }

  outer : After G v2 v1 vn
  outer = follows_after G v2 v1 vn P.outer

  module _ (k : ℕ) (h : 3 ≤ k) (l : k < length G) (K : List ℕ) (C : Contour (After G) (post vs 1) (post vs 2) (take k vs) K) where
    abbrev first_k : List ℕ
    first_k = take k vs

    vn_waits : ¬ (In vn first_k)
    vn_waits = not_yet G vs N k (length G) l (omega arith)

    -- a wire of C_k is one of the contour's circle
    wire_circle : (x y : ℕ) → ContourWire G vs k x y → Adj (post vs 2 ∷ K) x y
    wire_circle x y w =
        let z = w.1.0 in
        C.edge x y z w.0.0 w.0.1
        (λ i. exterior_waits G A first_k v1 v2 vn vn_waits w.1.2 (w.0.0, w.0.1, i)) (follows_after G x y z w.1.1)

    -- and the other way round: from v1 on, each post with a waiting neighbour has such a wire to the next one
    abbrev WiredOn : ℕ → List ℕ → Type 0
    WiredOn a Z = In a first_k → (x : ℕ) → In x (ring G a) → ¬ (In x first_k) → (p q : ℕ) → Adj (a ∷ Z) p q → ContourWire G vs k p q

    chain : (Z X : List ℕ) (a : ℕ) → K ≡ X ++ a ∷ Z → WiredOn a Z
    chain [] X a e i x j m p q (inl g) = absurd g.1
    chain [] X a e i x j m p q (inr g) = absurd g
    chain (z ∷ Z) X a e i x j m p q g =
        go (leave_at G vs P O k h (omega (arith, n)) a x i j m) (chain Z (X ++ a ∷ []) z (e ∙ sym (append_assoc X (a ∷ []) (z ∷ Z))))
      where
        single : Once (X ++ a ∷ z ∷ Z)
        single = subst Once e C.once

        go : (s y : ℕ) × After G a s y × In s first_k × ¬ (In y first_k) → WiredOn z Z → ContourWire G vs k p q
        go (s, y, f, si, ym) r = on (is (C.edge a s y i si ym f)) g
          where
            is : Adj (v2 ∷ K) a s → z ≡ s
            is (inl b) = absurd (no_more (last_alone v1 X a (z ∷ Z) single (ap (last_of v1) (sym e) ∙ C.last ∙ b.0)))
              where
                no_more : z ∷ Z ≡ [] → ⊥
                no_more q = omega (arith, ap length q)
            is (inr b) = once_next a s X (z ∷ Z) single (subst (λ (r : List ℕ). Adj r a s) e b)

            on : z ≡ s → Adj (a ∷ z ∷ Z) p q → ContourWire G vs k p q
            on ez (inl b) = rw (← b.0, ← b.1, ez) (leave_wire G vs P O k h (omega (arith, n)) a s y i f si ym)
            on ez (inr b) = r (rw ez si) y (rw ez (around_in (ring G s) y a (A.triangle a s y f)).0) ym p q b

    circle_wire : (x y : ℕ) → Adj (post vs 2 ∷ K) x y → ContourWire G vs k x y
    circle_wire x y (inl b) = rw (← b.0, head_one K y v1 b.1 C.first) (base_wire G vs P O k h (omega (arith, n)))
    circle_wire x y (inr b) = go K refl C.first b
      where
        v1_in : In v1 first_k
        v1_in = post_in vs k 1 (omega arith) (omega arith) (omega (arith, n))

        vn_near : In vn (ring G v1)
        vn_near = (around_in (ring G v1) vn v2 (A.triangle v2 v1 vn outer)).0

        go : (L : List ℕ) → K ≡ L → Head L v1 → Adj L x y → ContourWire G vs k x y
        go [] e f b = absurd b
        go (v ∷ Z) e f b = chain Z [] v e (rw f v1_in) vn (rw f vn_near) vn_waits x y b

  -- ---- C_k as a list
  written : (k : ℕ) (M : List ℕ) → Once (v1 ∷ (M ++ v2 ∷ []))
      → ((x y : ℕ) → ContourWire G vs k x y ↔ Adj (v2 ∷ v1 ∷ (M ++ v2 ∷ [])) x y)
      → ContourList G vs k (v1 ∷ (M ++ v2 ∷ []))
  written k M o w = record {
    between = M;
    is = refl;
    once = once_different (v1 ∷ (M ++ v2 ∷ [])) o;
    wires = λ x y. (
      λ c. adj_cut _ x y (rw (around_cut v1 M (v2 ∷ [])) (adj_turn x y v2 [] v1 M ((w x y).0 c))),
      λ t. (w x y).1 (adj_turn x y v1 M v2 [] (cut_adj _ t.0 x y t.1 (sym (around_cut v1 M (v2 ∷ [])) ∙ t.2))),
    );
  }

  differ_12 : v1 ≢ v2
  differ_12 e = entry_other G A v1 v2 P.bottom (sym e)

  -- below n: any list that has the contour's laws
  pub contour_written : (k : ℕ) → 3 ≤ k → k < length G
      → (K : List ℕ) → Contour (After G) (post vs 1) (post vs 2) (take k vs) K → ContourList G vs k K
  contour_written k h l K C = go (two_ends K (long K C.first C.last))
    where
      long : (K : List ℕ) → Head K v1 → last_of v1 K ≡ v2 → 2 ≤ length K
      long [] f g = absurd f
      long (x ∷ []) f g = absurd (differ_12 (sym f ∙ g))
      long (x ∷ y ∷ K) f g = omega arith

      go : (p : ℕ) × (M : List ℕ) × (q : ℕ) × (K ≡ p ∷ (M ++ q ∷ [])) → ContourList G vs k K
      go (p, M, q, c) = subst (ContourList G vs k) (sym e) (written k M (subst Once e C.once) (λ x y. (to x y, from x y)))
        where
          is_v1 : p ≡ v1
          is_v1 = subst (λ (r : List ℕ). Head r v1) c C.first

          is_v2 : q ≡ v2
          is_v2 = sym (last_append v1 (p ∷ M) q []) ∙ ap (last_of v1) (sym c) ∙ C.last

          e : K ≡ v1 ∷ (M ++ v2 ∷ [])
          e = rw (← is_v1, ← is_v2) c

          to : (x y : ℕ) → ContourWire G vs k x y → Adj (v2 ∷ v1 ∷ (M ++ v2 ∷ [])) x y
          to x y w = subst (λ (r : List ℕ). Adj (v2 ∷ r) x y) e (wire_circle k h l K C x y w)

          from : (x y : ℕ) → Adj (v2 ∷ v1 ∷ (M ++ v2 ∷ [])) x y → ContourWire G vs k x y
          from x y b = circle_wire k h l K C x y (subst (λ (r : List ℕ). Adj (v2 ∷ r) x y) (sym e) b)

  -- at n: the outer triangle
  module _ (three : 3 ≤ length G) where
    placed : (j : ℕ) → 1 ≤ j → j ≤ length G → In (post vs j) (take (length G) vs)
    placed j a b = post_in vs (length G) j a b (omega (arith, n))

    in1 : In v1 (take (length G) vs)
    in1 = placed 1 (omega arith) (omega arith)

    in2 : In v2 (take (length G) vs)
    in2 = placed 2 (omega arith) (omega arith)

    inn : In vn (take (length G) vs)
    inn = placed (length G) (omega arith) (omega arith)

    around_outer : ContourWire G vs (length G) v2 v1 × ContourWire G vs (length G) v1 vn × ContourWire G vs (length G) vn v2
    around_outer = all_sides G A (take (length G) vs) v2 v1 vn outer in2 in1 inn

    pub last_written : ContourList G vs (length G) (post vs 1 ∷ post vs (length G) ∷ post vs 2 ∷ [])
    last_written = written (length G) (vn ∷ []) single (λ x y. (to x y, from x y))
      where
        differ_1n : v1 ≢ vn
        differ_1n = post_apart G vs N 1 (length G) (omega arith) (omega arith) (omega arith)

        differ_2n : v2 ≢ vn
        differ_2n = post_apart G vs N 2 (length G) (omega arith) (omega arith) (omega arith)

        single : Once (v1 ∷ vn ∷ v2 ∷ [])
        single = (
          elim [ inl e ↦ differ_1n e | inr i ↦ elim i [ inl e ↦ differ_12 e | inr j ↦ j ] ],
          (elim [ inl e ↦ differ_2n (sym e) | inr i ↦ i ], ((λ i. i), tt)),
        )

        to : (x y : ℕ) → ContourWire G vs (length G) x y → Adj (v2 ∷ v1 ∷ vn ∷ v2 ∷ []) x y
        to x y c =
            elim (sides_only G A (take (length G) vs) v2 v1 vn outer in2 in1 inn x y c) [
              | inl e ↦ inl (sym e.0, sym e.1)
              | inr i ↦ elim i [ inl e ↦ inr (inl (sym e.0, sym e.1)) | inr e ↦ inr (inr (inl (sym e.0, sym e.1))) ]
            ]

        from : (x y : ℕ) → Adj (v2 ∷ v1 ∷ vn ∷ v2 ∷ []) x y → ContourWire G vs (length G) x y
        from x y (inl b) = rw (← b.0, ← b.1) around_outer.0
        from x y (inr (inl b)) = rw (← b.0, ← b.1) around_outer.1
        from x y (inr (inr (inl b))) = rw (← b.0, ← b.1) around_outer.2
        from x y (inr (inr (inr (inl b)))) = absurd b.1
        from x y (inr (inr (inr (inr b)))) = absurd b
