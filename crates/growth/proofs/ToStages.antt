-- The rule at every position gives co1 to co3 at every stage: along later neighbours every waiting post is joined to vn, so every triangle with a
-- waiting post lies in the exterior face, and the other triangles of a stage are faces by themselves.
use mathlib.Core.Path.{◌≡◌, refl, sym, ◌∙◌, subst}
use mathlib.Core.Logic.{◌⊎◌, inl, inr, ◌≢◌}
use mathlib.Core.List.{List, [], ◌∷◌, ◌++◌}
use Prim.Native.Nat.{ℕ, zero, suc, ◌+◌, ◌-◌, ◌≤◌, ◌<◌}
use native.Mathlib.Omega.{arith}
use native.Mathlib.Decide.{ℕ_discrete, dec_lt}
use lib.ListN.{length, get_or, take, length-take}
use lib.Seq.{take-suc}
use Rattle.words.specs.Lists.{In}
use Rattle.words.specs.Positions.{post, Earlier, Later}
use Rattle.words.proofs.Lists.{in_left, in_right, in_cases, in_dec}
use Rattle.words.proofs.Tests.{different_once}
use Rattle.words.proofs.Positions.{take_in, earlier_in}
use Rattle.rings.specs.Rings.{ring}
use Rattle.rings.specs.Plane.{Wire, Plane}
use Rattle.rings.proofs.Around.{After, follows_after, after_follows, around_in, around_next}
use Rattle.rings.proofs.Says.{Faces, faces_plane, entry_below, entry_other, entry_returned}
use Rattle.order.specs.Canonical.{Two, Canonical}
use Rattle.order.proofs.Growth.{Names, take_two}
use Rattle.growth.specs.Co.{Joined, TwoConnected, Exterior, ContourWire, ContourPost, Co, CoOrder}
use Rattle.growth.specs.Co.Face.{same, turn}
use Rattle.growth.specs.Co.Joined.{here, along}
use Rattle.growth.proofs.Walks.{ring_leave}
use Rattle.growth.proofs.Named.{first_step, post_in, post_other, post_apart, position_of_lem, not_yet}
use Rattle.growth.proofs.Triangles.{around_waiting, triangular}

module _ (G : List (List ℕ)) (vs : List ℕ) (P : Plane G (post vs 1) (post vs 2) (post vs (length G))) (O : Canonical G vs) where
  abbrev v1 : ℕ
  v1 = post vs 1

  abbrev v2 : ℕ
  v2 = post vs 2

  abbrev vn : ℕ
  vn = post vs (length G)

  A : Faces G
  A = faces_plane G v1 v2 vn P

  n : length vs ≡ length G
  n = O.all

  N : Names (length G) vs
  N = record { all = O.all; below = O.below; once = different_once vs O.once }

  outer : After G v2 v1 vn
  outer = follows_after G v2 v1 vn P.outer

  bottom_back : In v1 (ring G v2)
  bottom_back = entry_returned G A v1 v2 P.bottom

  -- v1 and v2 are two posts
  two_posts : 2 ≤ length G
  two_posts = go (dec_lt 1 (length G))
    where
      go : Dec (1 < length G) → 2 ≤ length G
      go (yes l) = omega arith
      go (no l) = absurd (
          let a = entry_below G A v1 v2 P.bottom in
          let b = entry_below G A v2 v1 bottom_back in
          entry_other G A v1 v2 P.bottom (omega arith))

  -- ---- every triangle with a waiting post is exterior
  module _ (k : ℕ) (h : 2 ≤ k) where
    abbrev All : ℕ → Type 0
    All x = (a b : ℕ) → After G x a b → Exterior G vs k x a b

    -- all of a waiting post's triangles are, if one is
    all_out : (x a b : ℕ) → ¬ (In x (take k vs)) → After G x a b → Exterior G vs k x a b → All x
    all_out = around_waiting G A (take k vs) v2 v1 vn

    last_out : k < length G → All vn
    last_out l =
        all_out vn v2 v1 (not_yet G vs N k (length G) l (omega arith)) (A.triangle v1 vn v2 (A.triangle v2 v1 vn outer)) (turn (turn same))

    waiting_out : (d j : ℕ) → length G ≤ j + d → k < j → j ≤ length G → All (post vs j)
    waiting_out zero j m i l = let e : j ≡ length G = omega arith in rw e (last_out (omega arith))
    waiting_out (suc d) j m i l = go (ℕ_discrete j (length G)) (waiting_out d)
      where
        go : Dec (j ≡ length G) → ((j : ℕ) → length G ≤ j + d → k < j → j ≤ length G → All (post vs j)) → All (post vs j)
        go (yes e) r = rw e (last_out (omega arith))
        go (no ne) r = next (O.later j (omega arith) (omega (arith, n)))
          where
            next : (y : ℕ) × In y (ring G (post vs j)) × Later vs j y → All (post vs j)
            next t =
                let x = post vs j in
                let y = t.0 in
                let s = t.2 in
                let b = around_next (ring G y) x (entry_returned G A x y t.1) in
                let all : All y = subst All s.3 (r s.0 (omega (arith, s.1)) (omega (arith, s.1)) (omega (arith, s.2, n))) in
                all_out x b.0 y (not_yet G vs N k j i l) (A.triangle y x b.0 b.1) (turn (all x b.0 b.1))

    -- at a post that waits
    out_at : (x : ℕ) → ¬ (In x (take k vs)) → All x
    out_at x m a b f =
        let t = position_of_lem G vs N x (around_below x a b f) in
        subst All t.3 (waiting_out (length G) t.0 (omega arith) (late t) t.2) a b f
      where
        around_below : (x a b : ℕ) → After G x a b → x < length G
        around_below x a b f = entry_below G A a x (entry_returned G A x a (around_in (ring G x) a b f).0)

        late : (t : (j : ℕ) × (1 ≤ j) × (j ≤ length G) × (post vs j ≡ x)) → k < t.0
        late t = go (dec_lt k t.0)
          where
            go : Dec (k < t.0) → k < t.0
            go (yes l) = l
            go (no l) =
                let i = take_in k vs (t.0 - 1) (omega (arith, t.1)) (omega (arith, t.1, t.2, n)) in
                absurd (m (subst (λ (r : ℕ). In r (take k vs)) t.3 i))

    -- a triangle that is not exterior has placed posts
    pub not_exterior : (u v w : ℕ) → After G u v w → ¬ (Exterior G vs k u v w)
        → In u (take k vs) × In v (take k vs) × In w (take k vs)
    not_exterior u v w f no-out = (
      go u (λ m. no-out (out_at u m v w f)),
      go v (λ m. no-out (turn (turn (out_at v m w u (A.triangle u v w f))))),
      go w (λ m. no-out (turn (out_at w m u v (A.triangle v w u (A.triangle u v w f))))),
    )
      where
        go : (a : ℕ) → (¬ (In a (take k vs)) → ⊥) → In a (take k vs)
        go a f = elim (in_dec a (take k vs)) [ yes i ↦ i | no m ↦ absurd (f m) ]

  -- ---- 2-connected
  abbrev AnyTwo : ℕ → Type 0
  AnyTwo k = (z a b : ℕ) → In a (take k vs) → In b (take k vs) → a ≢ z → b ≢ z → Joined G (take k vs) z a b

  v1_v2 : Wire G (take 2 vs) v1 v2
  v1_v2 = (
    post_in vs 2 1 (omega arith) (omega arith) (omega (arith, n, two_posts)),
    post_in vs 2 2 (omega arith) (omega arith) (omega (arith, n, two_posts)),
    P.bottom,
  )

  any_two_first : AnyTwo 2
  any_two_first z a b ia ib na nb = go (subst (In a) both ia) (subst (In b) both ib)
    where
      both : take 2 vs ≡ v1 ∷ v2 ∷ []
      both = take_two vs (omega (arith, n, two_posts))

      w21 : Wire G (take 2 vs) v2 v1
      w21 = (v1_v2.1, v1_v2.0, bottom_back)

      go : In a (v1 ∷ v2 ∷ []) → In b (v1 ∷ v2 ∷ []) → Joined G (take 2 vs) z a b
      go (inl e) (inl f) = rw (e, f) here
      go (inl e) (inr (inl f)) = rw (e, f) (along here v1_v2 (rw f at nb))
      go (inr (inl e)) (inl f) = rw (e, f) (along here w21 (rw f at nb))
      go (inr (inl e)) (inr (inl f)) = rw (e, f) here
      go (inl e) (inr (inr i)) = absurd i
      go (inr (inl e)) (inr (inr i)) = absurd i
      go (inr (inr i)) j = absurd i

  module _ (k : ℕ) (h : 2 ≤ k) (l : suc k ≤ length vs) (r : AnyTwo k) (z : ℕ) where
    abbrev v : ℕ
    v = get_or vs k 0

    abbrev old : List ℕ
    old = take k vs

    abbrev now : List ℕ
    now = take (suc k) vs

    new_list : now ≡ old ++ v ∷ []
    new_list = take-suc vs k 0 l

    keep : (a : ℕ) → In a old → In a now
    keep a i = rw new_list (in_left a old (v ∷ []) i)

    v_in : In v now
    v_in = rw new_list (in_right v old (v ∷ []) (inl refl))

    old_or_v : (a : ℕ) → In a now → In a old ⊎ (a ≡ v)
    old_or_v a i = in_cases a old (v ∷ []) inl (elim [ inl e ↦ inr e | inr j ↦ absurd j ]) (subst (In a) new_list i)

    wider : {a b : ℕ} → Joined G old z a b → Joined G now z a b
    wider here = here
    wider (along {u} {w} p q ne) = along (wider p) (keep u q.0, keep w q.1, q.2) ne

    -- an earlier neighbour other than z
    hold : (c : ℕ) × In c old × In c (ring G v) × (c ≢ z)
    hold = go (O.two (suc k) (omega arith) l)
      where
        go : Two G vs (suc k) (post vs (suc k)) → (c : ℕ) × In c old × In c (ring G v) × (c ≢ z)
        go t = pick (ℕ_discrete t.a z)
          where
            s : suc k - 1 ≡ k
            s = omega arith

            before : (c : ℕ) → Earlier vs (suc k) c → In c old
            before c i = rw s at (earlier_in vs (suc k) c (omega arith) i)

            pick : Dec (t.a ≡ z) → (c : ℕ) × In c old × In c (ring G v) × (c ≢ z)
            pick (no m) = (t.a, before t.a t.earlier_a, rw s at t.near_a, m)
            pick (yes e) = (t.b, before t.b t.earlier_b, rw s at t.near_b, λ q. t.apart (e ∙ sym q))

    to_new : (a : ℕ) → In a old → a ≢ z → v ≢ z → Joined G now z a v
    to_new a i na nv =
        let c = hold.0 in
        along (wider (r z a c i hold.1 na hold.3)) (keep c hold.1, v_in, entry_returned G A v c hold.2) nv

    from_new : (b : ℕ) → In b old → b ≢ z → v ≢ z → Joined G now z v b
    from_new b i nb nv =
        let c = hold.0 in
        onward (along here (v_in, keep c hold.1, hold.2) hold.3) (wider (r z c b hold.1 i hold.3 nb))
      where
        onward : {a b c : ℕ} → Joined G now z a b → Joined G now z b c → Joined G now z a c
        onward p here = p
        onward p (along q w ne) = along (onward p q) w ne

    any_two_next : (a b : ℕ) → In a now → In b now → a ≢ z → b ≢ z → Joined G now z a b
    any_two_next a b ia ib na nb = go (old_or_v a ia) (old_or_v b ib)
      where
        go : In a old ⊎ (a ≡ v) → In b old ⊎ (b ≡ v) → Joined G now z a b
        go (inl i) (inl j) = wider (r z a b i j na nb)
        go (inl i) (inr f) = rw f (to_new a i na (rw f at nb))
        go (inr e) (inl j) = rw e (from_new b j nb (rw e at na))
        go (inr e) (inr f) = rw (e, f) here

  any_two : (k : ℕ) → suc (suc k) ≤ length vs → AnyTwo (suc (suc k))
  any_two zero l = any_two_first
  any_two (suc k) l = any_two_next (suc (suc k)) (omega arith) l (any_two k (omega arith))

  two_connected : (k : ℕ) → 3 ≤ k → k ≤ length vs → TwoConnected G (take k vs)
  two_connected k h l =
      let q : suc (suc (k - 2)) ≡ k = omega arith in
      (omega (arith, length-take k vs), subst AnyTwo q (any_two (k - 2) (omega arith)))

  -- ---- a placed neighbour of a waiting post is on the contour
  module _ (k : ℕ) (h : 3 ≤ k) (l : k ≤ length vs) where
    -- its ring leaves the placed posts
    pub leave_at : (a x : ℕ) → In a (take k vs) → In x (ring G a) → ¬ (In x (take k vs))
        → (s y : ℕ) × After G a s y × In s (take k vs) × ¬ (In y (take k vs))
    leave_at a x i j m =
        let c = neighbour (ℕ_discrete a v1) in
        ring_leave (take k vs) (ring G a) c.0 x c.1.2 c.1.1 j m
      where
        a_below : a ≢ length G
        a_below e = omega (arith, e, entry_below G A x a (entry_returned G A a x j))

        to : (j : ℕ) → 1 ≤ j → j ≤ 2 → a ≢ post vs j → (c : ℕ) × Wire G (take k vs) a c × (c ≢ length G)
        to j p q ne =
            let there = post_in vs k j p (omega arith) l in
            let path = (two_connected k h l).1 (length G) a (post vs j) i there a_below (post_other G vs N j p (omega (arith, n))) in
            first_step G (take k vs) (length G) a path ne

        neighbour : Dec (a ≡ v1) → (c : ℕ) × Wire G (take k vs) a c × (c ≢ length G)
        neighbour (no ne) = to 1 (omega arith) (omega arith) ne
        neighbour (yes e) =
            to 2 (omega arith) (omega arith) (λ f. post_apart G vs N 1 2 (omega arith) (omega arith) (omega (arith, n)) (sym e ∙ f))

    -- towards a contour wire's open side
    pub leave_wire : (a s y : ℕ) → In a (take k vs) → After G a s y → In s (take k vs) → ¬ (In y (take k vs)) → ContourWire G vs k a s
    leave_wire a s y i f j m =
        let out = out_at k (omega arith) y m a s (A.triangle s y a (A.triangle a s y f)) in
        ((i, j, (around_in (ring G a) s y f).0), (y, after_follows G a s y f, turn out))

    near_contour : (a x : ℕ) → In a (take k vs) → In x (ring G a) → ¬ (In x (take k vs)) → ContourPost G vs k a
    near_contour a x i j m = let t = leave_at a x i j m in (t.0, inl (leave_wire a t.0 t.1 i t.2 t.3 t.4))

    pub base_wire : ContourWire G vs k (post vs 2) (post vs 1)
    base_wire = (
      (post_in vs k 2 (omega arith) (omega arith) l, post_in vs k 1 (omega arith) (omega arith) l, bottom_back),
      (vn, P.outer, same),
    )

  next_waits : (k : ℕ) → k < length vs → ¬ (In (post vs (suc k)) (take k vs))
  next_waits k m = not_yet G vs N k (suc k) (omega arith) (omega (arith, n))

  co_at : (k : ℕ) → 3 ≤ k → k ≤ length vs → Co G vs k
  co_at k h l = record {
    co1_two_connected = two_connected k h l;
    co1_triangulated = λ u v w f no-out.
        let g = follows_after G u v w f in
        let i = not_exterior k (omega arith) u v w g no-out in
        triangular G A (take k vs) u v w g i.0 i.1 i.2;
    co2_base = inr (base_wire k h l);
    co3_outside = λ m a b f. out_at k (omega arith) (post vs (suc k)) (next_waits k m) a b (follows_after G (post vs (suc k)) a b f);
    co3_near = λ m a i j. near_contour k h l a (post vs (suc k)) i (entry_returned G A (post vs (suc k)) a j) (next_waits k m);
  }

  pub to_stages : CoOrder G vs
  to_stages = record { all = O.all; below = O.below; once = O.once; co = co_at }
