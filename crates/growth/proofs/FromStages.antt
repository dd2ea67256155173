-- co1 to co3 at every stage give the rule at every position: 2-connected gives two earlier neighbours; that the next post lies in the exterior face
-- gives it a later one; and one run is then forced.
use mathlib.Core.Path.{◌≡◌, refl, sym, ap, ◌∙◌, subst}
use mathlib.Core.Logic.{◌⊎◌, inl, inr, ◌≢◌}
use mathlib.Core.List.{List}
use Prim.Native.Nat.{ℕ, suc, ◌-◌, ◌≤◌, ◌<◌}
use native.Mathlib.Omega.{arith}
use native.Mathlib.Decide.{ℕ_discrete}
use lib.ListN.{length, get_or, take}
use Rattle.words.specs.Lists.{In}
use Rattle.words.specs.Positions.{post, Earlier, Later}
use Rattle.words.proofs.Lists.{in_dec, all_there}
use Rattle.words.proofs.Tests.{different_once}
use Rattle.words.proofs.Positions.{in_take, post_suc, later_in, in_later, later_new, earlier_or}
use Rattle.rings.specs.Rings.{ring}
use Rattle.rings.specs.Plane.{Wire, Plane}
use Rattle.rings.proofs.Around.{After, follows_after, after_follows, around_in, around_next}
use Rattle.rings.proofs.Says.{Faces, faces_plane, entry_below, entry_other, entry_returned}
use Rattle.order.specs.Canonical.{Two, Canonical}
use Rattle.order.proofs.Growth.{Names, later_follows}
use Rattle.order.proofs.Tests.{says_two, later_says}
use Rattle.growth.specs.Co.{Face, Joined, CoOrder}
use Rattle.growth.specs.Co.Face.{same, turn, cross}
use Rattle.growth.specs.Forced.{Bridging}
use Rattle.growth.proofs.Forced.{Waiting, two_and_a_later_one}
use Rattle.growth.proofs.Named.{first_step, post_in, post_other, post_apart, not_yet}

-- ---- the exterior face: each post of its triangles is placed, or vn, or has a waiting neighbour
module _ (G : List (List ℕ)) (A : Faces G) (placed : List ℕ) (v1 v2 vn : ℕ) (i1 : In v1 placed) (i2 : In v2 placed) where
  abbrev Fine : ℕ → Type 0
  Fine m = In m placed ⊎ ((m ≡ vn) ⊎ ((y : ℕ) × In y (ring G m) × ¬ (In y placed)))

  beyond : (u v x : ℕ) → ¬ (Wire G placed u v) → After G v u x → Fine x
  beyond u v x nw f = go (in_dec u placed) (in_dec v placed)
    where
      xu : In u (ring G x)
      xu = entry_returned G A u x (around_in (ring G u) x v (A.triangle v u x f)).0

      xv : In v (ring G x)
      xv = entry_returned G A v x (around_in (ring G v) u x f).1

      go : Dec (In u placed) → Dec (In v placed) → Fine x
      go (no m) d = inr (inr (u, xu, m))
      go (yes i) (no m) = inr (inr (v, xv, m))
      go (yes i) (yes j) = absurd (nw (i, j, entry_returned G A v u (around_in (ring G v) u x f).0))

  pub exterior_posts : {u v w : ℕ} → Face G placed v2 v1 vn u v w → Fine u × Fine v × Fine w
  exterior_posts same = (inl i2, inl i1, inr (inl refl))
  exterior_posts (turn f) = let r = exterior_posts f in (r.1, r.2, r.0)
  exterior_posts (cross {u} {v} {w} {x} f nw g) =
      let r = exterior_posts f in (r.1, r.0, beyond u v x nw (follows_after G v u x g))

module _ (G : List (List ℕ)) (vs : List ℕ) (P : Plane G (post vs 1) (post vs 2) (post vs (length G))) (O : CoOrder G vs) where
  abbrev v1 : ℕ
  v1 = post vs 1

  abbrev v2 : ℕ
  v2 = post vs 2

  abbrev vn : ℕ
  vn = post vs (length G)

  A : Faces G
  A = faces_plane G v1 v2 vn P

  n : length vs ≡ length G
  n = O.all

  N : Names (length G) vs
  N = record { all = O.all; below = O.below; once = different_once vs O.once }

  -- ---- two earlier neighbours
  module _ (k : ℕ) (h : 3 ≤ k) (l : k ≤ length vs) where
    abbrev v : ℕ
    v = post vs k

    abbrev first_k : List ℕ
    first_k = take k vs

    apart : (z a b : ℕ) → In a first_k → In b first_k → a ≢ z → b ≢ z → Joined G first_k z a b
    apart = (O.co k h l).co1_two_connected.1

    v_in : In v first_k
    v_in = post_in vs k k (omega arith) (omega arith) l

    other_than : (j : ℕ) → 1 ≤ j → j < k → v ≢ post vs j
    other_than j a b e = post_apart G vs N j k a b (omega (arith, n)) (sym e)

    step_to : (z j : ℕ) → 1 ≤ j → j < k → v ≢ z → post vs j ≢ z → (c : ℕ) × Wire G first_k v c × (c ≢ z)
    step_to z j a b nv nj =
        first_step G first_k z v (apart z v (post vs j) v_in (post_in vs k j a (omega arith) l) nv nj) (other_than j a b)

    before : (c : ℕ) → Wire G first_k v c → Earlier vs k c
    before c w =
        let t = in_take k vs c w.1 in
        let ne : t.0 ≢ k - 1 = λ e. entry_other G A v c w.2 (sym t.3 ∙ ap (λ (r : ℕ). get_or vs r 0) e) in
        (suc t.0, omega arith, omega (arith, t.1, ne), post_suc vs t.0 ∙ t.3)

    first : (c : ℕ) × Wire G first_k v c × (c ≢ length G)
    first =
        step_to (length G) 1 (omega arith) (omega arith)
        (post_other G vs N k (omega arith) (omega (arith, n))) (post_other G vs N 1 (omega arith) (omega (arith, n)))

    second : (c : ℕ) × Wire G first_k v c × (c ≢ first.0)
    second = go (ℕ_discrete v1 first.0)
      where
        nv : v ≢ first.0
        nv e = entry_other G A v first.0 first.1.2 (sym e)

        go : Dec (v1 ≡ first.0) → (c : ℕ) × Wire G first_k v c × (c ≢ first.0)
        go (no m) = step_to first.0 1 (omega arith) (omega arith) nv m
        go (yes e) =
            step_to first.0 2 (omega arith) (omega arith) nv
            (λ e2. post_apart G vs N 1 2 (omega arith) (omega arith) (omega (arith, n)) (e ∙ sym e2))

    two_at : Two G vs k (post vs k)
    two_at = record {
      a = second.0;
      b = first.0;
      apart = second.2;
      near_a = second.1.2;
      near_b = first.1.2;
      earlier_a = before second.0 second.1;
      earlier_b = before first.0 first.1;
    }

  -- ---- a later neighbour
  outer : After G v2 v1 vn
  outer = follows_after G v2 v1 vn P.outer

  -- the third post, by the contour of v1 and v2
  third : 3 < length G → Waiting G vs 2
  third h =
      let two = says_two G vs 3 (post vs 3) (omega (arith, n)) (two_at 3 (omega arith) (omega (arith, n))) in
      let t = later_says G vs 3 (post vs 3) (later_follows G vs A outer N 3 (omega arith) h (λ j a b. absurd (omega arith)) two) in
      (t.0, t.1, later_new vs N.once 3 (omega arith) (omega (arith, n)) t.0 (later_in vs 3 t.0 t.2))

  -- the next post of a stage from 3 on, by the exterior face
  next_waits : (k : ℕ) → 3 ≤ k → suc k < length G → Waiting G vs k
  next_waits k h l =
      let u = post vs (suc k) in
      let a = two_at (suc k) (omega arith) (omega (arith, n)) in
      let b = around_next (ring G u) a.a a.near_a in
      let f = (O.co k h (omega (arith, n))).co3_outside (omega (arith, n)) a.a b.0 (after_follows G u a.a b.0 b.1) in
      subst (λ (r : ℕ). (a : ℕ) × In a (ring G r) × ¬ (In a (take k vs))) (post_suc vs k)
      (go (exterior_posts G A (take k vs) v1 v2 vn in1 in2 f).0)
    where
      in1 : In v1 (take k vs)
      in1 = post_in vs k 1 (omega arith) (omega arith) (omega (arith, n))

      in2 : In v2 (take k vs)
      in2 = post_in vs k 2 (omega arith) (omega arith) (omega (arith, n))

      go : Fine G A (take k vs) v1 v2 vn in1 in2 (post vs (suc k)) → (a : ℕ) × In a (ring G (post vs (suc k))) × ¬ (In a (take k vs))
      go (inl i) = absurd (not_yet G vs N k (suc k) (omega arith) (omega arith) i)
      go (inr (inl e)) = absurd (post_apart G vs N (suc k) (length G) (omega arith) (omega arith) (omega arith) e)
      go (inr (inr t)) = t

  waits : (k : ℕ) → 2 ≤ k → suc k < length G → Waiting G vs k
  waits k h l = go (ℕ_discrete k 2)
    where
      go : Dec (k ≡ 2) → Waiting G vs k
      go (yes e) = rw e (third (omega arith))
      go (no m) = next_waits k (omega arith) l

  later_at : (k : ℕ) → 3 ≤ k → k < length vs → (a : ℕ) × In a (ring G (post vs k)) × Later vs k a
  later_at k h l =
      let t = waits (k - 1) (omega arith) (omega (arith, n)) in
      let a = t.0 in
      let i = all_there (length G) vs N.once N.below (omega (arith, n)) a (entry_below G A (post vs k) a t.1) in
      let other = entry_other G A (post vs k) a t.1 in
      (a, t.1, earlier_or vs N.once k (omega arith) (omega arith) a i (λ i. absurd (t.2 i)) (λ e. absurd (other e)) (in_later vs k a))

  bridging : Bridging G vs
  bridging = record {
    all = O.all;
    below = O.below;
    once = O.once;
    earlier = λ k h l. let t = two_at k h l in (t.a, t.near_a, t.earlier_a);
    later = later_at;
  }

  pub from_stages : Canonical G vs
  from_stages = two_and_a_later_one G vs P bridging two_at
