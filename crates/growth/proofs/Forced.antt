-- One run is forced: in a triangulated plane graph an order in which each post from 3 on has an earlier neighbour, and below n a later one, has one
-- run at every position. Below n each post adds at least one wire more than corners, and 6n-12 entries leave room for no second one.
use mathlib.Core.Path.{◌≡◌, refl, sym, ap, ◌∙◌}
use mathlib.Core.Logic.{inl, inr, ◌≢◌}
use mathlib.Core.Bool.{true}
use mathlib.Core.List.{List, [], ◌∷◌}
use Prim.Native.Nat.{ℕ, zero, suc, ◌+◌, ◌*◌, ◌-◌, ◌≤◌, ◌<◌}
use native.Mathlib.Omega.{arith}
use native.Mathlib.Decide.{dec_lt, ℕ_discrete}
use lib.ListN.{length, get_or, take}
use Rattle.words.specs.Lists.{In}
use Rattle.words.specs.Positions.{post}
use Rattle.words.proofs.Lists.{Once, in_dec, all_there, filled}
use Rattle.words.proofs.Tests.{in_place, place_in, once_different, different_once}
use Rattle.words.proofs.Positions.{in_take, take_in, earlier_in, later_in, later_new}
use Rattle.rings.specs.Rings.{ring, around}
use Rattle.rings.specs.Plane.{Plane}
use Rattle.rings.proofs.Around.{After, follows_after, around_in}
use Rattle.rings.proofs.Says.{Faces, faces_plane, entry_below, entry_other, ring_once}
use Rattle.order.specs.Order.{one_run}
use Rattle.order.specs.Canonical.{OneRun, Canonical}
use Rattle.order.proofs.NewRun.{rings}
use Rattle.order.proofs.Tests.{run_says}
use Rattle.order.proofs.Growth.{Names}
use Rattle.growth.specs.Forced.{Bridging, TwoEach}
use Rattle.growth.proofs.Sums.{sum, flag_yes, flag_no, darts, corners, corners_at}
use Rattle.growth.proofs.Walks.{adj_dec, OneWay, ring_leave, leave_run}
use Rattle.growth.proofs.Counts.{Chosen, w, t, darts_in, corners_in, D_more, C_more, least, leaves_once, leaves_most, total_corners, total_darts}

-- the first k posts, the latest first
unfoldable pub back : List ℕ → ℕ → List ℕ
back vs zero = []
back vs (suc k) = get_or vs k 0 ∷ back vs k

module _ (vs : List ℕ) where
  in_back : (k a : ℕ) → In a (back vs k) → (i : ℕ) × (i < k) × (get_or vs i 0 ≡ a)
  unfolding back
  in_back zero a h = absurd h
  in_back (suc k) a (inl e) = (k, omega arith, sym e)
  in_back (suc k) a (inr h) = let t = in_back k a h in (t.0, omega (arith, t.1), t.2)

  back_in : (k i : ℕ) → i < k → In (get_or vs i 0) (back vs k)
  unfolding back
  back_in zero i h = absurd (omega arith)
  back_in (suc k) i h = go (ℕ_discrete i k) (back_in k i)
    where
      go : Dec (i ≡ k) → (i < k → In (get_or vs i 0) (back vs k)) → In (get_or vs i 0) (get_or vs k 0 ∷ back vs k)
      go (yes e) r = inl (rw e)
      go (no n) r = inr (r (omega arith))

  to_back : (k a : ℕ) → In a (take k vs) → In a (back vs k)
  to_back k a h = let t = in_take k vs a h in rw (← t.3) (back_in k t.0 t.1)

  from_back : (k a : ℕ) → k ≤ length vs → In a (back vs k) → In a (take k vs)
  from_back k a l h = let t = in_back k a h in rw (← t.2) (take_in k vs t.0 t.1 (omega (arith, t.1)))

  back_length : (k : ℕ) → length (back vs k) ≡ k
  unfolding back
  back_length zero = refl
  back_length (suc k) = ap suc (back_length k)

  back_once : Once vs → (k : ℕ) → k ≤ length vs → Once (back vs k)
  unfolding back
  back_once o zero h = tt
  back_once o (suc k) h = (new, back_once o k (omega arith))
    where
      new : ¬ (In (get_or vs k 0) (back vs k))
      new i =
          let t = in_back k (get_or vs k 0) i in
          let e = once_different vs o t.0 k (omega (arith, t.1)) (omega arith) t.2 in
          omega (arith, t.1)

-- the post after the first k has a neighbour among them; and one that waits
abbrev Near : List (List ℕ) → List ℕ → ℕ → Type 0
Near G vs k = (a : ℕ) × In a (ring G (get_or vs k 0)) × In a (take k vs)

abbrev pub Waiting : List (List ℕ) → List ℕ → ℕ → Type 0
Waiting G vs k = (a : ℕ) × In a (ring G (get_or vs k 0)) × ¬ (In a (take k vs))

module _ (G : List (List ℕ)) (vs : List ℕ) (P : Plane G (post vs 1) (post vs 2) (post vs (length G))) (N : Names (length G) vs)
    (near : (k : ℕ) → 2 ≤ k → k < length G → Near G vs k) (far : (k : ℕ) → 2 ≤ k → suc k < length G → Waiting G vs k) where
  A : Faces G
  A = faces_plane G (post vs 1) (post vs 2) (post vs (length G)) P

  abbrev S : ℕ → List ℕ
  S k = back vs k

  abbrev v1 : ℕ
  v1 = get_or vs 0 0

  abbrev v2 : ℕ
  v2 = get_or vs 1 0

  abbrev vn : ℕ
  vn = post vs (length G)

  -- wires and corners that the post after the first k adds to them
  abbrev e : ℕ → ℕ
  e k = sum (w G A (get_or vs k 0)) (S k)

  abbrev c : ℕ → ℕ
  c k = corners_at (w G A) (t G A) (get_or vs k 0) (S k)

  D_next : (k : ℕ) → darts_in G A (S (suc k)) ≡ darts_in G A (S k) + 2 * e k
  unfolding back
  D_next k = D_more G A (get_or vs k 0) (S k)

  C_next : (k : ℕ) → corners_in G A (S (suc k)) ≡ corners_in G A (S k) + 3 * c k
  unfolding back
  C_next k = C_more G A (get_or vs k 0) (S k)

  single : (k : ℕ) → k ≤ length G → Once (S k)
  single k h = back_once vs N.once k (omega (arith, N.all))

  new : (k a : ℕ) → k ≤ length G → ¬ (In a (take k vs)) → ¬ (In a (S k))
  new k a h m i = m (from_back vs k a (omega (arith, N.all)) i)

  outer : After G v2 v1 vn
  outer = follows_after G v2 v1 vn P.outer

  -- v1 and v2: two darts and no corner
  first_wire : e 1 ≡ 1
  unfolding sum back
  first_wire = omega (arith, flag_yes (in_dec v1 (ring G v2)) (around_in (ring G v2) v1 vn outer).0)

  first_corner : c 1 ≡ 0
  unfolding corners_at sum back
  first_corner = omega (arith, flag_no (adj_dec (around (ring G v2)) v1 v1) (λ f. (rings G A).self v1 v2 (A.triangle v2 v1 v1 f)))

  none : (darts_in G A (S 1) ≡ 0) × (corners_in G A (S 1) ≡ 0)
  unfolding darts corners corners_at sum back
  none = (D_more G A v1 [], C_more G A v1 [])

  -- below n each adds a wire more than corners
  gap : (k : ℕ) → 2 ≤ k → suc k < length G → c k < e k
  gap k h l =
      let s = near k h (omega arith) in
      let x = far k h l in
      let v = ring_leave (take k vs) (ring G (get_or vs k 0)) s.0 x.0 s.1 s.2 x.1 x.2 in
      leaves_once G A (get_or vs k 0) (S k) (single k (omega arith)) v.0 v.1
      (to_back vs k v.0 v.3) v.2 (new k v.1 (omega arith) v.4)

  up : (k : ℕ) → suc (suc k) < length G → 6 * suc (suc k) + 2 * corners_in G A (S (suc (suc k))) ≤ 6 + 3 * darts_in G A (S (suc (suc k)))
  up zero l = omega (arith, D_next 1, C_next 1, none.0, none.1, first_wire, first_corner)
  up (suc k) l = omega (arith, up k (omega arith), D_next (suc (suc k)), C_next (suc (suc k)), gap (suc (suc k)) (omega arith) (omega arith))

  all_posts : Chosen (length G) (S (length G))
  all_posts = record {
    once = single (length G) (omega arith);
    small = λ a h.
        let i = in_back vs (length G) a h in
        rw (← i.2) (N.below (get_or vs i.0 0) (place_in vs i.0 (omega (arith, i.1, N.all))));
  }

  down : (d k : ℕ) → k + d + 1 ≡ length G → 2 ≤ k → 6 + 3 * darts_in G A (S k) ≤ 6 * k + 2 * corners_in G A (S k)
  down zero k h l =
      let n : length G ≡ suc k = omega arith in
      let full : length G ≤ length (S (length G)) = omega (arith, back_length vs (length G)) in
      let d = rw n at (total_darts G A (S (length G)) all_posts full) in
      let cs = rw n at (total_corners G A (S (length G)) all_posts full) in
      omega (arith, d, cs, P.entries, D_next k, C_next k, least G A (get_or vs k 0) (S k) (single k (omega arith)))
  down (suc d) k h l = omega (arith, down d (suc k) (omega arith) (omega arith), D_next k, C_next k, gap k l (omega arith))

  most : (k : ℕ) → 2 ≤ k → suc k < length G → e k ≤ suc (c k)
  most k h l =
      let q : suc (suc (k - 2)) ≡ k = omega arith in
      let u = rw q at (up (k - 2) (omega arith)) in
      omega (arith, u, down (length G - k - 2) (suc k) (omega arith) (omega arith), D_next k, C_next k)

  -- one run at each position
  runs : (k : ℕ) → 2 ≤ k → k < length G → one_run G (take k vs) (get_or vs k 0) ≡ true
  runs k h l =
      let a = near k h l in
      leave_run (take k vs) G v (ring_once G A v v_below) (filled (ring G v) a.0 a.1) (go (dec_lt (suc k) (length G)))
    where
      v : ℕ
      v = get_or vs k 0

      v_below : v < length G
      v_below = N.below v (place_in vs k (omega (arith, N.all)))

      -- the last post's neighbours are all placed
      last : ¬ (suc k < length G) → (a b : ℕ) → After G v a b → In b (take k vs)
      last m a b f =
          let j = (around_in (ring G v) a b f).1 in
          let i = in_place vs b (all_there (length G) vs N.once N.below (omega (arith, N.all)) b (entry_below G A v b j)) in
          let ne : i.0 ≢ k = λ q. entry_other G A v b j (sym i.2 ∙ ap (λ (r : ℕ). get_or vs r 0) q) in
          rw (← i.2) (take_in k vs i.0 (omega (arith, i.1, N.all, ne, m)) i.1)

      go : Dec (suc k < length G) → OneWay (take k vs) (around (ring G v))
      go (yes s) a b a' b' f i m f' i' m' =
          leaves_most G A v (S k) (single k (omega arith)) (most k h s) a b a' b'
          (to_back vs k a i) f (new k b (omega arith) m) (to_back vs k a' i') f' (new k b' (omega arith) m')
      go (no s) a b a' b' f i m f' i' m' = absurd (m (last s a b f))

-- ---- the law, over positions
module _ (G : List (List ℕ)) (vs : List ℕ) (P : Plane G (post vs 1) (post vs 2) (post vs (length G))) (O : Bridging G vs) where
  n : length vs ≡ length G
  n = O.all

  N : Names (length G) vs
  N = record { all = O.all; below = O.below; once = different_once vs O.once }

  near : (k : ℕ) → 2 ≤ k → k < length G → Near G vs k
  near k h l =
      let t = O.earlier (suc k) (omega arith) (omega (arith, n)) in
      let s : suc k - 1 ≡ k = omega arith in
      (t.0, rw s at t.1, rw s at (earlier_in vs (suc k) t.0 (omega (arith, n)) t.2))

  far : (k : ℕ) → 2 ≤ k → suc k < length G → Waiting G vs k
  far k h l =
      let t = O.later (suc k) (omega arith) (omega (arith, n)) in
      let m = later_new vs N.once (suc k) (omega arith) (omega (arith, n)) t.0 (later_in vs (suc k) t.0 t.2) in
      let s : suc k - 1 ≡ k = omega arith in
      (t.0, rw s at t.1, rw s at m)

  pub one_run_is_forced : (k : ℕ) → 3 ≤ k → k ≤ length vs → OneRun G vs k (post vs k)
  one_run_is_forced k h l =
      run_says G vs k (post vs k) (omega arith) (runs G vs P N near far (k - 1) (omega arith) (omega (arith, n)))

  -- with two earlier neighbours each, the order is canonical
  pub two_and_a_later_one : TwoEach G vs → Canonical G vs
  two_and_a_later_one two = record {
    all = O.all;
    below = O.below;
    once = O.once;
    two = two;
    run = one_run_is_forced;
    later = O.later;
  }
