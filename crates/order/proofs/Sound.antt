-- The deciding theorem: lists and an order pass the tests of steps 7 to 13 exactly if they are a triangulated plane graph with a canonical
-- order. Nothing tests that the graph is connected, nor that each post below n has a later neighbour: both follow from the order.
use mathlib.Core.Path.{◌≡◌, refl, sym}
use mathlib.Core.Logic.{inl, inr, ◌≢◌}
use mathlib.Core.Bool.{Bool, true, false, ◌||◌}
use mathlib.Core.List.{List, [], ◌∷◌, map}
use Prim.Native.Nat.{ℕ, zero, suc, ◌*◌, ◌-◌, ◌≤◌, ◌<◌}
use native.Mathlib.Omega.{arith}
use native.Mathlib.Decide.{dec_lt}
use lib.Dec.{ltb, leb}
use lib.ListN.{length, get_or, take, get_or-map}
use lib.Seq.{take-suc, take-length}
use borrow.Author.Tests.{leb-false, lt-leb, le-ltb}
use Rattle.words.specs.Numbers.{sum_of}
use Rattle.words.specs.Lists.{In, Different, mem}
use Rattle.words.specs.Positions.{post, earlier}
use Rattle.words.proofs.Lists.{in_cases, all_there, once_length, filled}
use Rattle.words.proofs.Tests.{fails, neither, in_mem, mem_false, place_in, in_place, different_once, once_different}
use Rattle.words.proofs.Positions.{take_in, earlier_in, post_new}
use Rattle.block.specs.Block.{bad_entry, bad_degree}
use Rattle.rings.specs.Rings.{ring, around, ring_rule, triangle_rule, outer_rule}
use Rattle.rings.specs.Plane.{Reached, Plane}
use Rattle.rings.specs.Plane.Reached.{here, along}
use Rattle.rings.proofs.Around.{After, follows_after, around_in}
use Rattle.rings.proofs.Says.{Faces, says_ring, triangle_says, says_triangle, outer_says, says_outer, faces_tested, faces_plane, entry_below}
use Rattle.rings.proofs.Says.{entry_other, entry_returned, ring_once}
use Rattle.order.specs.Order.{two_placed, one_run}
use Rattle.order.specs.Canonical.{Two, Canonical}
use Rattle.order.proofs.Tests.{two_says, says_two, run_says, says_run, later_says}
use Rattle.order.proofs.Growth.{Names, later_follows}

-- the tests of steps 7 to 11, each passed
pub record Boarded (G : List (List ℕ)) (vs : List ℕ) : Type 0 where
  pub all : length vs ≡ length G
  pub entries : (k : ℕ) → 1 ≤ k → k ≤ length G → bad_entry (length G) vs k ≡ false
  pub degrees : (u : ℕ) → u < length G → bad_degree (length G) (map length G) u ≡ false
  pub total : sum_of (map length G) ≡ 6 * length G - 12
  pub rings : (u : ℕ) → u < length G → ring_rule G u ≡ true
  pub triangles : (u : ℕ) → u < length G → triangle_rule G u ≡ true
  pub outer : outer_rule G (post vs 1) (post vs 2) (post vs (length G)) ≡ true

-- and those of 12 and 13
pub record Passes (G : List (List ℕ)) (vs : List ℕ) : Type 0 where
  pub board : Boarded G vs
  pub two : (k : ℕ) → 3 ≤ k → k ≤ length G → two_placed G (earlier vs k) (post vs k) ≡ true
  pub run : (k : ℕ) → 3 ≤ k → k ≤ length G → one_run G (earlier vs k) (post vs k) ≡ true

-- ---- step 7: the order's entries are below n, and differ
false_or : (x y : Bool) → x ≡ false → y ≡ false → x || y ≡ false
false_or x y e f = rw (e, f)

module _ (n : ℕ) (vs : List ℕ) where
  pub position_says : (k : ℕ) → bad_entry n vs k ≡ false → (post vs k < n) × ¬ (In (post vs k) (earlier vs k))
  unfolding bad_entry
  position_says k e =
      let t = neither (leb n (post vs k)) (mem (earlier vs k) (post vs k)) e in
      (leb-false n (post vs k) t.0, λ h. fails (mem (earlier vs k) (post vs k)) t.1 (in_mem (earlier vs k) (post vs k) h))

  pub says_position : (k : ℕ) → post vs k < n → ¬ (In (post vs k) (earlier vs k)) → bad_entry n vs k ≡ false
  unfolding bad_entry
  says_position k h i =
      false_or (leb n (post vs k)) (mem (earlier vs k) (post vs k)) (lt-leb n (post vs k) h)
      (mem_false (earlier vs k) (post vs k) i)

  module _ (good : (k : ℕ) → 1 ≤ k → k ≤ length vs → bad_entry n vs k ≡ false) where
    at : (i : ℕ) → i < length vs → (get_or vs i 0 < n) × ¬ (In (get_or vs i 0) (take i vs))
    at i h =
        let t = position_says (suc i) (good (suc i) (omega arith) (omega arith)) in
        let e : suc i - 1 ≡ i = omega arith in
        rw e at t

    pub order_below : (a : ℕ) → In a vs → a < n
    order_below a h = let t = in_place vs a h in rw (← t.2) (at t.0 t.1).0

    order_ascends : (i j : ℕ) → i < j → j < length vs → get_or vs i 0 ≢ get_or vs j 0
    order_ascends i j l h e = (at j h).1 (rw (← e) (take_in j vs i l (omega arith)))

    pub order_once : Different vs
    order_once i j a b e = go (dec_lt i j) (dec_lt j i)
      where
        go : Dec (i < j) → Dec (j < i) → i ≡ j
        go (yes l) d = absurd (order_ascends i j l b e)
        go (no l) (yes m) = absurd (order_ascends j i m a (sym e))
        go (no l) (no m) = omega arith

-- ---- step 8: degrees
module _ (G : List (List ℕ)) (u : ℕ) where
  degree_is : get_or (map length G) u 0 ≡ length (ring G u)
  degree_is = get_or-map length G u []

  pub says_degree : 2 ≤ length (ring G u) → length (ring G u) ≤ length G - 1 → bad_degree (length G) (map length G) u ≡ false
  unfolding bad_degree
  says_degree a b =
      let e = degree_is in
      false_or (ltb (get_or (map length G) u 0) 2) (ltb (length G - 1) (get_or (map length G) u 0)) (le-ltb (get_or (map length G) u 0) 2 (omega arith))
      (le-ltb (length G - 1) (get_or (map length G) u 0) (omega arith))

  -- a ring of different names below n, other than u, has at most n-1 entries
  pub degree_most : Faces G → u < length G → length (ring G u) ≤ length G - 1
  degree_most F h =
      let t =
      once_length (length G) (u ∷ ring G u) ((λ i. entry_other G F u u i refl), ring_once G F u h)
      (λ a. elim [ inl e ↦ rw e h | inr i ↦ entry_below G F u a i ]) in
      omega arith

  -- and one that has an entry has two: a ring of one entry a would put a into its own ring
  pub degree_least : Faces G → (x : ℕ) → In x (ring G u) → 2 ≤ length (ring G u)
  unfolding around
  degree_least F x h = go (ring G u) refl h
    where
      go : (l : List ℕ) → ring G u ≡ l → In x l → 2 ≤ length l
      go [] e h = absurd h
      go (a ∷ []) e h =
          let f : After G u a a = rw e (inl (refl, refl)) in
          absurd (entry_other G F a a (around_in (ring G a) a u (F.triangle u a a f)).0 refl)
      go (a ∷ b ∷ l) e h = omega arith

-- ---- every post is reached from v1
module _ (G : List (List ℕ)) (vs : List ℕ) (F : Faces G) (bottom : In (post vs 2) (ring G (post vs 1)))
    (two : (k : ℕ) → 3 ≤ k → k ≤ length vs → Two G vs k (post vs k)) where
  reached_by : (k : ℕ) → k < length vs → ((a : ℕ) → In a (take k vs) → Reached G (post vs 1) a) → Two G vs (suc k) (post vs (suc k))
      → Reached G (post vs 1) (get_or vs k 0)
  reached_by k h r W =
      let e : suc k - 1 ≡ k = omega arith in
      let i : In W.a (take k vs) = rw e at (earlier_in vs (suc k) W.a (omega arith) W.earlier_a) in
      along (r W.a i) (entry_returned G F (get_or vs k 0) W.a (rw e at W.near_a))

  reached_next : (k : ℕ) → k < length vs → ((a : ℕ) → In a (take k vs) → Reached G (post vs 1) a) → Reached G (post vs 1) (get_or vs k 0)
  reached_next zero h r = here
  reached_next (suc zero) h r = along here bottom
  reached_next (suc (suc k)) h r = reached_by (suc (suc k)) h r (two (suc (suc (suc k))) (omega arith) (omega arith))

  pub reached_to : (k : ℕ) → k ≤ length vs → (a : ℕ) → In a (take k vs) → Reached G (post vs 1) a
  reached_to zero h a i = absurd i
  reached_to (suc k) h a i =
      in_cases a (take k vs) (get_or vs k 0 ∷ []) (reached_to k (omega arith) a)
      (elim [ inl e ↦ rw e (reached_next k (omega arith) (reached_to k (omega arith))) | inr j ↦ absurd j ])
      (rw (take-suc vs k 0 (omega arith)) at i)

-- ---- the theorem
module _ (G : List (List ℕ)) (vs : List ℕ) where
  -- what the tests of steps 7, 9, 10 and 11 say
  pub tested_names : length vs ≡ length G → ((k : ℕ) → 1 ≤ k → k ≤ length G → bad_entry (length G) vs k ≡ false) → Names (length G) vs
  tested_names n good =
      let now : (k : ℕ) → 1 ≤ k → k ≤ length vs → bad_entry (length G) vs k ≡ false = λ k a b. good k a (omega arith) in
      record { all = n; below = order_below (length G) vs now; once = different_once vs (order_once (length G) vs now) }

  pub boarded_names : Boarded G vs → Names (length G) vs
  boarded_names B = tested_names B.all B.entries

  pub boarded_faces : Boarded G vs → Faces G
  boarded_faces B = faces_tested G B.rings B.triangles

  pub boarded_outer : Boarded G vs → After G (post vs 2) (post vs 1) (post vs (length G))
  boarded_outer B = follows_after G (post vs 2) (post vs 1) (post vs (length G)) (outer_says G (post vs 1) (post vs 2) (post vs (length G)) B.outer).1

  -- a connected board is a triangulated plane graph
  pub boarded_plane : Boarded G vs → ((u : ℕ) → u < length G → Reached G (post vs 1) u) → Plane G (post vs 1) (post vs 2) (post vs (length G))
  boarded_plane B connected =
      let F = boarded_faces B in
      let o = outer_says G (post vs 1) (post vs 2) (post vs (length G)) B.outer in
      record {
        below = λ u v h. (F.kept u h).below v;
        other = λ u v h. (F.kept u h).other v;
        once = λ u h. (F.kept u h).once;
        returned = λ u v h. (F.kept u h).returned v;
        triangle = λ u v w h. triangle_says G u (B.triangles u h) v w;
        connected = connected;
        entries = B.total;
        bottom = o.0;
        outer = o.1;
      }

  pub passes_canonical : Passes G vs → Canonical G vs
  passes_canonical P =
      let B = P.board in
      let F = boarded_faces B in
      let N = boarded_names B in
      let n : length vs ≡ length G = B.all in
      record {
        all = n;
        below = N.below;
        once = once_different vs N.once;
        two = λ k a b.
            let below = N.below (post vs k) (place_in vs (k - 1) (omega arith)) in
            two_says G vs k (post vs k) (ring_once G F (post vs k) below) (P.two k a (omega arith));
        run = λ k a b. run_says G vs k (post vs k) (omega arith) (P.run k a (omega arith));
        later = λ k a b.
            later_says G vs k (post vs k)
            (later_follows G vs F (boarded_outer B) N k a (omega arith) (λ j c d. (P.two j c (omega arith), P.run j c (omega arith)))
            (P.two k a (omega arith)));
      }

  -- every post can be reached: each is wired to an earlier one
  pub passes_connected : Passes G vs → (u : ℕ) → u < length G → Reached G (post vs 1) u
  passes_connected P u h =
      let B = P.board in
      let N = boarded_names B in
      let n : length vs ≡ length G = B.all in
      let o = outer_says G (post vs 1) (post vs 2) (post vs (length G)) B.outer in
      let i = all_there (length G) vs N.once N.below (omega arith) u h in
      reached_to G vs (boarded_faces B) o.0 (passes_canonical P).two (length vs) (omega arith) u (rw take-length i)

  pub passes_sound : Passes G vs → Plane G (post vs 1) (post vs 2) (post vs (length G)) × Canonical G vs
  passes_sound P = (boarded_plane P.board (passes_connected P), passes_canonical P)

  pub sound_passes : Plane G (post vs 1) (post vs 2) (post vs (length G)) × Canonical G vs → Passes G vs
  sound_passes t =
      let P = t.0 in
      let C = t.1 in
      let F = faces_plane G (post vs 1) (post vs 2) (post vs (length G)) P in
      let n : length vs ≡ length G = C.all in
      record {
        board =
            record {
              all = n;
              entries = λ k a b.
                  says_position (length G) vs k (C.below (post vs k) (place_in vs (k - 1) (omega arith)))
                  (post_new vs (different_once vs C.once) k a (omega arith));
              degrees = λ u h. let x = some_near (post vs 1) u P h in says_degree G u (degree_least G u F x.0 x.1) (degree_most G u F h);
              total = P.entries;
              rings = λ u h. says_ring G u (F.kept u h);
              triangles = λ u h. says_triangle G u (λ v w. P.triangle u v w h);
              outer = says_outer G (post vs 1) (post vs 2) (post vs (length G)) P.bottom P.outer;
            };
        two = λ k a b. says_two G vs k (post vs k) (omega arith) (C.two k a (omega arith));
        run = λ k a b.
            let W = C.two k a (omega arith) in
            says_run G vs k (post vs k) (omega arith) (filled (ring G (post vs k)) W.a W.near_a) (C.run k a (omega arith));
      }
    where
      -- a reached post has a neighbour
      some_near : (v1 u : ℕ) → Plane G v1 (post vs 2) (post vs (length G)) → u < length G → (x : ℕ) × In x (ring G u)
      some_near v1 u P h = go (P.connected u h)
        where
          go : {u : ℕ} → Reached G v1 u → (x : ℕ) × In x (ring G u)
          go here = (post vs 2, P.bottom)
          go (along {u} {w} r i) = (u, entry_returned G (faces_plane G v1 (post vs 2) (post vs (length G)) P) u w i)
