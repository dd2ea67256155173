-- The contour grows by a post at a time, as long as the order's tests pass; and so a post below n has a later neighbour.
use mathlib.Core.Path.{◌≡◌, refl, subst}
use mathlib.Core.Bool.{true}
use mathlib.Core.List.{List, [], ◌∷◌, ◌++◌}
use Prim.Native.Nat.{ℕ, zero, suc, ◌-◌, ◌≤◌, ◌<◌}
use native.Mathlib.Omega.{arith}
use lib.Dec.{leb→le}
use lib.ListN.{length, take}
use lib.Seq.{get_or-take}
use Rattle.words.specs.Lists.{In, mem, any_of, count, Adj}
use Rattle.words.specs.Positions.{post, earlier, later}
use Rattle.words.proofs.Lists.{Once, in_left, all_there}
use Rattle.words.proofs.Tests.{holds, is_true, not_not, count_found, none_says, in_mem, once_different}
use Rattle.words.proofs.Positions.{in_later, earlier_next, post_new, earlier_or}
use Rattle.rings.specs.Rings.{ring}
use Rattle.rings.proofs.Around.{After, around_next}
use Rattle.rings.proofs.Says.{Faces, entry_below, entry_other}
use Rattle.order.specs.Order.{two_placed, lead, rest, one_run, one_later, run_begin, run}
use Rattle.order.proofs.Contour.{Run, Contour, contour_start, run_stretch, contour_kept, run_all}
use Rattle.order.proofs.Tests.{lead_rest, from_out}
use Rattle.order.proofs.NewRun.{rings, RunIs, the_run_is, whole_is_last}

-- The step to v: its run p ∷ (M ++ q ∷ []) is a stretch of the contour K, and v takes the place of M.
pub record Grown (G : List (List ℕ)) (v1 v2 : ℕ) (placed K : List ℕ) (v : ℕ) : Type 0 where
  pub X : List ℕ
  pub M : List ℕ
  pub Y : List ℕ
  pub p : ℕ
  pub q : ℕ
  pub begin_in : run_begin G placed v < length (ring G v)
  pub run_is : run G placed v ≡ p ∷ (M ++ q ∷ [])
  pub the_run_lem : Run (After G) placed v p M q
  pub no_turn : ¬ (Adj (p ∷ (M ++ q ∷ [])) v2 v1)
  pub before : K ≡ X ++ p ∷ (M ++ q ∷ Y)
  pub now : Contour (After G) v1 v2 (placed ++ v ∷ []) (X ++ p ∷ v ∷ q ∷ Y)

-- a run's posts are neighbours
pub run_near : (G : List (List ℕ)) (placed : List ℕ) (v a : ℕ) → In a (run G placed v) → In a (ring G v)
unfolding run
run_near G placed v a h = from_out _ (ring G v) a (subst (In a) (lead_rest placed _) (in_left a (lead placed _) (rest placed _) h))

-- a neighbour, where two are placed
near : (G : List (List ℕ)) (placed : List ℕ) (v : ℕ) → two_placed G placed v ≡ true → (x : ℕ) × In x (ring G v)
unfolding two_placed
near G placed v two =
    let c : 2 ≤ count (mem placed) (ring G v) = leb→le 2 _ (holds _ two) in
    let t = count_found (mem placed) (ring G v) (omega arith) in
    (t.0, t.1)

module _ (G : List (List ℕ)) (F : Faces G) (v1 v2 vn : ℕ) (outer : After G v2 v1 vn) where
  pub grow : (placed K : List ℕ) (v : ℕ) → post placed 1 ≡ v1 → Contour (After G) v1 v2 placed K → ¬ (In v placed)
      → two_placed G placed v ≡ true → one_run G placed v ≡ true → (v ≡ vn → (a : ℕ) → In a (ring G v) → In a placed) → Grown G v1 v2 placed K v
  grow placed K v head C new two one full =
      go (the_run_is G F v1 v2 vn outer placed v head new two one
      (let x = near G placed v two in whole_is_last G F v1 v2 vn outer placed K v C new x.0 x.1) full)
    where
      go : RunIs G v1 v2 placed v → Grown G v1 v2 placed K v
      go r =
          let s = run_stretch (After G) v1 v2 vn (rings G F) outer placed v r.p r.q r.M new r.the_run_lem K C r.no_turn in
          record {
            X = s.0;
            M = r.M;
            Y = s.1;
            p = r.p;
            q = r.q;
            begin_in = r.begin_in;
            run_is = r.run_is;
            the_run_lem = r.the_run_lem;
            no_turn = r.no_turn;
            before = s.2;
            now =
                contour_kept (After G) v1 v2 vn (rings G F) outer placed v r.p r.q r.M new r.the_run_lem s.0 s.1
                (subst (Contour (After G) v1 v2 placed) s.2 C);
          }

  -- every placed neighbour of v is in its run
  pub run_whole : (placed K : List ℕ) (v : ℕ) (g : Grown G v1 v2 placed K v) → ¬ (In v placed) → (a : ℕ) → In a (ring G v) → In a placed
      → In a (g.p ∷ (g.M ++ g.q ∷ []))
  run_whole placed K v g new a h i =
      let b = around_next (ring G v) a h in
      run_all (After G) v1 v2 vn (rings G F) outer placed v g.p g.q g.M new g.the_run_lem a b.0 b.1 i

-- the order names each of n posts once
pub record Names (n : ℕ) (vs : List ℕ) : Type 0 where
  pub all : length vs ≡ n
  pub below : (a : ℕ) → In a vs → a < n
  pub once : Once vs

pub take_two : (vs : List ℕ) → 2 ≤ length vs → take 2 vs ≡ post vs 1 ∷ post vs 2 ∷ []
take_two [] h = absurd (omega arith)
take_two (a ∷ []) h = absurd (omega arith)
take_two (a ∷ b ∷ l) h = refl

module _ (G : List (List ℕ)) (vs : List ℕ) (F : Faces G) (outer : After G (post vs 2) (post vs 1) (post vs (length G))) (N : Names (length G) vs) where
  -- a neighbour of the post in position k is in an earlier or a later one
  near_cases : {C : Type 0} (k : ℕ) → 1 ≤ k → k ≤ length G → (a : ℕ) → In a (ring G (post vs k)) → (In a (earlier vs k) → C) → (In a (later vs k) → C) → C
  near_cases k h i a j f g =
      let n : length vs ≡ length G = N.all in
      earlier_or vs N.once k h (omega arith) a
      (all_there (length G) vs N.once N.below (omega arith) a (entry_below G F (post vs k) a j))
      f (λ e. absurd (entry_other G F (post vs k) a j e)) g

  -- only the last position has vn
  is_last : (k : ℕ) → 1 ≤ k → k ≤ length G → post vs k ≡ post vs (length G) → k ≡ length G
  is_last k h i e =
      let n : length vs ≡ length G = N.all in
      let s = once_different vs N.once (k - 1) (length G - 1) (omega arith) (omega arith) e in
      omega arith

  pub last_full : (k : ℕ) → 1 ≤ k → k ≤ length G → post vs k ≡ post vs (length G) → (a : ℕ) → In a (ring G (post vs k)) → In a (earlier vs k)
  last_full k h i e a j =
      let n : length vs ≡ length G = N.all in
      let l = is_last k h i e in
      near_cases k h i a j (λ b. b) (λ b. let t = in_later vs k a b in absurd (omega (arith, t.1, t.2)))

  -- the step to the post in position k
  pub grow_at : (k : ℕ) → 3 ≤ k → k ≤ length G → (K : List ℕ) → Contour (After G) (post vs 1) (post vs 2) (earlier vs k) K
      → two_placed G (earlier vs k) (post vs k) ≡ true → one_run G (earlier vs k) (post vs k) ≡ true
      → Grown G (post vs 1) (post vs 2) (earlier vs k) K (post vs k)
  grow_at k h i K C two one =
      let n : length vs ≡ length G = N.all in
      grow G F (post vs 1) (post vs 2) (post vs (length G)) outer (earlier vs k) K (post vs k) (get_or-take (k - 1) vs 0 0 (omega arith)) C
      (post_new vs N.once k (omega arith) (omega arith)) two one (last_full k (omega arith) i)

  pub start_at : 2 ≤ length G → Contour (After G) (post vs 1) (post vs 2) (take 2 vs) (post vs 1 ∷ post vs 2 ∷ [])
  start_at h =
      let n : length vs ≡ length G = N.all in
      rw (take_two vs (omega arith)) (contour_start (After G) (post vs 1) (post vs 2) (post vs (length G)) (rings G F) outer)

  -- as long as the tests pass there is a contour
  pub contour_at : (k : ℕ) → 2 ≤ k → k ≤ length G
      → ((j : ℕ) → 3 ≤ j → j ≤ k → (two_placed G (earlier vs j) (post vs j) ≡ true) × (one_run G (earlier vs j) (post vs j) ≡ true))
      → (K : List ℕ) × Contour (After G) (post vs 1) (post vs 2) (take k vs) K
  contour_at zero h i t = absurd (omega arith)
  contour_at (suc zero) h i t = absurd (omega arith)
  contour_at (suc (suc zero)) h i t = (post vs 1 ∷ post vs 2 ∷ [], start_at i)
  contour_at (suc (suc (suc k))) h i t =
      go (suc (suc k)) (omega arith) i (t (suc (suc (suc k))) (omega arith) (omega arith))
      (contour_at (suc (suc k)) (omega arith) (omega arith) (λ j a b. t j a (omega arith)))
    where
      go : (k : ℕ) → 2 ≤ k → k < length G
          → (two_placed G (earlier vs (suc k)) (post vs (suc k)) ≡ true) × (one_run G (earlier vs (suc k)) (post vs (suc k)) ≡ true)
          → (K : List ℕ) × Contour (After G) (post vs 1) (post vs 2) (take k vs) K
          → (K : List ℕ) × Contour (After G) (post vs 1) (post vs 2) (take (suc k) vs) K
      go k h i t c =
          let n : length vs ≡ length G = N.all in
          let e : k ≡ suc k - 1 = omega arith in
          let K = subst (λ (j : ℕ). Contour (After G) (post vs 1) (post vs 2) (take j vs) c.0) e c.1 in
          let g = grow_at (suc k) (omega arith) i c.0 K t.0 t.1 in
          (g.X ++ g.p ∷ post vs (suc k) ∷ g.q ∷ g.Y, rw (earlier_next vs (suc k) (omega arith) (omega arith)) g.now)

  -- A later neighbour follows: below n, a post with two earlier neighbours has a later one, where the earlier positions passed.
  pub later_follows : (k : ℕ) → 3 ≤ k → k < length G
      → ((j : ℕ) → 3 ≤ j → j < k → (two_placed G (earlier vs j) (post vs j) ≡ true) × (one_run G (earlier vs j) (post vs j) ≡ true))
      → two_placed G (earlier vs k) (post vs k) ≡ true → one_later G (later vs k) (post vs k) ≡ true
  unfolding one_later
  later_follows k h i t two = is_true _ (not_not (any_of (mem (later vs k)) (ring G (post vs k))) (λ none.
      let n : length vs ≡ length G = N.all in
      let no-later : (a : ℕ) → In a (ring G (post vs k)) → In a (later vs k) → ⊥ =
      λ a j b. none_says (mem (later vs k)) (ring G (post vs k)) none a j (in_mem (later vs k) a b) in
      let x = near G (earlier vs k) (post vs k) two in
      let c = contour_at (k - 1) (omega arith) (omega arith) (λ j a b. t j a (omega arith)) in
      let e = is_last k (omega arith) (omega arith)
      (whole_is_last G F (post vs 1) (post vs 2) (post vs (length G)) outer (earlier vs k) c.0 (post vs k) c.1
      (post_new vs N.once k (omega arith) (omega arith)) x.0 x.1
      (λ a j. near_cases k (omega arith) (omega arith) a j (λ b. b) (λ b. absurd (no-later a j b)))) in
      omega arith))
