-- A list that fits so far grows the contour by a post at a time; and an order that passes the tests fits.
use mathlib.Core.Path.{◌≡◌, sym, ◌∙◌, subst}
use mathlib.Core.Logic.{inl, inr}
use mathlib.Core.Bool.{true}
use mathlib.Core.List.{List, [], ◌∷◌, ◌++◌}
use Prim.Native.Nat.{ℕ, ◌+◌, ◌-◌, ◌≤◌, ◌<◌}
use native.Mathlib.Omega.{arith}
use native.Mathlib.Decide.{dec_lt}
use lib.ListN.{length, get_or, take, length-append, get_or-append}
use lib.Seq.{get_or-take, get_or_at, length-take-le, take-take, take-append-le, take_at}
use Rattle.words.specs.Lists.{In}
use Rattle.words.specs.Positions.{post, earlier}
use Rattle.words.proofs.Lists.{Once, in_cases, once_length, once_join, all_there}
use Rattle.words.proofs.Tests.{place_in, different_once, once_different}
use Rattle.words.proofs.Positions.{in_take, in_later, post_new, earlier_or}
use Rattle.rings.specs.Rings.{ring}
use Rattle.rings.specs.Plane.{Plane}
use Rattle.rings.proofs.Around.{After, follows_after}
use Rattle.rings.proofs.Says.{Faces, faces_plane, entry_below, entry_other}
use Rattle.order.specs.Order.{two_placed, one_run}
use Rattle.order.specs.Fitting.{FitsSoFar}
use Rattle.order.proofs.Contour.{Contour, contour_start}
use Rattle.order.proofs.NewRun.{rings}
use Rattle.order.proofs.Growth.{Grown, grow, take_two}
use Rattle.order.proofs.Sound.{Passes, boarded_names, passes_sound}

module _ (G : List (List ℕ)) (vn : ℕ) (vs : List ℕ) (P : Plane G (post vs 1) (post vs 2) vn) (A : FitsSoFar G vn vs) where
  pub fits_faces : Faces G
  fits_faces = faces_plane G (post vs 1) (post vs 2) vn P

  pub fits_outer : After G (post vs 2) (post vs 1) vn
  fits_outer = follows_after G (post vs 2) (post vs 1) vn P.outer

  pub fits_once : Once vs
  fits_once = different_once vs A.once

  -- at most n posts
  pub fits_few : length vs ≤ length G
  fits_few = once_length (length G) vs fits_once A.below

  -- where vn stands, all its neighbours are placed
  full : (k : ℕ) → 1 ≤ k → k ≤ length vs → post vs k ≡ vn → (a : ℕ) → In a (ring G (post vs k)) → In a (earlier vs k)
  full k h i e a j =
      let l = A.last k h i e in
      let f = fits_few in
      earlier_or vs fits_once k h i a (all_there (length G) vs fits_once A.below (omega arith) a (entry_below G fits_faces (post vs k) a j))
      (λ b. b) (λ e. absurd (entry_other G fits_faces (post vs k) a j e)) (λ b. let t = in_later vs k a b in absurd (omega (arith, t.1, t.2)))

  pub fits_start : 2 ≤ length vs → Contour (After G) (post vs 1) (post vs 2) (take 2 vs) (post vs 1 ∷ post vs 2 ∷ [])
  fits_start h = rw (take_two vs h) (contour_start (After G) (post vs 1) (post vs 2) vn (rings G fits_faces) fits_outer)

  -- the step to the post in position k
  pub fits_grow : (k : ℕ) → 3 ≤ k → k ≤ length vs → (K : List ℕ) → Contour (After G) (post vs 1) (post vs 2) (earlier vs k) K
      → Grown G (post vs 1) (post vs 2) (earlier vs k) K (post vs k)
  fits_grow k h i K C =
      grow G fits_faces (post vs 1) (post vs 2) vn fits_outer (earlier vs k) K (post vs k) (get_or-take (k - 1) vs 0 0 (omega arith)) C
      (post_new vs fits_once k (omega arith) i) (A.two k h i) (A.run k h i) (full k (omega arith) i)

-- ---- of the posts before a position and the post in it
abbrev At : (List ℕ → ℕ → Type 0) → List ℕ → ℕ → Type 0
At Q l k = Q (earlier l k) (post l k)

module _ (vs : List ℕ) (u : ℕ) where
  one_longer : length (vs ++ u ∷ []) ≡ length vs + 1
  one_longer = omega (arith, length-append vs (u ∷ []))

  -- what holds at each position of vs, and of u after vs, holds at each position of both
  pub at_more : (Q : List ℕ → ℕ → Type 0) (k : ℕ) → 1 ≤ k → k ≤ length (vs ++ u ∷ []) → (k ≤ length vs → Q (earlier vs k) (post vs k)) → Q vs u
      → Q (earlier (vs ++ u ∷ []) k) (post (vs ++ u ∷ []) k)
  at_more Q k h i f q = go (dec_lt (length vs) k)
    where
      go : Dec (length vs < k) → At Q (vs ++ u ∷ []) k
      go (no m) = rw (take-append-le (k - 1) vs (u ∷ []) (omega arith), get_or-append vs (u ∷ []) 0 (k - 1) (omega arith)) (f (omega arith))
      go (yes m) =
          let e : length vs ≡ k - 1 = omega (arith, one_longer) in
          rw (take_at vs (u ∷ []) (k - 1) e, get_or_at vs u [] 0 (k - 1) e) q

-- ---- a list's beginnings fit, and so does the list with a post more that passes the rule
module _ (G : List (List ℕ)) (vn : ℕ) (vs : List ℕ) (A : FitsSoFar G vn vs) where
  pub fits_take : (j : ℕ) → j ≤ length vs → FitsSoFar G vn (take j vs)
  fits_take j to =
      record {
        below = λ a i. let w = in_take j vs a i in subst (λ (b : ℕ). b < length G) w.3 (A.below (get_or vs w.0 0) (place_in vs w.0 w.2));
        once = λ a b h i e.
            let q = sym (get_or-take j vs a 0 (omega (arith, n))) ∙ e ∙ get_or-take j vs b 0 (omega (arith, n)) in
            A.once a b (omega (arith, n)) (omega (arith, n)) q;
        two = λ k h i. same (λ l v. two_placed G l v ≡ true) k (omega arith) (omega (arith, n)) (A.two k h (omega (arith, n)));
        run = λ k h i. same (λ l v. one_run G l v ≡ true) k (omega arith) (omega (arith, n)) (A.run k h (omega (arith, n)));
        last = λ k h i e. A.last k h (omega (arith, n)) (sym (get_or-take j vs (k - 1) 0 (omega (arith, n))) ∙ e);
      }
    where
      n : length (take j vs) ≡ j
      n = length-take-le j vs to

      same : (Q : List ℕ → ℕ → Type 0) (k : ℕ) → 1 ≤ k → k ≤ j → At Q vs k → At Q (take j vs) k
      same Q k h i q = rw (take-take (k - 1) j vs (omega arith), get_or-take j vs (k - 1) 0 (omega arith)) q

  module _ (u : ℕ) (low : u < length G) (new : ¬ (In u vs)) (two : two_placed G vs u ≡ true) (one : one_run G vs u ≡ true)
      (last : u ≡ vn → length vs + 1 ≡ length G) where
    pub fits_more : FitsSoFar G vn (vs ++ u ∷ [])
    fits_more =
        record {
          below = λ a. in_cases a vs (u ∷ []) (A.below a) (elim [ inl e ↦ rw e low | inr z ↦ absurd z ]);
          once = once_different (vs ++ u ∷ []) (once_join vs (u ∷ []) (different_once vs A.once) ((λ z. z), tt) apart);
          two = λ k h i. at_more vs u (λ l v. two_placed G l v ≡ true) k (omega arith) i (A.two k h) two;
          run = λ k h i. at_more vs u (λ l v. one_run G l v ≡ true) k (omega arith) i (A.run k h) one;
          last = λ k h i. at k h i (dec_lt (length vs) k);
        }
      where
        apart : (a : ℕ) → In a vs → ¬ (In a (u ∷ []))
        apart a i (inl e) = new (rw e at i)
        apart a i (inr z) = z

        at : (k : ℕ) → 1 ≤ k → k ≤ length (vs ++ u ∷ []) → Dec (length vs < k) → post (vs ++ u ∷ []) k ≡ vn → k ≡ length G
        at k h i (no m) e = A.last k h (omega arith) (sym (get_or-append vs (u ∷ []) 0 (k - 1) (omega arith)) ∙ e)
        at k h i (yes m) e = let l = last (sym (get_or_at vs u [] 0 (k - 1) (omega (arith, one_longer vs u))) ∙ e) in omega (arith, one_longer vs u)

-- an order that passes: the rings are plane, and it fits to its end
pub passes_plane : (G : List (List ℕ)) (vs : List ℕ) → Passes G vs → Plane G (post vs 1) (post vs 2) (post vs (length G))
passes_plane G vs P = (passes_sound G vs P).0

pub passes_fits : (G : List (List ℕ)) (vs : List ℕ) → Passes G vs → FitsSoFar G (post vs (length G)) vs
passes_fits G vs P =
    let N = boarded_names G vs P.board in
    let n : length vs ≡ length G = P.board.all in
    let d = once_different vs N.once in
    record {
      below = N.below;
      once = d;
      two = λ k h i. P.two k h (omega arith);
      run = λ k h i. P.run k h (omega arith);
      last = λ k h i e. let s = d (k - 1) (length G - 1) (omega arith) (omega arith) e in omega arith;
    }
