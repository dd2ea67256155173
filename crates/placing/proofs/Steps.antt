-- Each stage has its contour, and the step to the next post keeps to it: its run is a stretch of the contour, and the post takes the place
-- of the posts that the run covers. Whatever holds at stage 3 and is kept by each step holds at every stage.
use mathlib.Core.Path.{◌≡◌, refl, sym, ap, ◌∙◌, subst, subst⁻¹}
use mathlib.Core.Logic.{inl, inr}
use mathlib.Core.List.{List, [], ◌∷◌, ◌++◌, append_assoc, append-nil}
use Prim.Native.Nat.{ℕ, zero, suc, ◌+◌, ◌-◌, ◌≤◌, ◌<◌}
use native.Mathlib.Omega.{arith}
use native.Mathlib.Numerals.{add-one}
use lib.ListN.{length, get_or, take, length-append}
use lib.Seq.{take-suc, take_at, get_or-take, length-take-le}
use Rattle.words.specs.Lists.{In, Adj}
use Rattle.words.specs.Positions.{post, earlier}
use Rattle.words.proofs.Lists.{Once, once_split, last_append}
use Rattle.words.proofs.Tests.{eqb_same, eqb_other}
use Rattle.words.proofs.Positions.{post_new, earlier_next}
use Rattle.rings.specs.Rings.{ring}
use Rattle.rings.specs.Plane.{Plane}
use Rattle.rings.proofs.Around.{After}
use Rattle.rings.proofs.Says.{entry_other, entry_returned}
use Rattle.order.specs.Order.{run_begin, run}
use Rattle.order.proofs.Contour.{Run, Contour}
use Rattle.order.proofs.Growth.{Grown, run_near, run_whole}
use Rattle.order.specs.Fitting.{FitsSoFar}
use Rattle.order.proofs.Fitting.{fits_faces, fits_outer, fits_once, fits_start, fits_grow}
use Rattle.placing.specs.Stages.{Stage, third, up_to, on_from, inner, place_over, place, place_all, stage}

-- ---- a contour cut at the ends of a run
pub up_to_at : (X : List ℕ) (p : ℕ) (Z : List ℕ) → ¬ (In p X) → up_to p (X ++ p ∷ Z) ≡ X ++ p ∷ []
unfolding up_to
up_to_at [] p Z h = rw (eqb_same p)
up_to_at (x ∷ X) p Z h = rw (eqb_other x p (λ e. h (inl (sym e))), up_to_at X p Z (λ i. h (inr i)))

pub on_from_at : (X : List ℕ) (q : ℕ) (Y : List ℕ) → ¬ (In q X) → on_from q (X ++ q ∷ Y) ≡ q ∷ Y
unfolding on_from
on_from_at [] q Y h = rw (eqb_same q)
on_from_at (x ∷ X) q Y h = rw (eqb_other x q (λ e. h (inl (sym e)))) (on_from_at X q Y (λ i. h (inr i)))

pub once_before : (X : List ℕ) (p : ℕ) (Z : List ℕ) → Once (X ++ p ∷ Z) → ¬ (In p X)
once_before X p Z o h = (once_split X (p ∷ Z) o).1 p h (inl refl)

module _ (X : List ℕ) (p : ℕ) (M : List ℕ) (q : ℕ) (Y : List ℕ) (o : Once (X ++ p ∷ (M ++ q ∷ Y))) where
  pub up_to_run : up_to p (X ++ p ∷ (M ++ q ∷ Y)) ≡ X ++ p ∷ []
  up_to_run = up_to_at X p (M ++ q ∷ Y) (once_before X p (M ++ q ∷ Y) o)

  pub on_from_run : on_from q (X ++ p ∷ (M ++ q ∷ Y)) ≡ q ∷ Y
  on_from_run =
      let e : X ++ p ∷ (M ++ q ∷ Y) ≡ (X ++ p ∷ M) ++ q ∷ Y = sym (append_assoc X (p ∷ M) (q ∷ Y)) in
      rw e (on_from_at (X ++ p ∷ M) q Y (once_before (X ++ p ∷ M) q Y (rw e at o)))

-- a run without its ends
pub inner_run : (p : ℕ) (M : List ℕ) (q : ℕ) → inner (p ∷ (M ++ q ∷ [])) ≡ M
inner_run p M q = take_at M (q ∷ []) (suc (length (M ++ q ∷ [])) - 2) (omega (arith, length-append M (q ∷ [])))

-- ---- the step
-- From stage t to v, a new post: its run is p ∷ (M ++ q ∷ []), a stretch of the contour, and v takes the place of M there. The run
-- is the neighbours of v that are placed. `old` and `now` are the contour's invariant before and after, from v1 to v2.
pub record Step (G : List (List ℕ)) (t : Stage) (v : ℕ) : Type 0 where
  pub X : List ℕ
  pub M : List ℕ
  pub Y : List ℕ
  pub p : ℕ
  pub q : ℕ
  pub begin_in : run_begin G t.placed v < length (ring G v)
  pub run_is : run G t.placed v ≡ p ∷ (M ++ q ∷ [])
  pub the_run_lem : Run (After G) t.placed v p M q
  pub before : t.contour ≡ X ++ p ∷ (M ++ q ∷ Y)
  pub after : (place G t v).contour ≡ X ++ p ∷ v ∷ q ∷ Y
  pub new : ¬ (In v t.placed)
  pub once : Once t.contour
  pub on_placed : (a : ℕ) → In a t.contour → In a t.placed
  pub run_all : (a : ℕ) → In a (ring G v) → In a t.placed → In a (p ∷ (M ++ q ∷ []))
  pub run_near : (a : ℕ) → In a (p ∷ (M ++ q ∷ [])) → In a (ring G v)
  pub run_back : (a : ℕ) → In v (ring G a) → In a t.placed → In a (p ∷ (M ++ q ∷ []))
  pub not_self : ¬ (In v (ring G v))
  pub no_turn : ¬ (Adj (p ∷ (M ++ q ∷ [])) (post t.placed 2) (post t.placed 1))
  pub old : Contour (After G) (post t.placed 1) (post t.placed 2) t.placed t.contour
  pub now : Contour (After G) (post t.placed 1) (post t.placed 2) (place G t v).placed (place G t v).contour

place_contour : (G : List (List ℕ)) (t : Stage) (v : ℕ) (X M Y : List ℕ) (p q : ℕ) → run G t.placed v ≡ p ∷ (M ++ q ∷ [])
    → t.contour ≡ X ++ p ∷ (M ++ q ∷ Y)
    → Once t.contour → (place G t v).contour ≡ X ++ p ∷ v ∷ q ∷ Y
unfolding place place_over
place_contour G t v X M Y p q r b o =
    let c = up_to_run X p M q Y (rw b at o) in
    let d = on_from_run X p M q Y (rw b at o) in
    rw (r, b, last_append p M q [], c, d) (append_assoc X (p ∷ []) (v ∷ q ∷ Y))

pub place_placed : (G : List (List ℕ)) (t : Stage) (v : ℕ) → (place G t v).placed ≡ t.placed ++ v ∷ []
unfolding place place_over
place_placed G t v = refl

-- ---- stages, a post at a time
place_all_next : (G : List (List ℕ)) (ws : List ℕ) (t : Stage) (v : ℕ) → place_all G t (ws ++ v ∷ []) ≡ place G (place_all G t ws) v
unfolding place_all
place_all_next G [] t v = refl
place_all_next G (w ∷ ws) t v = place_all_next G ws (place G t w) v

place_all_placed : (G : List (List ℕ)) (ws : List ℕ) (t : Stage) → (place_all G t ws).placed ≡ t.placed ++ ws
unfolding place_all
place_all_placed G [] t = sym (append-nil t.placed)
place_all_placed G (w ∷ ws) t = place_all_placed G ws (place G t w) ∙ ap (λ (l : List ℕ). l ++ ws) (place_placed G t w) ∙ append_assoc t.placed (w ∷ []) ws

stage_more : (G : List (List ℕ)) (ps : List ℕ) (v : ℕ) → 3 ≤ length ps → stage G (ps ++ v ∷ []) ≡ place G (stage G ps) v
unfolding stage
stage_more G [] v h = absurd (omega arith)
stage_more G (a ∷ []) v h = absurd (omega arith)
stage_more G (a ∷ b ∷ []) v h = absurd (omega arith)
stage_more G (a ∷ b ∷ c ∷ l) v h = place_all_next G l (third a b c) v

pub stage_has : (G : List (List ℕ)) (ps : List ℕ) → 3 ≤ length ps → (stage G ps).placed ≡ ps
unfolding stage third
stage_has G [] h = absurd (omega arith)
stage_has G (a ∷ []) h = absurd (omega arith)
stage_has G (a ∷ b ∷ []) h = absurd (omega arith)
stage_has G (a ∷ b ∷ c ∷ l) h = place_all_placed G l (third a b c)

module _ (G : List (List ℕ)) (vs : List ℕ) where
  pub stage_third : 3 ≤ length vs → stage G (take 3 vs) ≡ third (post vs 1) (post vs 2) (post vs 3)
  unfolding stage place_all
  stage_third h = go vs h
    where
      go : (vs : List ℕ) → 3 ≤ length vs → stage G (take 3 vs) ≡ third (post vs 1) (post vs 2) (post vs 3)
      go [] h = absurd (omega arith)
      go (a ∷ []) h = absurd (omega arith)
      go (a ∷ b ∷ []) h = absurd (omega arith)
      go (a ∷ b ∷ c ∷ l) h = refl

  pub stage_next : (k : ℕ) → 3 ≤ k → k < length vs → stage G (take (k + 1) vs) ≡ place G (stage G (take k vs)) (post vs (k + 1))
  stage_next k h i =
      let e : k + 1 - 1 ≡ k = omega arith in
      rw (e, add-one, take-suc vs k 0 i) (stage_more G (take k vs) (get_or vs k 0) (let l = length-take-le k vs (omega arith) in omega arith))

  pub stage_placed : (k : ℕ) → 3 ≤ k → k ≤ length vs → (stage G (take k vs)).placed ≡ take k vs
  stage_placed k h i = stage_has G (take k vs) (let l = length-take-le k vs i in omega arith)

  -- v1 and v2 are the first two posts of every stage
  pub stage_first : (k : ℕ) → 3 ≤ k → k ≤ length vs → post (stage G (take k vs)).placed 1 ≡ post vs 1
  stage_first k h i = ap (λ (l : List ℕ). post l 1) (stage_placed k h i) ∙ get_or-take k vs 0 0 (omega arith)

  pub stage_second : (k : ℕ) → 3 ≤ k → k ≤ length vs → post (stage G (take k vs)).placed 2 ≡ post vs 2
  stage_second k h i = ap (λ (l : List ℕ). post l 2) (stage_placed k h i) ∙ get_or-take k vs 1 0 (omega arith)

-- ---- a list that fits so far, on plane rings
-- from 3 on, a number at a time
pub from_three : (Q : ℕ → Type 0) (n : ℕ) → Q 3 → ((k : ℕ) → 3 ≤ k → k < n → Q k → Q (k + 1)) → (k : ℕ) → 3 ≤ k → k ≤ n → Q k
from_three Q n b f zero h i = absurd (omega arith)
from_three Q n b f (suc zero) h i = absurd (omega arith)
from_three Q n b f (suc (suc zero)) h i = absurd (omega arith)
from_three Q n b f (suc (suc (suc zero))) h i = b
from_three Q n b f (suc (suc (suc (suc k)))) h i =
    rw add-one at (f (suc (suc (suc k))) (omega arith) i (from_three Q n b f (suc (suc (suc k))) (omega arith) (omega arith)))

-- a run on the contour v1, v2 is the whole of it: v3 comes between them
two_long : (X M Y : List ℕ) (v1 v2 v3 p q : ℕ) → v1 ∷ v2 ∷ [] ≡ X ++ p ∷ (M ++ q ∷ Y)
    → (p ∷ (M ++ q ∷ []) ≡ v1 ∷ v2 ∷ []) × (X ++ p ∷ v3 ∷ q ∷ Y ≡ v1 ∷ v3 ∷ v2 ∷ [])
two_long [] [] [] v1 v2 v3 p q e = (sym e, cc e)
two_long [] [] (y ∷ Y) v1 v2 v3 p q e = absurd (omega (arith, ap length e))
two_long [] (m ∷ M) Y v1 v2 v3 p q e = absurd (omega (arith, ap length e, length-append M (q ∷ Y)))
two_long (x ∷ X) M Y v1 v2 v3 p q e = absurd (omega (arith, ap length e, length-append X (p ∷ (M ++ q ∷ Y)), length-append M (q ∷ Y)))

at_ends : (G : List (List ℕ)) (a b c d : ℕ) (placed K : List ℕ) → a ≡ c → b ≡ d → Contour (After G) c d placed K → Contour (After G) a b placed K
at_ends G a b c d placed K e f C = rw (e, f) C

module _ (G : List (List ℕ)) (vn : ℕ) (vs : List ℕ) (P : Plane G (post vs 1) (post vs 2) vn) (A : FitsSoFar G vn vs) where
  -- the contour of the posts placed, from v1 to v2
  abbrev From : List ℕ → List ℕ → Type 0
  From placed K = Contour (After G) (post vs 1) (post vs 2) placed K

  -- the step to the post in position k
  step : (k : ℕ) → 3 ≤ k → k ≤ length vs → (t : Stage) → t.placed ≡ earlier vs k → From t.placed t.contour → Step G t (post vs k)
  step k h i t e C =
      go (subst⁻¹ (λ (l : List ℕ). Grown G (post vs 1) (post vs 2) l t.contour (post vs k)) e
      (fits_grow G vn vs P A k h i t.contour (subst (λ (l : List ℕ). From l t.contour) e C)))
      (λ j. post_new vs (fits_once G vn vs P A) k (omega arith) i (subst (In (post vs k)) e j))
      (ap (λ (l : List ℕ). post l 1) e ∙ get_or-take (k - 1) vs 0 0 (omega arith))
      (ap (λ (l : List ℕ). post l 2) e ∙ get_or-take (k - 1) vs 1 0 (omega arith))
    where
      v : ℕ
      v = post vs k

      go : Grown G (post vs 1) (post vs 2) t.placed t.contour v → ¬ (In v t.placed) → post t.placed 1 ≡ post vs 1
          → post t.placed 2 ≡ post vs 2 → Step G t v
      go g new e1 e2 =
          let F = fits_faces G vn vs P A in
          let all = run_whole G F (post vs 1) (post vs 2) vn (fits_outer G vn vs P A) t.placed t.contour v g new in
          let a = place_contour G t v g.X g.M g.Y g.p g.q g.run_is g.before C.once in
          record {
            X = g.X;
            M = g.M;
            Y = g.Y;
            p = g.p;
            q = g.q;
            begin_in = g.begin_in;
            run_is = g.run_is;
            the_run_lem = g.the_run_lem;
            before = g.before;
            after = a;
            new = new;
            once = C.once;
            on_placed = C.placed;
            run_all = all;
            run_near = λ a j. run_near G t.placed v a (rw g.run_is j);
            run_back = λ a j. all a (entry_returned G F a v j);
            not_self = λ j. entry_other G F v v j refl;
            no_turn = rw (e1, e2) g.no_turn;
            old = at_ends G _ _ (post vs 1) (post vs 2) t.placed t.contour e1 e2 C;
            now = at_ends G _ _ (post vs 1) (post vs 2) (place G t v).placed (place G t v).contour e1 e2
                (subst⁻¹ (λ (l : List ℕ). From l (place G t v).contour) (place_placed G t v) (subst⁻¹ (From (t.placed ++ v ∷ [])) a g.now));
          }

  -- v3's run is v1, v2, and stage 3's contour is v1, v3, v2
  module _ (h : 3 ≤ length vs) where
    third_grown : Grown G (post vs 1) (post vs 2) (earlier vs 3) (post vs 1 ∷ post vs 2 ∷ []) (post vs 3)
    third_grown = fits_grow G vn vs P A 3 (omega arith) h (post vs 1 ∷ post vs 2 ∷ []) (fits_start G vn vs P A (omega arith))

    third_ends : let g = third_grown in
        (g.p ∷ (g.M ++ g.q ∷ []) ≡ post vs 1 ∷ post vs 2 ∷ []) × (g.X ++ g.p ∷ post vs 3 ∷ g.q ∷ g.Y ≡ post vs 1 ∷ post vs 3 ∷ post vs 2 ∷ [])
    third_ends = let g = third_grown in two_long g.X g.M g.Y (post vs 1) (post vs 2) (post vs 3) g.p g.q g.before

    pub third_begin : run_begin G (earlier vs 3) (post vs 3) < length (ring G (post vs 3))
    third_begin = third_grown.begin_in

    pub third_run : run G (earlier vs 3) (post vs 3) ≡ post vs 1 ∷ post vs 2 ∷ []
    third_run = third_grown.run_is ∙ third_ends.0

    pub third_contour : Contour (After G) (post vs 1) (post vs 2) (take 3 vs) (post vs 1 ∷ post vs 3 ∷ post vs 2 ∷ [])
    third_contour = rw (earlier_next vs 3 (omega arith) h) (subst (From (earlier vs 3 ++ post vs 3 ∷ [])) third_ends.1 third_grown.now)

  -- the step from a stage with its contour
  step_from : (k : ℕ) → 3 ≤ k → k < length vs → From (take k vs) (stage G (take k vs)).contour → Step G (stage G (take k vs)) (post vs (k + 1))
  step_from k h i C =
      let s : k ≡ k + 1 - 1 = omega arith in
      let e = stage_placed G vs k h (omega arith) in
      step (k + 1) (omega arith) (omega arith) (stage G (take k vs)) (e ∙ ap (λ (j : ℕ). take j vs) s)
      (subst⁻¹ (λ (l : List ℕ). From l (stage G (take k vs)).contour) e C)

  stage_now : (k : ℕ) → 3 ≤ k → k < length vs → Step G (stage G (take k vs)) (post vs (k + 1)) → From (take (k + 1) vs) (stage G (take (k + 1) vs)).contour
  stage_now k h i s =
      let t = stage G (take k vs) in
      let t' = place G t (post vs (k + 1)) in
      let e1 = stage_first G vs k h (omega arith) in
      let e2 = stage_second G vs k h (omega arith) in
      let C = at_ends G (post vs 1) (post vs 2) _ _ t'.placed t'.contour (sym e1) (sym e2) s.now in
      let D : From (stage G (take (k + 1) vs)).placed (stage G (take (k + 1) vs)).contour = rw (stage_next G vs k h i) C in
      subst (λ (l : List ℕ). From l (stage G (take (k + 1) vs)).contour) (stage_placed G vs (k + 1) (omega arith) (omega arith)) D

  -- each stage from 3 on has its contour
  pub contours : (k : ℕ) → 3 ≤ k → k ≤ length vs → Contour (After G) (post vs 1) (post vs 2) (take k vs) (stage G (take k vs)).contour
  unfolding third
  contours k h i =
      from_three (λ k. From (take k vs) (stage G (take k vs)).contour) (length vs)
      (rw (stage_third G vs (omega arith)) (third_contour (omega arith))) (λ k h i C. stage_now k h i (step_from k h i C)) k h i

  -- and the next post its step
  pub step_at : (k : ℕ) → 3 ≤ k → k < length vs → Step G (stage G (take k vs)) (post vs (k + 1))
  step_at k h i = step_from k h i (contours k h (omega arith))

  pub at_each_stage : (Q : Stage → Type 0) → Q (third (post vs 1) (post vs 2) (post vs 3)) → ((t : Stage) (v : ℕ) → Step G t v → Q t → Q (place G t v))
      → (k : ℕ) → 3 ≤ k → k ≤ length vs → Q (stage G (take k vs))
  at_each_stage Q base f k h i =
      from_three (λ k. Q (stage G (take k vs))) (length vs) (rw (stage_third G vs (omega arith)) base)
      (λ k h i r. subst⁻¹ Q (stage_next G vs k h i) (f (stage G (take k vs)) (post vs (k + 1)) (step_at k h i) r)) k h i
