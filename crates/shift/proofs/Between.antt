-- Each post stands between the ends of its run, at its own stage and at every later one; and so do the posts of the run.
use Prim.Native.Nat.{ℕ, ◌+◌, ◌-◌, ◌≤◌, ◌<◌}
use mathlib.Core.Path.{◌≡◌, refl, ap, sym, ◌∙◌, subst, subst⁻¹}
use mathlib.Core.Logic.{inl, inr, ◌≢◌}
use mathlib.Core.List.{List, [], ◌∷◌, ◌++◌}
use native.Mathlib.Omega.{arith}
use lib.ListN.{length, take}
use lib.Seq.{get_or-take, take-take, length-take-le}
use Rattle.words.specs.Lists.{In, last_of}
use Rattle.words.specs.Positions.{post, earlier}
use Rattle.words.proofs.Lists.{in_cases, last_append, last_in}
use Rattle.words.proofs.Chains.{Chain, chain_map, chain_from, chain_last}
use Rattle.words.proofs.Positions.{take_in}
use Rattle.rings.specs.Rings.{ring}
use Rattle.rings.specs.Plane.{Plane}
use Rattle.rings.proofs.Says.{Faces}
use Rattle.order.specs.Order.{run_begin, run}
use Rattle.order.specs.Fitting.{FitsSoFar}
use Rattle.order.proofs.Growth.{run_near, take_two}
use Rattle.order.proofs.Fitting.{fits_faces, fits_once, at_more}
use Rattle.placing.specs.Stages.{Stage, third, place, stage}
use Rattle.placing.proofs.Steps.{Step, place_placed, from_three, third_begin, third_run, at_each_stage}
use Rattle.drawing.specs.Meeting.{Places}
use Rattle.drawing.proofs.Build.{base, Build}
use Rattle.drawing.proofs.Build.Build.{post as put}
use Rattle.shift.proofs.Shift.{HeldAll, HeldPair}
use Rattle.shift.proofs.Drawn.{places_of}
use Rattle.shift.proofs.Tri.{Over}
use Rattle.shift.proofs.Tied.{Tied, tied_third, third_over, tied_next, over_old, over_new}
use Rattle.shift.proofs.Every.{three_differ, placed_at, one_step_at, run_at_lem, exact_at}
use Rattle.shift.proofs.Corners.{top_ends}

-- ---- what is held of a post and the run w that it was placed over
module _ (s : Places) (g : ℕ → ℕ) where
  open s use {x}

  -- b's column is right of a's
  abbrev Rises : ℕ → ℕ → Type 0
  Rises a b = x a < x b

  rises_trans : (a b c : ℕ) → Rises a b → Rises b c → Rises a c
  rises_trans a b c h k = omega arith

  over_between : {C : List ℕ} (B : Build C) (v : ℕ) (w : List ℕ) → HeldAll s g B → Over B v w → (x (post w 1) < x v) × (x v < x (last_of 0 w))
  over_between (put L p M q R u B) v w k (inl h) = rw (h.0, h.1, last_append p M q []) (k.0.left.far, k.0.right.far)
  over_between (put L p M q R u B) v w k (inr h) = over_between B v w k.1 h
  over_between (base a b) v w k x5 = elim x5 [ ]

  from_first : (p : ℕ) (l : List ℕ) → Chain Rises (p ∷ l) → (a : ℕ) → In a (p ∷ l) → x p ≤ x a
  from_first p l c a (inl e) = omega (arith, ap x e)
  from_first p l c a (inr i) = omega (arith, chain_from Rises rises_trans p l c a i)

  to_last : (l : List ℕ) (q : ℕ) → Chain Rises (l ++ q ∷ []) → (a : ℕ) → In a (l ++ q ∷ []) → x a ≤ x q
  to_last l q c a =
      in_cases a l (q ∷ []) (λ i. omega (arith, chain_last Rises rises_trans l q c a i)) (elim [ inl e ↦ omega (arith, ap x e) | inr z ↦ absurd z ])

  over_within : {C : List ℕ} (B : Build C) (v : ℕ) (w : List ℕ) → HeldAll s g B → Over B v w → (a : ℕ) → In a w
      → (x (post w 1) ≤ x a) × (x a ≤ x (last_of 0 w))
  over_within (put L p M q R u B) v w k (inl h) a i =
      let c = chain_map {E = HeldPair s g u} {F = Rises} (λ a b h. h.far) (p ∷ (M ++ q ∷ [])) k.0.run in
      let j = subst (In a) h.1 i in
      rw (h.1, last_append p M q []) (from_first p (M ++ q ∷ []) c a j, to_last (p ∷ M) q c a j)
  over_within (put L p M q R u B) v w k (inr h) a i = over_within B v w k.1 h a i
  over_within (base _ b) v w k x7 a i = elim x7 [ ]

-- ---- a drawing in which each post of the list l, from position 3 on, was placed over its run
abbrev EachOver : List (List ℕ) → {C : List ℕ} → Build C → List ℕ → Type 0
EachOver G B l = (j : ℕ) → 3 ≤ j → j ≤ length l → Over B (post l j) (run G (earlier l j) (post l j))

record Stood (G : List (List ℕ)) (t : Stage) : Type 0 where
  tied : Tied G t
  over : EachOver G tied.B t.placed

module _ (G : List (List ℕ)) (F : Faces G) where
  stood_third : (v1 v2 v3 : ℕ) → v1 ≢ v2 → v1 ≢ v3 → v2 ≢ v3 → run G (v1 ∷ v2 ∷ []) v3 ≡ v1 ∷ v2 ∷ [] → Stood G (third v1 v2 v3)
  unfolding third
  stood_third v1 v2 v3 d12 d13 d23 r =
      let T = tied_third G F v1 v2 v3 d12 d13 d23 in
      let l = v1 ∷ v2 ∷ v3 ∷ [] in
      let three : Over T.B v3 (run G (v1 ∷ v2 ∷ []) v3) = rw r (third_over G F v1 v2 v3 d12 d13 d23) in
      let at : (j : ℕ) → 3 ≡ j → Over T.B (post l j) (run G (earlier l j) (post l j)) =
      λ j e. subst (λ (j : ℕ). Over T.B (post l j) (run G (earlier l j) (post l j))) e three in
      record { tied = T; over = λ j h i. at j (omega arith) }

  stood_next : (t : Stage) (v : ℕ) → Step G t v → Stood G t → Stood G (place G t v)
  stood_next t v S D =
      let T = tied_next G t v S D.tied F in
      let new : Over T.B v (run G t.placed v) = rw S.run_is (over_new G t v S D.tied F) in
      record {
        tied = T;
        over = subst⁻¹ (EachOver G T.B) (place_placed G t v) (λ j h i.
            at_more t.placed v (λ l u. Over T.B u (run G l u)) j (omega arith) i
            (λ i. over_old G t v S D.tied F _ _ (D.over j h i)) new);
      }

-- ---- a list that fits so far, on plane rings
-- the run of the post in position j
abbrev pub run_at : List (List ℕ) → List ℕ → ℕ → List ℕ
run_at G vs j = run G (earlier vs j) (post vs j)

-- v's run has two posts or more, both its ends are placed, it has all placed neighbours, and it begins in v's list
abbrev TwoEnds : List (List ℕ) → List ℕ → ℕ → Type 0
TwoEnds G placed v =
    let w = run G placed v in
    (2 ≤ length w) × In (post w 1) placed × In (last_of 0 w) placed × ((a : ℕ) → In a (ring G v) → In a placed → In a w)
    × (run_begin G placed v < length (ring G v))

first_of : (l : List ℕ) → 2 ≤ length l → In (post l 1) l
first_of [] h = absurd (omega arith)
first_of (a ∷ l) h = inl refl

last_of_lem : (l : List ℕ) → 2 ≤ length l → In (last_of 0 l) l
last_of_lem [] h = absurd (omega arith)
last_of_lem (a ∷ l) h = last_in a l

module _ (G : List (List ℕ)) (vn : ℕ) (vs : List ℕ) (P : Plane G (post vs 1) (post vs 2) vn) (A : FitsSoFar G vn vs) where
  -- the posts before position k + 1 are the first k
  first_k : (k : ℕ) → take k vs ≡ earlier vs (k + 1)
  first_k k = let e : k ≡ k + 1 - 1 = omega arith in ap (λ (j : ℕ). take j vs) e

  two_ends : (j : ℕ) → 3 ≤ j → j ≤ length vs → TwoEnds G (earlier vs j) (post vs j)
  two_ends j h i = from_three (λ j. TwoEnds G (earlier vs j) (post vs j)) (length vs) of_third (λ k h i r. of_next k h i) j h i
    where
      of_third : TwoEnds G (earlier vs 3) (post vs 3)
      of_third =
          rw (third_run G vn vs P A (omega arith)) (
            omega arith,
            take_in 2 vs 0 (omega arith) (omega arith),
            take_in 2 vs 1 (omega arith) (omega arith),
            λ a n p. subst (In a) (take_two vs (omega arith)) p,
            third_begin G vn vs P A (omega arith),
          )

      of_next : (k : ℕ) → 3 ≤ k → k < length vs → TwoEnds G (earlier vs (k + 1)) (post vs (k + 1))
      of_next k h i =
          let e = exact_at G vn vs P A k h i (run G (take k vs) (post vs (k + 1))) refl in
          let S = (one_step_at G vn vs P A k h i).step in
          let all : (a : ℕ) → In a (ring G (post vs (k + 1))) → In a (take k vs) → In a (run G (take k vs) (post vs (k + 1))) =
          λ a n p. rw (run_at_lem G vn vs P A k h i) (S.run_all a n (rw (placed_at G vn vs P A k h (omega arith)) p)) in
          let begin : run_begin G (take k vs) (post vs (k + 1)) < length (ring G (post vs (k + 1))) =
          subst (λ (l : List ℕ). run_begin G l (post vs (k + 1)) < length (ring G (post vs (k + 1)))) (placed_at G vn vs P A k h (omega arith)) S.begin_in in
          subst (λ (l : List ℕ). TwoEnds G l (post vs (k + 1))) (first_k k) (e.0, e.1, e.2, all, begin)

  module _ (j : ℕ) (h : 3 ≤ j) (i : j ≤ length vs) where
    pub run_two : 2 ≤ length (run_at G vs j)
    run_two = (two_ends j h i).0

    -- both ends are neighbours, and earlier ones
    pub left_near : In (post (run_at G vs j) 1) (ring G (post vs j))
    left_near = run_near G (earlier vs j) (post vs j) _ (first_of (run_at G vs j) run_two)

    pub right_near : In (last_of 0 (run_at G vs j)) (ring G (post vs j))
    right_near = run_near G (earlier vs j) (post vs j) _ (last_of_lem (run_at G vs j) run_two)

    pub left_earlier : In (post (run_at G vs j) 1) (earlier vs j)
    left_earlier = (two_ends j h i).1

    pub right_earlier : In (last_of 0 (run_at G vs j)) (earlier vs j)
    right_earlier = (two_ends j h i).2

    -- all neighbours that are earlier are in the run
    pub all_in_run : (a : ℕ) → In a (ring G (post vs j)) → In a (earlier vs j) → In a (run_at G vs j)
    all_in_run = (two_ends j h i).3

    pub begin_inside : run_begin G (earlier vs j) (post vs j) < length (ring G (post vs j))
    begin_inside = (two_ends j h i).4

  -- the run of vn goes from v1 to v2
  pub last_run : (k : ℕ) → 3 ≤ k → k ≤ length vs → post vs k ≡ vn → (post (run_at G vs k) 1 ≡ post vs 1) × (last_of 0 (run_at G vs k) ≡ post vs 2)
  last_run k h i = from_three (λ k. post vs k ≡ vn → FromTo (earlier vs k) (post vs k)) (length vs) of_third (λ k h i r. of_next k h i) k h i
    where
      FromTo : List ℕ → ℕ → Type 0
      FromTo l v = (post (run G l v) 1 ≡ post vs 1) × (last_of 0 (run G l v) ≡ post vs 2)

      of_third : post vs 3 ≡ vn → FromTo (earlier vs 3) (post vs 3)
      of_third e = rw (third_run G vn vs P A (omega arith)) (refl, refl)

      of_next : (k : ℕ) → 3 ≤ k → k < length vs → post vs (k + 1) ≡ vn → FromTo (earlier vs (k + 1)) (post vs (k + 1))
      of_next k h i e =
          let ends : FromTo (take k vs) (post vs (k + 1)) = rw (run_at_lem G vn vs P A k h i, last_append _ _ _ []) (top_ends G vn vs P A k h i e) in
          subst (λ (l : List ℕ). FromTo l (post vs (k + 1))) (first_k k) ends

  -- ---- at stage k, of the post in position j
  stood_at : (k : ℕ) → 3 ≤ k → k ≤ length vs → Stood G (stage G (take k vs))
  stood_at k h i =
      let F = fits_faces G vn vs P A in
      let d = three_differ vs (fits_once G vn vs P A) (omega arith) in
      let r = ap (λ (l : List ℕ). run G l (post vs 3)) (sym (take_two vs (omega arith))) ∙ third_run G vn vs P A (omega arith) in
      at_each_stage G vn vs P A (Stood G) (stood_third G F (post vs 1) (post vs 2) (post vs 3) d.0 d.1 d.2 r) (stood_next G F) k h i

  module _ (k j : ℕ) (h : 3 ≤ j) (m : j ≤ k) (i : k ≤ length vs) where
    abbrev t : Stage
    t = stage G (take k vs)

    T : Stood G t
    T = stood_at k (omega arith) i

    over_at : Over T.tied.B (post vs j) (run_at G vs j)
    over_at =
        let o = subst (EachOver G T.tied.B) (placed_at G vn vs P A k (omega arith) i) T.over j h (omega (arith, length-take-le k vs i)) in
        rw (take-take (j - 1) k vs (omega arith), get_or-take k vs (j - 1) 0 (omega arith)) at o

    -- it stands between the ends of its run
    pub between_at : (t.x (post (run_at G vs j) 1) < t.x (post vs j)) × (t.x (post vs j) < t.x (last_of 0 (run_at G vs j)))
    between_at =
        let D = T.tied.drawn in
        over_between (places_of t) D.g T.tied.B (post vs j) (run_at G vs j) D.laid.kept over_at

    -- and no post of the run stands beyond them
    pub within_ends_at : (a : ℕ) → In a (run_at G vs j) → (t.x (post (run_at G vs j) 1) ≤ t.x a) × (t.x a ≤ t.x (last_of 0 (run_at G vs j)))
    within_ends_at =
        let D = T.tied.drawn in
        over_within (places_of t) D.g T.tied.B (post vs j) (run_at G vs j) D.laid.kept over_at
