-- Arrays that show a stage are ready for the next post, and what the code makes of them shows the next stage.
use Prim.Native.Nat.{ℕ, ◌+◌, ◌*◌, ◌-◌, ◌/◌, ◌≤◌, ◌<◌}
use mathlib.Core.Path.{◌≡◌, refl, ap, sym, ◌∙◌, subst, subst⁻¹}
use mathlib.Core.Logic.{inl, inr}
use mathlib.Core.List.{List, [], ◌∷◌, ◌++◌, append_assoc}
use native.Mathlib.Omega.{arith}
use lib.ListN.{length, get_or, set, length-set}
use lib.Seq.{get_or-set_same, get_or-set_other}
use Rattle.words.specs.Lists.{In, Adj}
use Rattle.words.proofs.Lists.{Once, once_split, once_drop, in_left, in_right, adj_left, adj_right, last_append, in_run, adj_more}
use Rattle.block.specs.Layout.{limit, bias}
use Rattle.placing.specs.Stages.{Stage, place}
use Rattle.placing.proofs.Steps.{Step}
use Rattle.placing.proofs.Placed.{p_old, q_old}
use Rattle.contour.specs.Arrays.{path, along, Below, covered, hung, run_end, far_at, inner_at, new_off, new_height, Ready, Over}
use Rattle.engine.specs.Shows.{Shows, Room}
use Rattle.engine.proofs.Kept.{Kept, StepMoves, step_moves}
use Rattle.engine.proofs.Stepped.{Changed, right_not, shows_next}
use Rattle.engine.proofs.Along.{below_all, path_but_last, path_but_first, path_inner, walk_last, along_list, fits_list, hung_off, hung_length}
use Rattle.engine.proofs.Along.{hung_at, covered_off, covered_length, covered_at}

-- the halves: xp and yp are w_p's, xq and yq w_q's before it moves by 2
halves : (xp yp xq yq f d h xv yv : ℕ) → xp + f ≡ xq + 2 → xp + yp ≤ xq + yq → xp + yq ≤ xq + yp → d ≡ (f + yq - yp) / 2 → h ≡ (f + yq + yp) / 2
    → 2 * xv + yp ≡ xp + (xq + 2) + yq → 2 * yv + xp ≡ xq + 2 + yq + yp → (xv ≡ xp + d) × (yv ≡ h) × (d ≤ f) × (yp ≤ f + yq)
halves xp yp xq yq f d h xv yv e1 e2 e3 e4 e5 e6 e7 = omega arith

module _ (G : List (List ℕ)) (t : Stage) (v : ℕ) (s : Step G t v) (K : Kept t) (n : ℕ) (ys off cover left right : List ℕ)
    (S : Shows t ys off cover left right) (W : Room n ys off cover left right)
    (names : (a : ℕ) → In a t.placed → a < n) (below : v < n) (few : length t.placed ≤ limit) (m : ℕ) (em : m ≡ length s.M + 2) where
  abbrev t' : Stage
  t' = place G t v

  abbrev M : List ℕ
  M = s.M

  abbrev p : ℕ
  p = s.p

  abbrev q : ℕ
  q = s.q

  N : StepMoves G t v s
  N = step_moves G t v s K

  -- neighbours in the run are neighbours on the contour
  run_adj : (a b : ℕ) → Adj (p ∷ (M ++ q ∷ [])) a b → Adj t.contour a b
  run_adj a b h =
      rw s.before (adj_right a b s.X (p ∷ (M ++ q ∷ s.Y)) (adj_left a b (p ∷ M) q s.Y h))

  rights : (a b : ℕ) → Adj (p ∷ (M ++ q ∷ [])) a b → get_or right a 0 ≡ b
  rights a b h = S.right_is a b (run_adj a b h)

  aparts : (a b : ℕ) → Adj (p ∷ (M ++ q ∷ [])) a b → t.x b ≡ t.x a + get_or off b 0
  aparts a b h = S.apart a b (run_adj a b h)

  apart_in : (a b : ℕ) → Adj (p ∷ M) a b → t.x b ≡ t.x a + get_or off b 0
  apart_in a b h = aparts a b (adj_more a b (p ∷ M) q h)

  on_run : (a : ℕ) → In a (p ∷ (M ++ q ∷ [])) → In a t.placed
  on_run a h = s.on_placed a (rw s.before (in_run a s.X p M q s.Y h))

  on_in : (a : ℕ) → In a M → In a t.placed
  on_in a h = on_run a (inr (in_left a M (q ∷ []) h))

  once_in : Once M
  once_in = (once_split M (q ∷ s.Y) (once_drop (s.X ++ p ∷ []) (M ++ q ∷ s.Y)
      (subst⁻¹ Once (append_assoc s.X (p ∷ []) (M ++ q ∷ s.Y)) (subst Once s.before s.once)))).0

  end_is : run_end right p m ≡ q
  end_is = walk_last right p M q m em rights

  inner_is : inner_at right p m ≡ M
  inner_is = path_inner right p M q m em rights

  abbrev far : ℕ
  far = far_at right off p m

  abbrev d : ℕ
  d = new_off ys off right p m

  far_is : t.x p + far ≡ t.x q + 2
  far_is =
      let e : along off (path right (get_or right p 0) (m - 1)) ≡ along off (M ++ q ∷ []) = ap (along off) (path_but_first right p M q m em rights) in
      let f : t.x p + along off (M ++ q ∷ []) ≡ t.x q = along_list t.x off p (M ++ q ∷ []) aparts ∙ ap t.x (last_append p M q []) in
      omega arith

  hp : In p t.placed
  hp = on_run p (inl refl)

  hq : In q t.placed
  hq = on_run q (inr (in_right q M (q ∷ []) (inl refl)))

  yp_is : get_or ys p 0 ≡ t.y p
  yp_is = S.height p hp

  yq_is : get_or ys (run_end right p m) 0 ≡ t.y q
  yq_is = rw end_is (S.height q hq)

  record Facts : Type 0 where
    xv : t'.x v ≡ t.x p + d
    yv : t'.y v ≡ new_height ys off right p m
    most : d ≤ far
    low : t.y p ≤ far + t.y q
    far_small : far + 2 ≤ 2 * limit
    yp_small : t.y p + 4 ≤ 2 * limit
    yq_small : t.y q + 4 ≤ 2 * limit

  facts : Facts
  facts =
      let o = N.one in
      let yp' = o.height p hp in
      let yq' = o.height q hq in
      let r = halves (t.x p) (t.y p) (t.x q) (t.y q) far d (new_height ys off right p m) (t'.x v) (t'.y v) far_is N.up N.down
      (rw (yp_is, yq_is) refl) (rw (yp_is, yq_is) refl) (omega (arith, o.exact_x, o.left_stays, o.right_moves))
      (omega (arith, o.exact_y, o.left_stays, o.right_moves)) in
      record {
        xv = r.0;
        yv = r.1;
        most = r.2;
        low = r.3;
        far_small = omega (arith, far_is, N.within q hq);
        yp_small = omega (arith, N.within p hp);
        yq_small = omega (arith, N.within q hq);
      }

  inner_below : (k : ℕ) → n ≤ k → Below k (inner_at right p m)
  inner_below k h = rw inner_is (below_all k M (λ a i. omega (arith, names a (on_in a i))))

  pub over_ready : Ready v p m ys off cover left right
  over_ready =
      let F = facts in
      record {
        spans =
            record {
              two = omega arith;
              p_ys = omega (arith, names p hp, W.of_ys);
              q_ys = rw end_is (omega (arith, names q hq, W.of_ys));
              run_right = rw (path_but_last right p M q m em rights)
                  (below_all (length right) (p ∷ M) (λ a i. omega (arith, names a (on_run a (in_left a (p ∷ M) (q ∷ []) i)), W.of_right)));
              run_off = rw (path_but_first right p M q m em rights)
                  (below_all (length off) (M ++ q ∷ []) (λ a i. omega (arith, names a (on_run a (inr i)), W.of_off)));
              far_fits = omega (arith, F, yp_is, yq_is);
              low = omega (arith, F.low, yp_is, yq_is);
            };
        p_right = omega (arith, names p hp, W.of_right);
        q_off = rw end_is (omega (arith, names q hq, W.of_off));
        q_left = rw end_is (omega (arith, names q hq, W.of_left));
        v_ys = omega (arith, W.of_ys);
        v_off = omega (arith, W.of_off);
        v_cover = omega (arith, W.of_cover);
        v_left = omega (arith, W.of_left);
        v_right = omega (arith, W.of_right);
        in_right = inner_below (length right) W.of_right;
        in_off = inner_below (length off) W.of_off;
        in_cover = inner_below (length cover) W.of_cover;
        off_fits = omega (arith, F.most, F.far_small);
        off_far = F.most;
        fits = rw inner_is (fits_list t.x (t.x p) d (2 * limit) (omega arith) off p 1 M once_in apart_in (omega arith)
            (λ a i. omega (arith, N.within a (on_in a i))));
      }

  -- ---- the arrays after it
  module _ (ys' off' cover' left' right' : List ℕ) (O : Over v p m ys off cover left right ys' off' cover' left' right') where
    abbrev H : List ℕ
    H = hung off M 1 d

    off_is : off' ≡ set (set H v d) q (far - d)
    off_is = O.off_is ∙ rw (inner_is, end_is) refl

    cover_is : cover' ≡ set (covered cover M v) v v
    cover_is = O.cover_is ∙ rw inner_is refl

    left_is : left' ≡ set (set left v p) q v
    left_is = O.left_is ∙ rw end_is refl

    right_is : right' ≡ set (set right p v) v q
    right_is = O.right_is ∙ rw end_is refl

    vq : ¬ (v ≡ q)
    vq e = q_old G t v s (sym e)

    vp : ¬ (p ≡ v)
    vp = p_old G t v s

    changed : Changed t' v p M q ys off cover left right ys' off' cover' left' right'
    changed =
        let F = facts in
        let o = N.one in
        let h-off = hung_length t.x off M 1 d in
        let small : d ≤ bias = omega (arith, F.most, F.far_small) in
        let l-off : v < length H = omega (arith, W.of_off) in
        let l-cover : v < length (covered cover M v) = omega (arith, covered_length cover M v, W.of_cover) in
        record {
          ys_new = rw (O.ys_is, get_or-set_same ys v (new_height ys off right p m) 0 (omega (arith, W.of_ys))) (sym F.yv);
          ys_old = λ u a. rw O.ys_is (get_or-set_other ys v u (new_height ys off right p m) 0 a);
          off_new = let e = at_v l-off in omega (arith, F.xv, o.left_stays);
          off_right = let e = at_q (omega (arith, names q hq, W.of_off, h-off)) in omega (arith, F.xv, F.most, far_is, o.right_moves);
          off_in = λ u i.
              let e = at_old u (λ a. old u i a) (λ a. not_q u i a) in
              omega (
                arith,
                hung_at t.x (t.x p) d small off p 1 M once_in
                    (below_all (length off) M (λ a j. omega (arith, names a (on_in a j), W.of_off))) apart_in (omega arith) u i,
                N.by_one u i,
                F.xv,
              );
          off_old = λ u a b i. at_old u a b ∙ hung_off t.x off M 1 d u i;
          cover_new = rw (cover_is, get_or-set_same (covered cover M v) v v 0 l-cover) refl;
          cover_in = λ u i. rw (cover_is, get_or-set_other (covered cover M v) v u v 0 (λ a. old u i a))
              (covered_at cover M v u once_in (below_all (length cover) M (λ a j. omega (arith, names a (on_in a j), W.of_cover))) i);
          cover_old = λ u a i. rw (cover_is, get_or-set_other (covered cover M v) v u v 0 a) (covered_off cover M v u i);
          left_new = rw (left_is, get_or-set_other (set left v p) q v v 0 vq, get_or-set_same left v p 0 (omega (arith, W.of_left))) refl;
          left_right = rw (left_is, get_or-set_same (set left v p) q v 0 (omega (arith, names q hq, W.of_left, length-set left v p))) refl;
          left_old = λ u a b. rw (left_is, get_or-set_other (set left v p) q u v 0 b, get_or-set_other left v u p 0 a) refl;
          right_new = rw (right_is, get_or-set_same (set right p v) v q 0 (omega (arith, W.of_right, length-set right p v))) refl;
          right_left = rw (right_is, get_or-set_other (set right p v) v p q 0 vp, get_or-set_same right p v 0 (omega (arith, names p hp, W.of_right))) refl;
          right_old = λ u a b. rw (right_is, get_or-set_other (set right p v) v u q 0 a, get_or-set_other right p u v 0 b) refl;
        }
      where
        old : (u : ℕ) → In u M → ¬ (u ≡ v)
        old u i e = s.new (rw e at (on_in u i))

        not_q : (u : ℕ) → In u M → ¬ (u ≡ q)
        not_q u i e = (right_not G t v s K q (inl refl)).2 (rw e at i)

        at_v : v < length H → get_or off' v 0 ≡ d
        at_v h = rw (off_is, get_or-set_other (set H v d) q v (far - d) 0 vq) (get_or-set_same H v d 0 h)

        at_q : q < length H → get_or off' q 0 ≡ far - d
        at_q h = rw off_is (get_or-set_same (set H v d) q (far - d) 0 (omega (arith, length-set H v d)))

        at_old : (u : ℕ) → ¬ (u ≡ v) → ¬ (u ≡ q) → get_or off' u 0 ≡ get_or H u 0
        at_old u a b = rw (off_is, get_or-set_other (set H v d) q u (far - d) 0 b) (get_or-set_other H v u d 0 a)

    pub shown : Shows t' ys' off' cover' left' right'
    shown = shows_next G t v s K ys off cover left right ys' off' cover' left' right' S changed

    pub roomy : Room n ys' off' cover' left' right'
    roomy =
        record {
          of_ys = let e : length ys' ≡ length ys = rw O.ys_is (simp length-set) in omega (arith, W.of_ys);
          of_off = let e : length off' ≡ length off = rw off_is (simp length-set (hung_length t.x off M 1 d)) in omega (arith, W.of_off);
          of_cover = let e : length cover' ≡ length cover = rw cover_is (simp length-set (covered_length cover M v)) in omega (arith, W.of_cover);
          of_left = let e : length left' ≡ length left = rw left_is (simp length-set) in omega (arith, W.of_left);
          of_right = let e : length right' ≡ length right = rw right_is (simp length-set) in omega (arith, W.of_right);
        }
