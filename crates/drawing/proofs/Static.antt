-- The static theorem: where each post is well placed over its run, the posts' places differ and different wires meet at a shared post only.
-- By a shear, after which no two places have one column.
use Prim.Native.Nat.{ℕ, ◌+◌, ◌*◌, ◌<◌}
use mathlib.Core.Path.{◌≡◌, refl, ap, sym}
use mathlib.Core.Logic.{◌⊎◌, inl, inr}
use mathlib.Core.List.{List, [], ◌∷◌, ◌++◌}
use native.Mathlib.Nat.{mul-le-mul_left, eq_of_mul-eq-mul_left}
use native.Mathlib.Omega.{arith}
use Rattle.words.specs.Lists.{In}
use Rattle.drawing.specs.Meeting.{Point, Places, At, Same, End, NoneMeet}
use Rattle.drawing.proofs.Numbers.{by_le, by_cmp, times}
use Rattle.drawing.specs.Areas.{PositiveArea}
use Rattle.drawing.proofs.Fan.{Along, at_left, at_right}
use Rattle.words.proofs.Lists.{in_run}
use Rattle.words.proofs.Chains.{chain_in}
use Rattle.drawing.proofs.Points.{over_both}
use Rattle.drawing.proofs.Keep.{K, Common, same, shared, EndOf, begins, ends, Ground, ground, on_ground, through}
use Rattle.drawing.proofs.Insert.{Clear, Inserted, insert}
use Rattle.drawing.proofs.Build.{Build, base, post, Post, Built, Before, Good, on_contour, top}

no_turn : (xa ya xb yb xv yv : ℕ) → xb ≡ xv → yb ≡ yv → xb * ya + xv * yb + xa * yv < xa * yb + xb * yv + xv * ya → ⊥
no_turn xa ya xb yb xv yv e f t = omega (arith, times ya e, times yb e, times xb f, times xa f)

module _ (s : Places) (N : ℕ) (some : 0 < N) where
  open s use {x, y}

  abbrev sheared : Places
  sheared = record { x = λ u. N * x u + y u; y = y }

  abbrev moved : Point → Point
  moved P = record { X = N * P.X + P.Y; Y = P.Y; d = P.d; positive = P.positive }

  before : {a b : ℕ} → y a < N → Before s a b → N * x a + y a < N * x b + y b
  before {a} {b} t h =
      by_le (x b) (x a)
      (λ k. let e : x a ≡ x b = omega (arith, h.le) in omega (arith, h.tie k, ap (λ (n : ℕ). N * n) e))
      (λ k. omega (arith, mul-le-mul_left N k))

  turn : (a b c : ℕ) → PositiveArea s a b c → PositiveArea sheared a b c
  turn a b c h = omega (arith, mul-le-mul_left N h)

  on : {a b : ℕ} {P : Point} → Along s a b P → Along sheared a b (moved P)
  on o = record { i = o.i; j = o.j; sum = o.sum; is_x = omega (arith, ap (λ (n : ℕ). N * n) o.is_x, o.is_y); is_y = o.is_y }

  at_post : {z : ℕ} {P : Point} → At sheared z (moved P) → At s z P
  at_post {z} {P} h = record { is_x = eq_of_mul-eq-mul_left N some P.X (P.d * x z) (omega (arith, h)); is_y = h.is_y }

  -- one column after the shear is one place
  column : (a b : ℕ) → y a < N → y b < N → N * x a + y a ≡ N * x b + y b → y a ≡ y b
  column a b i j e =
      by_cmp (x a) (x b) (λ h. absurd (omega (arith, mul-le-mul_left N h))) (λ h. omega (arith, ap (λ (n : ℕ). N * n) h))
      (λ h. absurd (omega (arith, mul-le-mul_left N h)))

  clear : (v a b : ℕ) → y b < N → y v < N → PositiveArea s a b v → Clear sheared v a b
  clear v a b i j t =
      record {
        turn = turn a b v t;
        off = λ e. no_turn (N * x a + y a) (y a) (N * x b + y b) (y b) (N * x v + y v) (y v) e (column b v i j e) (turn a b v t);
      }

  record Traced {C : List ℕ} (B : Build C) : Type 1 where
    E : ℕ → ℕ → Type 0
    k : K sheared E C
    wire : (u w : ℕ) → Built B u w → E u w ⊎ E w u
    placed : (u : ℕ) → Post B u → EndOf E u

  -- with the wires of a new post v
  grown : (L : List ℕ) (p : ℕ) (M : List ℕ) (q : ℕ) (R : List ℕ) (v : ℕ) (B : Build (L ++ p ∷ (M ++ q ∷ R))) (D : Traced B)
      → Inserted sheared D.E v (p ∷ (M ++ q ∷ [])) (L ++ p ∷ v ∷ q ∷ R) → Traced (post L p M q R v B)
  grown L p M q R v B D r = record { E = r.E'; k = r.k; wire = wire; placed = placed }
    where
      wire : (u w : ℕ) → ((u ≡ v) × In w (p ∷ (M ++ q ∷ []))) ⊎ Built B u w → r.E' u w ⊎ r.E' w u
      wire u w (inl h) = rw h.0 (r.joined w h.1)
      wire u w (inr h) = elim (D.wire u w h) [ inl e ↦ inl (r.old u w e) | inr e ↦ inr (r.old w u e) ]

      placed : (u : ℕ) → (u ≡ v) ⊎ Post B u → EndOf r.E' u
      placed u (inl e) = rw e (elim (r.joined p (inl refl)) [ inl j ↦ begins j | inr j ↦ ends j ])
      placed u (inr h) = elim (D.placed u h) [ begins e ↦ begins (r.old _ _ e) | ends e ↦ ends (r.old _ _ e) ]

  traced : {C : List ℕ} (B : Build C) → Good s B → ((u : ℕ) → Post B u → y u < N) → Traced B
  traced (base a b) g tall =
      record {
        E = Ground a b;
        k = on_ground sheared a b (before (tall a (inl refl)) g);
        wire = λ u w h. inl (rw (h.0, h.1) ground);
        placed = λ u. elim [ inl e ↦ rw e (begins ground) | inr e ↦ rw e (ends ground) ];
      }
  traced (post L p M q R v B) g tall =
      let D = traced B g.1 (λ u h. tall u (inr h)) in
      grown L p M q R v B D
      (insert sheared v q R D.E L p M D.k (before (run p (inl refl)) g.0.left) (before (tall v (inl refl)) g.0.right)
      (chain_in (p ∷ (M ++ q ∷ [])) (λ a b i j t. clear v a b (run b j) (tall v (inl refl)) t) g.0.over))
    where
      run : (u : ℕ) → In u (p ∷ (M ++ q ∷ [])) → y u < N
      run u i = tall u (inr (on_contour B u (in_run u L p M q R i)))

  module _ {C : List ℕ} (B : Build C) (D : Traced B) where
    turn_over : {a b : ℕ} {P : Point} → Along s a b P → Along s b a P
    turn_over o = record { i = o.j; j = o.i; sum = omega (arith, o.sum); is_x = omega (arith, o.is_x); is_y = omega (arith, o.is_y) }

    either_way : (u w : ℕ) → Built B u w ⊎ Built B w u → D.E u w ⊎ D.E w u
    either_way u w (inl h) = D.wire u w h
    either_way u w (inr h) = elim (D.wire w u h) [ inl e ↦ inr e | inr e ↦ inl e ]

    -- different wires meet at a shared post only
    meets_here : (a b c e : ℕ) → Built B a b ⊎ Built B b a → Built B c e ⊎ Built B e c → ¬ (Same a b c e) → {P : Point} → Along s a b P → Along s c e P
        → (z : ℕ) × End z a b × End z c e × At s z P
    meets_here a b c e h i n {P} o p = go (either_way a b h) (either_way c e i)
      where
        other : {k l z : ℕ} → End z k l → End z l k
        other (inl q) = inr q
        other (inr q) = inl q

        m : {k l t u : ℕ} → D.E k l → D.E t u → Along s k l P → Along s t u P → Common sheared k l t u (moved P)
        m f g o p = D.k.wires.meet f g (on o) (on p)

        go : D.E a b ⊎ D.E b a → D.E c e ⊎ D.E e c → (z : ℕ) × End z a b × End z c e × At s z P
        go (inl f) (inl g) = elim (m f g o p) [ same q r ↦ absurd (n (inl (q, r))) | shared z q r t ↦ (z, q, r, at_post t) ]
        go (inl f) (inr g) = elim (m f g o (turn_over p)) [ same q r ↦ absurd (n (inr (q, r))) | shared z q r t ↦ (z, q, other r, at_post t) ]
        go (inr f) (inl g) = elim (m f g (turn_over o) p) [ same q r ↦ absurd (n (inr (r, q))) | shared z q r t ↦ (z, other q, r, at_post t) ]
        go (inr f) (inr g) = elim (m f g (turn_over o) (turn_over p)) [ same q r ↦ absurd (n (inl (r, q))) | shared z q r t ↦ (z, other q, other r, at_post t) ]

    -- different posts have different places
    distinct_here : (u w : ℕ) → Post B u → Post B w → x u ≡ x w → y u ≡ y w → u ≡ w
    distinct_here u w h i ex ey = go (D.placed u h) (D.placed w i)
      where
        P : Point
        P = record { X = N * x u + y u; Y = y u; d = 1; positive = omega arith }

        at_u : At sheared u P
        at_u = omega arith

        at_w : At sheared w P
        at_w = omega (arith, ap (λ (n : ℕ). N * n) ex)

        one_column : (t : ℕ) → w ≡ t → N * x u + y u ≡ N * x t + y t
        one_column t a = omega (arith, ap (λ (n : ℕ). N * n) ex, ap (λ (n : ℕ). N * x n) a, ap y a)

        go : EndOf D.E u → EndOf D.E w → u ≡ w
        go (begins {t} e) f =
            elim (through sheared D.k.wires f e (at_left sheared at_u) at_w)
            [ inl a ↦ sym a | inr a ↦ absurd (omega (arith, D.k.wires.right e, one_column t a)) ]
        go (ends {t} e) f =
            elim (through sheared D.k.wires f e (at_right sheared at_u) at_w)
            [ inl a ↦ absurd (omega (arith, D.k.wires.right e, one_column t a)) | inr a ↦ sym a ]

-- ---- the theorem
module _ (s : Places) {C : List ℕ} (B : Build C) (g : Good s B) where
  pub none_meet : NoneMeet s (λ a b. Built B a b ⊎ Built B b a)
  none_meet a b c e h i n m =
      let t = top s B in
      let D = traced s t.n t.some B g t.tall in
      let q = over_both s m.1 m.2 in
      let r = meets_here s t.n t.some B D a b c e h i n q.first q.second in
      (r.0, r.1, r.2, q.back r.3)

  pub different : (u w : ℕ) → Post B u → Post B w → s.x u ≡ s.x w → s.y u ≡ s.y w → u ≡ w
  different = let t = top s B in distinct_here s t.n t.some B (traced s t.n t.some B g t.tall)
