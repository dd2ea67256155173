-- Wires and corners, counted: a post adds as many wires more than corners to the posts of a list as its ring leaves them.
use mathlib.Core.Path.{◌≡◌, refl, sym, ap, ◌∙◌, subst, subst⁻¹}
use mathlib.Core.Logic.{inl, inr}
use mathlib.Core.List.{List, [], ◌∷◌, ◌++◌, map}
use Prim.Native.Nat.{ℕ, zero, suc, ◌+◌, ◌*◌, ◌≤◌, ◌<◌}
use native.Mathlib.Omega.{arith}
use lib.ListN.{length, take}
use lib.Seq.{take-length}
use Rattle.words.specs.Numbers.{sum_of}
use Rattle.words.specs.Lists.{In}
use Rattle.words.proofs.Lists.{Once, in_left, in_right, in_cases, in_dec, cut_at, once_without, all_there, filled}
use Rattle.rings.specs.Rings.{ring, around}
use Rattle.rings.proofs.Around.{After, around_in, around_next}
use Rattle.rings.proofs.Says.{Faces, entry_below, entry_other, entry_returned, ring_once}
use Rattle.order.proofs.Contour.{Rings}
use Rattle.order.proofs.NewRun.{rings}
use Rattle.growth.proofs.Sums.{flag, flag_yes, flag_no, flag_same, sum, sum_same, sum_zero, sum_hit, sum_one_off, sum_cut, darts, corners}
use Rattle.growth.proofs.Sums.{corners_at, darts_more, corners_more}
use Rattle.growth.proofs.Walks.{adj_dec}

-- the posts of a list: each a post, and each once
pub record Chosen (n : ℕ) (S : List ℕ) : Type 0 where
  pub once : Once S
  pub small : (a : ℕ) → In a S → a < n

-- ---- the degrees
sum_members : (r S : List ℕ) → Once r → Once S → ((a : ℕ) → In a r → In a S)
    → sum (λ a. flag (in_dec a r)) S ≡ length r
sum_members [] S o q h = sum_zero (λ a. flag (in_dec a [])) S (λ a i. flag_no (in_dec a []) (λ j. j))
sum_members (x ∷ r) S o q h =
    sum_one_off (λ a. flag (in_dec a (x ∷ r))) (λ a. flag (in_dec a r)) S x q (h x (inl refl))
    (flag_yes (in_dec x (x ∷ r)) (inl refl) ∙ ap suc (sym (flag_no (in_dec x r) o.0)))
    (λ a i ne. flag_same (in_dec a (x ∷ r)) (in_dec a r) (elim [ inl e ↦ absurd (ne e) | inr j ↦ j ]) inr)
    ∙ ap suc (sum_members r S o.1 q (λ a i. h a (inr i)))

sum_taken : (G : List (List ℕ)) (n : ℕ) → n < length G
    → sum_of (map length (take (suc n) G)) ≡ length (ring G n) + sum_of (map length (take n G))
unfolding sum_of
sum_taken [] n h = absurd (omega arith)
sum_taken (x ∷ G) zero h = refl
sum_taken (x ∷ G) (suc n) h = omega (arith, sum_taken G n (omega arith))

-- over any list of the posts below n, the degrees sum to the lengths of the first n rings
abbrev degree : List (List ℕ) → ℕ → ℕ
degree G u = length (ring G u)

abbrev Degrees : List (List ℕ) → ℕ → Type 0
Degrees G n = (S : List ℕ) → Once S → ((a : ℕ) → In a S → a < n) → ((a : ℕ) → a < n → In a S)
    → sum (degree G) S ≡ sum_of (map length (take n G))

sum_degrees : (G : List (List ℕ)) (n : ℕ) → n ≤ length G → Degrees G n
unfolding sum_of sum
sum_degrees G zero l [] o h k = refl
sum_degrees G zero l (x ∷ S) o h k = absurd (let b = h x (inl refl) in omega arith)
sum_degrees G (suc n) l S o h k = go (cut_at n S (k n (omega arith))) (sum_degrees G n (omega arith))
  where
    go : (X Y : List ℕ) × (S ≡ X ++ n ∷ Y) → Degrees G n → sum (degree G) S ≡ sum_of (map length (take (suc n) G))
    go (X, Y, e) r =
        omega (arith, ap (sum (degree G)) e, sum_cut (degree G) X n Y, r (X ++ Y) w.0 below there, sum_taken G n (omega arith))
      where
        w : Once (X ++ Y) × ¬ (In n (X ++ Y))
        w = once_without n X Y (subst Once e o)

        below : (a : ℕ) → In a (X ++ Y) → a < n
        below a i =
            let ne : ¬ (a ≡ n) = λ e. w.1 (rw e at i) in
            let j = in_cases a X Y (in_left a X (n ∷ Y)) (λ j. in_right a X (n ∷ Y) (inr j)) i in
            omega (arith, ne, h a (subst⁻¹ (In a) e j))

        there : (a : ℕ) → a < n → In a (X ++ Y)
        there a l =
            in_cases a X (n ∷ Y) (in_left a X Y) (elim [ inl e ↦ absurd (omega arith) | inr i ↦ in_right a X Y i ])
            (subst (In a) e (k a (omega arith)))

-- ---- wires and corners among the posts of a list
module _ (G : List (List ℕ)) (A : Faces G) where
  -- a is a neighbour of u; b follows a at u
  abbrev pub w : ℕ → ℕ → ℕ
  w u a = flag (in_dec a (ring G u))

  abbrev pub t : ℕ → ℕ → ℕ → ℕ
  t u a b = flag (adj_dec (around (ring G u)) a b)

  -- darts and corners among the posts of S
  abbrev pub darts_in : List ℕ → ℕ
  darts_in = darts w t

  abbrev pub corners_in : List ℕ → ℕ
  corners_in = corners w t

  abbrev R : Rings (After G)
  R = rings G A

  w_sym : (u v : ℕ) → w u v ≡ w v u
  w_sym u v = flag_same (in_dec v (ring G u)) (in_dec u (ring G v)) (entry_returned G A u v) (entry_returned G A v u)

  w_self : (u : ℕ) → w u u ≡ 0
  w_self u = flag_no (in_dec u (ring G u)) (λ i. entry_other G A u u i refl)

  t_turn : (u a b : ℕ) → t u a b ≡ t a b u
  t_turn u a b =
      flag_same (adj_dec (around (ring G u)) a b) (adj_dec (around (ring G a)) b u) (A.triangle u a b)
      (λ f. A.triangle b u a (A.triangle a b u f))

  t_no : (u a b : ℕ) → ¬ (After G u a b) → t u a b ≡ 0
  t_no u a b = flag_no (adj_dec (around (ring G u)) a b)

  t_self : (u b : ℕ) → t u u b ≡ 0
  t_self u b = t_no u u b (R.self u b)

  pub D_more : (z : ℕ) (S : List ℕ) → darts_in (z ∷ S) ≡ darts_in S + 2 * sum (w z) S
  D_more = darts_more w t w_sym w_self t_turn t_self

  pub C_more : (z : ℕ) (S : List ℕ) → corners_in (z ∷ S) ≡ corners_in S + 3 * corners_at w t z S
  C_more = corners_more w t w_sym w_self t_turn t_self

  -- what a placed entry a of z's ring counts: the corner after it, or none where the next waits
  module _ (z : ℕ) (S : List ℕ) (o : Once S) where
    hit : (a b : ℕ) → After G z a b → In b S → w z a ≡ sum (t z a) S
    hit a b f i =
        let s = sum_hit (t z a) S b o i (flag_yes (adj_dec (around (ring G z)) a b) f) (λ c j ne. t_no z a c (λ g. ne (R.next_one z a c b g f))) in
        flag_yes (in_dec a (ring G z)) (around_in (ring G z) a b f).0 ∙ sym s

    pub leaves : (a b : ℕ) → After G z a b → ¬ (In b S) → w z a ≡ suc (sum (t z a) S)
    leaves a b f m =
        let e = flag_yes (in_dec a (ring G z)) (around_in (ring G z) a b f).0 in
        let s = sum_zero (t z a) S (λ c j. t_no z a c (λ g. m (subst (λ (r : ℕ). In r S) (R.next_one z a c b g f) j))) in
        omega arith

    pub off : (a : ℕ) → ¬ (In a (ring G z)) → w z a ≡ sum (t z a) S
    off a m =
        flag_no (in_dec a (ring G z)) m ∙ sym (sum_zero (t z a) S (λ c j. t_no z a c (λ g. m (around_in (ring G z) a c g).0)))

    -- the entries towards which z's ring leaves S
    abbrev Out : List ℕ → List ℕ → Type 0
    Out A l = (a b : ℕ) → In a A → After G z a b → ¬ (In b S) → In b l

    -- as many as the e wires are more than the c corners
    abbrev Exits : List ℕ → ℕ → ℕ → Type 0
    Exits A c e = (l : List ℕ) × (length l + c ≡ e) × Out A l

    one_more : (x : ℕ) (A : List ℕ) (c e : ℕ) → Exits A c e → Exits (x ∷ A) (sum (t z x) S + c) (w z x + e)
    one_more x A c e r = go (in_dec x (ring G z))
      where
        go : Dec (In x (ring G z)) → Exits (x ∷ A) (sum (t z x) S + c) (w z x + e)
        go (no m) = (
          r.0,
          omega (arith, r.1, off x m),
          λ a b. elim [ inl e ↦ (λ f. absurd (m (around_in (ring G z) x b (rw e at f)).0)) | inr i ↦ r.2 a b i ],
        )
        go (yes j) = next (around_next (ring G z) x j)
          where
            next : (y : ℕ) × After G z x y → Exits (x ∷ A) (sum (t z x) S + c) (w z x + e)
            next (y, g) = either (in_dec y S)
              where
                is_y_lem : (a b : ℕ) → a ≡ x → After G z a b → b ≡ y
                is_y_lem a b e f = R.next_one z x b y (rw e at f) g

                either : Dec (In y S) → Exits (x ∷ A) (sum (t z x) S + c) (w z x + e)
                either (yes i) = (
                  r.0,
                  omega (arith, r.1, hit x y g i),
                  λ a b. elim [ inl e ↦ (λ f m. absurd (m (rw (is_y_lem a b e f) i))) | inr i ↦ r.2 a b i ],
                )
                either (no m) = (
                  y ∷ r.0,
                  omega (arith, r.1, leaves x y g m),
                  λ a b. elim [ inl e ↦ (λ f k. inl (is_y_lem a b e f)) | inr i ↦ (λ f k. inr (r.2 a b i f k)) ],
                )

    pub towards : (A : List ℕ) → (l : List ℕ) × (length l + sum (λ a. sum (t z a) S) A ≡ sum (w z) A) × Out A l
    unfolding sum
    towards [] = ([], refl, λ a b h. absurd h)
    towards (x ∷ A) = one_more x A _ _ (towards A)

    -- how many wires more than corners z adds to S: as many as its ring leaves S
    pub least : corners_at w t z S ≤ sum (w z) S
    unfolding corners_at
    least = let r = towards S in omega (arith, r.1)

    pub leaves_once : (a b : ℕ) → In a S → After G z a b → ¬ (In b S) → corners_at w t z S < sum (w z) S
    unfolding corners_at
    leaves_once a b i f m = let r = towards S in omega (arith, r.1, filled r.0 b (r.2 a b i f m))

    pub leaves_most : sum (w z) S ≤ suc (corners_at w t z S)
        → (a b a' b' : ℕ) → In a S → After G z a b → ¬ (In b S) → In a' S → After G z a' b' → ¬ (In b' S) → b ≡ b'
    unfolding corners_at
    leaves_most h a b a' b' i f m i' f' m' =
        let r = towards S in one r.0 (omega (arith, r.1, h)) (r.2 a b i f m) (r.2 a' b' i' f' m')
      where
        one : (l : List ℕ) → length l ≤ 1 → In b l → In b' l → b ≡ b'
        one [] h i j = absurd i
        one (x ∷ []) h (inl e) (inl e') = e ∙ sym e'
        one (x ∷ []) h (inr i) j = absurd i
        one (x ∷ []) h (inl e) (inr j) = absurd j
        one (x ∷ y ∷ l) h i j = absurd (omega arith)

  -- ---- all posts
  module _ (S : List ℕ) (P : Chosen (length G) S) (k : length G ≤ length S) where
    every : (a : ℕ) → a < length G → In a S
    every = all_there (length G) S P.once P.small k

    -- each wire has its corner
    pub total_corners : corners_in S ≡ darts_in S
    unfolding corners darts
    total_corners = sym (sum_same _ _ S (λ u i. sum_same (w u) (λ a. sum (t u a) S) S (λ a j. go u a (in_dec a (ring G u)))))
      where
        go : (u a : ℕ) → Dec (In a (ring G u)) → w u a ≡ sum (t u a) S
        go u a (no m) = off u S P.once a m
        go u a (yes i) =
            let t = around_next (ring G u) a i in
            let y = t.0 in
            hit u S P.once a y t.1 (every y (entry_below G A u y (around_in (ring G u) a y t.1).1))

    pub total_darts : darts_in S ≡ sum_of (map length G)
    unfolding darts
    total_darts =
        sum_same _ (degree G) S all_of
        ∙ sum_degrees G (length G) (omega arith) S P.once P.small every
        ∙ ap (λ (l : List (List ℕ)). sum_of (map length l)) (take-length G)
      where
        all_of : (u : ℕ) → In u S → sum (w u) S ≡ degree G u
        all_of u i = sum_members (ring G u) S (ring_once G A u (P.small u i)) P.once (λ a h. every a (entry_below G A u a h))
