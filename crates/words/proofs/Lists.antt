-- Lists of names: membership, neighbours in a list, and a stretch of a list.
use Rattle.std.proofs.Common.{◌≡◌, ℕ, zero, suc, ◌-◌, ◌<◌, ◌≤◌, List, [], ◌∷◌, ◌++◌, length, get_or, sym, refl, ap, ◌∙◌, subst, inl, inr}
use Rattle.std.proofs.Common.{append_assoc, arith, length-append}
use native.Mathlib.Decide.{ℕ_discrete}
use Rattle.words.specs.Lists.{In, Head, Adj, last_of}

-- no name stands twice
abbrev pub Once : List ℕ → Type 0
Once [] = Unit {0}
Once (x ∷ l) = ¬ (In x l) × Once l

-- the first of a list does not depend on what stands after an entry of it
pub head_same : (b : ℕ) (X : List ℕ) (p : ℕ) (Z Z' : List ℕ) → Head (X ++ p ∷ Z) b → Head (X ++ p ∷ Z') b
head_same b [] p Z Z' h = h
head_same b (x ∷ X) p Z Z' h = h

module _ (a : ℕ) where
  pub in_left : (X Z : List ℕ) → In a X → In a (X ++ Z)
  in_left [] Z h = absurd h
  in_left (x ∷ X) Z (inl e) = inl e
  in_left (x ∷ X) Z (inr h) = inr (in_left X Z h)

  pub in_right : (X Z : List ℕ) → In a Z → In a (X ++ Z)
  in_right [] Z h = h
  in_right (x ∷ X) Z h = inr (in_right X Z h)

  pub in_cases : {C : Type 0} (X Z : List ℕ) → (In a X → C) → (In a Z → C) → In a (X ++ Z) → C
  in_cases [] Z f g h = g h
  in_cases (x ∷ X) Z f g (inl e) = f (inl e)
  in_cases (x ∷ X) Z f g (inr h) = in_cases X Z (λ i. f (inr i)) g h

  pub in_head : (l : List ℕ) → Head l a → In a l
  in_head [] h = absurd h
  in_head (x ∷ l) h = inl (sym h)

  -- a list is cut before each of its members
  pub cut_at : (l : List ℕ) → In a l → (X Z : List ℕ) × (l ≡ X ++ a ∷ Z)
  cut_at [] h = absurd h
  cut_at (x ∷ l) (inl e) = ([], l, rw e)
  cut_at (x ∷ l) (inr h) = let t = cut_at l h in (x ∷ t.0, t.1, ap (λ (r : List ℕ). x ∷ r) t.2)

pub filled : (l : List ℕ) (a : ℕ) → In a l → 0 < length l
filled [] a h = absurd h
filled (x ∷ l) a h = omega arith

-- a stretch p, M, q of a list has members of the list
pub in_run : (u : ℕ) (L : List ℕ) (p : ℕ) (M : List ℕ) (q : ℕ) (R : List ℕ) → In u (p ∷ (M ++ q ∷ [])) → In u (L ++ p ∷ (M ++ q ∷ R))
in_run u L p M q R (inl e) = in_right u L _ (inl e)
in_run u L p M q R (inr h) = in_right u L _ (inr (in_cases u M (q ∷ []) (in_left u M (q ∷ R)) last h))
  where
    last : In u (q ∷ []) → In u (M ++ q ∷ R)
    last (inl e) = in_right u M (q ∷ R) (inl e)
    last (inr i) = absurd i

module _ (a b : ℕ) where
  pub adj_in_left : (l : List ℕ) → Adj l a b → In a l
  adj_in_left [] h = absurd h
  adj_in_left (x ∷ l) (inl h) = inl (sym h.0)
  adj_in_left (x ∷ l) (inr h) = inr (adj_in_left l h)

  pub adj_in_right : (l : List ℕ) → Adj l a b → In b l
  adj_in_right [] h = absurd h
  adj_in_right (x ∷ l) (inl h) = inr (in_head b l h.1)
  adj_in_right (x ∷ l) (inr h) = inr (adj_in_right l h)

  pub adj_right : (X Z : List ℕ) → Adj Z a b → Adj (X ++ Z) a b
  adj_right [] Z h = h
  adj_right (x ∷ X) Z h = inr (adj_right X Z h)

  pub adj_left : (X : List ℕ) (p : ℕ) (Z : List ℕ) → Adj (X ++ p ∷ []) a b → Adj (X ++ p ∷ Z) a b
  adj_left [] p Z (inl h) = absurd h.1
  adj_left [] p Z (inr h) = absurd h
  adj_left (x ∷ X) p Z (inl h) = inl (h.0, head_same b X p [] Z h.1)
  adj_left (x ∷ X) p Z (inr h) = inr (adj_left X p Z h)

  pub adj_more : (l : List ℕ) (z : ℕ) → Adj l a b → Adj (l ++ z ∷ []) a b
  adj_more [] z h = absurd h
  adj_more (x ∷ []) z (inl h) = absurd h.1
  adj_more (x ∷ []) z (inr h) = absurd h
  adj_more (x ∷ y ∷ l) z (inl h) = inl h
  adj_more (x ∷ y ∷ l) z (inr h) = inr (adj_more (y ∷ l) z h)

  -- neighbours in a list that is cut at p (and p stays in both parts)
  pub adj_cases : {C : Type 0} (X : List ℕ) (p : ℕ) (Z : List ℕ) → (Adj (X ++ p ∷ []) a b → C) → (Adj (p ∷ Z) a b → C) → Adj (X ++ p ∷ Z) a b → C
  adj_cases [] p Z f g h = g h
  adj_cases (x ∷ X) p Z f g (inl h) = f (inl (h.0, head_same b X p Z [] h.1))
  adj_cases (x ∷ X) p Z f g (inr h) = adj_cases X p Z (λ i. f (inr i)) g h

  -- a name that stands once has one right neighbour
  pub once_next : (X Z : List ℕ) → Once (X ++ a ∷ Z) → Adj (X ++ a ∷ Z) a b → Head Z b
  once_next [] Z o (inl h) = h.1
  once_next [] Z o (inr h) = absurd (o.0 (adj_in_left Z h))
  once_next (x ∷ X) Z o (inl h) = absurd (o.0 (rw h.0 (in_right a X (a ∷ Z) (inl refl))))
  once_next (x ∷ X) Z o (inr h) = once_next X Z o.1 h

-- side by side in the closed turn of a run, but not in the run: they are its ends
pub turn_closes : (p : ℕ) (M : List ℕ) (q a b : ℕ) → ¬ (Adj (p ∷ (M ++ q ∷ [])) a b) → Adj (p ∷ (M ++ q ∷ p ∷ [])) a b → (p ≡ b) × (q ≡ a)
turn_closes p M q a b cut =
    adj_cases a b (p ∷ M) q (p ∷ []) (λ i. absurd (cut i)) (elim [ inl e ↦ (e.1, e.0) | inr i ↦ absurd (elim i [ inl e ↦ e.1 | inr z ↦ z ]) ])

-- a list whose neighbours are neighbours in W, where nobody stands twice, is a stretch of W
pub stretch : (W : List ℕ) → Once W → (M X : List ℕ) (p : ℕ) (Z : List ℕ) → W ≡ X ++ p ∷ Z → ((a b : ℕ) → Adj (p ∷ M) a b → Adj W a b)
    → (Y : List ℕ) × (Z ≡ M ++ Y)
stretch W o [] X p Z e h = (Z, refl)
stretch W o (m ∷ M) X p Z e h = go (stretch W o M) Z e (once_next p m X Z (rw e at o) (rw e at (h p m (inl (refl, refl)))))
  where
    go : ((X : List ℕ) (p : ℕ) (Z : List ℕ) → W ≡ X ++ p ∷ Z → ((a b : ℕ) → Adj (p ∷ M) a b → Adj W a b) → (Y : List ℕ) × (Z ≡ M ++ Y))
        → (Z : List ℕ) → W ≡ X ++ p ∷ Z → Head Z m → (Y : List ℕ) × (Z ≡ m ∷ M ++ Y)
    go rest [] e z = absurd z
    go rest (y ∷ Z) e z =
        let t = rest (X ++ p ∷ []) m Z (rw append_assoc (rw z at e)) (λ a b i. h a b (inr i)) in
        (t.0, cc (z, t.1))

pub head_one : (l : List ℕ) (a b : ℕ) → Head l a → Head l b → a ≡ b
head_one [] a b h i = absurd h
head_one (x ∷ l) a b h i = cc (h, i)

pub head_is : (X : List ℕ) (q : ℕ) (Z : List ℕ) → (m : ℕ) × Head (X ++ q ∷ Z) m
head_is [] q Z = (q, refl)
head_is (x ∷ X) q Z = (x, refl)

pub once_drop : (X Z : List ℕ) → Once (X ++ Z) → Once Z
once_drop [] Z o = o
once_drop (x ∷ X) Z o = once_drop X Z o.1

-- v put in the place of M, between p and q
module _ (p v q : ℕ) (M Y : List ℕ) where
  pub swap_in : (a : ℕ) {C : Type 0} (X : List ℕ) → (a ≡ v → C) → (In a (X ++ p ∷ (M ++ q ∷ Y)) → C) → In a (X ++ p ∷ v ∷ q ∷ Y) → C
  swap_in a [] f g (inl e) = g (inl e)
  swap_in a [] f g (inr (inl e)) = f e
  swap_in a [] f g (inr (inr h)) = g (inr (in_right a M (q ∷ Y) h))
  swap_in a (x ∷ X) f g (inl e) = g (inl e)
  swap_in a (x ∷ X) f g (inr h) = swap_in a X f (λ i. g (inr i)) h

  pub swap_once : (X : List ℕ) → ¬ (In v (X ++ p ∷ (M ++ q ∷ Y))) → Once (X ++ p ∷ (M ++ q ∷ Y)) → Once (X ++ p ∷ v ∷ q ∷ Y)
  swap_once [] n o = (
    elim [ inl e ↦ n (inl (sym e)) | inr h ↦ o.0 (in_right p M (q ∷ Y) h) ],
    (λ h. n (inr (in_right v M (q ∷ Y) h)), once_drop M (q ∷ Y) o.1),
  )
  swap_once (x ∷ X) n o = (swap_in x X (λ e. n (inl (sym e))) o.0, swap_once X (λ h. n (inr h)) o.1)

pub last_append : (x : ℕ) (X : List ℕ) (q : ℕ) (Y : List ℕ) → last_of x (X ++ q ∷ Y) ≡ last_of q Y
last_append x [] q Y = refl
last_append x (y ∷ X) q Y = last_append y X q Y

pub last_at : (x : ℕ) (l : List ℕ) → 0 < length l → last_of x l ≡ get_or l (length l - 1) 0
last_at x [] h = absurd (omega arith)
last_at x (y ∷ []) h = refl
last_at x (y ∷ z ∷ l) h = let e : length (y ∷ z ∷ l) - 1 ≡ suc (length (z ∷ l) - 1) = omega arith in rw e (last_at y (z ∷ l) (omega arith))

-- somebody stands before the last
pub before_last : (p : ℕ) (M : List ℕ) (q : ℕ) → (m : ℕ) × Adj (p ∷ (M ++ q ∷ [])) m q
before_last p [] q = (p, inl (refl, refl))
before_last p (m ∷ M) q = let t = before_last m M q in (t.0, inr t.1)

-- ---- a ring: a list with its first entry written again at its end
module _ (a b : ℕ) where
  pub adj_init : (l : List ℕ) (z : ℕ) → Adj (l ++ z ∷ []) a b → In a l
  adj_init [] z (inl h) = absurd h.1
  adj_init [] z (inr h) = absurd h
  adj_init (x ∷ l) z (inl h) = inl (sym h.0)
  adj_init (x ∷ l) z (inr h) = inr (adj_init l z h)

  pub adj_tail : (x : ℕ) (l : List ℕ) → Adj (x ∷ l) a b → In b l
  adj_tail x l (inl h) = in_head b l h.1
  adj_tail x l (inr h) = adj_in_right a b l h

pub adj_one : (a b c : ℕ) (l : List ℕ) (z : ℕ) → Once l → Adj (l ++ z ∷ []) a b → Adj (l ++ z ∷ []) a c → b ≡ c
adj_one a b c [] z o (inl h) i = absurd h.1
adj_one a b c [] z o (inr h) i = absurd h
adj_one a b c (x ∷ l) z o (inl h) (inl i) = head_one (l ++ z ∷ []) b c h.1 i.1
adj_one a b c (x ∷ l) z o (inl h) (inr i) = absurd (o.0 (rw h.0 (adj_init a c l z i)))
adj_one a b c (x ∷ l) z o (inr h) (inl i) = absurd (o.0 (rw i.0 (adj_init a b l z h)))
adj_one a b c (x ∷ l) z o (inr h) (inr i) = adj_one a b c l z o.1 h i

pub adj_next : (a : ℕ) (l : List ℕ) (z : ℕ) → In a l → (b : ℕ) × Adj (l ++ z ∷ []) a b
adj_next a [] z h = absurd h
adj_next a (x ∷ l) z (inl e) = let t = head_is l z [] in (t.0, inl (sym e, t.1))
adj_next a (x ∷ l) z (inr h) = let t = adj_next a l z h in (t.0, inr t.1)

-- a ring may be read from any place on
pub adj_turn : (a b x : ℕ) (X : List ℕ) (y : ℕ) (Y : List ℕ) → Adj (x ∷ (X ++ y ∷ (Y ++ x ∷ []))) a b → Adj (y ∷ (Y ++ x ∷ (X ++ y ∷ []))) a b
adj_turn a b x X y Y = adj_cases a b (x ∷ X) y (Y ++ x ∷ []) (adj_right a b (y ∷ Y) (x ∷ (X ++ y ∷ []))) (adj_left a b (y ∷ Y) x (X ++ y ∷ []))

-- ---- names below n: as many as n different ones are all of them
pub once_without : (a : ℕ) (X Y : List ℕ) → Once (X ++ a ∷ Y) → Once (X ++ Y) × ¬ (In a (X ++ Y))
once_without a [] Y o = (o.1, o.0)
once_without a (x ∷ X) Y o =
    let t = once_without a X Y o.1 in (
      (λ h. o.0 (in_cases x X Y (in_left x X (a ∷ Y)) (λ i. in_right x X (a ∷ Y) (inr i)) h), t.0),
      elim [ inl e ↦ o.0 (in_right x X (a ∷ Y) (inl (sym e))) | inr h ↦ t.1 h ],
    )

pub in_dec : (a : ℕ) (l : List ℕ) → Dec (In a l)
in_dec a [] = no (λ h. h)
in_dec a (x ∷ l) = go (ℕ_discrete a x) (in_dec a l)
  where
    go : Dec (a ≡ x) → Dec (In a l) → Dec (In a (x ∷ l))
    go (yes e) d = yes (inl e)
    go (no n) (yes h) = yes (inr h)
    go (no n) (no m) = no (elim [ inl e ↦ n e | inr h ↦ m h ])

pub once_length : (n : ℕ) (l : List ℕ) → Once l → ((a : ℕ) → In a l → a < n) → length l ≤ n
once_length zero [] o h = omega arith
once_length zero (x ∷ l) o h = absurd (let b = h x (inl refl) in omega arith)
once_length (suc n) l o h = go (in_dec n l) (once_length n)
  where
    go : Dec (In n l) → ((l : List ℕ) → Once l → ((a : ℕ) → In a l → a < n) → length l ≤ n) → length l ≤ suc n
    go (no m) k = let b = k l o (λ a i. let c : ¬ (a ≡ n) = λ e. m (rw e at i) in omega (arith, h a i)) in omega arith
    go (yes i) k =
        let t = cut_at n l i in
        let X = t.0 in let Y = t.1 in
        let w = once_without n X Y (rw t.2 at o) in
        let b = k (X ++ Y) w.0 (λ a i.
        let c : ¬ (a ≡ n) = λ e. w.1 (rw e at i) in
        omega (arith, h a (rw t.2 (in_cases a X Y (in_left a X (n ∷ Y)) (λ j. in_right a X (n ∷ Y) (inr j)) i)))) in
        omega (arith, ap length t.2, length-append X (n ∷ Y), length-append X Y)

pub all_there : (n : ℕ) (l : List ℕ) → Once l → ((a : ℕ) → In a l → a < n) → n ≤ length l → (a : ℕ) → a < n → In a l
all_there n l o h k a b = go (in_dec a l)
  where
    go : Dec (In a l) → In a l
    go (yes i) = i
    go (no m) = absurd (let t = once_length n (a ∷ l) (m, o) (λ c. elim [ inl e ↦ rw e b | inr i ↦ h c i ]) in omega arith)

-- a list of different entries is no longer than one that has them all
pub once_within : (l m : List ℕ) → Once l → ((a : ℕ) → In a l → In a m) → length l ≤ length m
once_within [] m o h = omega arith
once_within (x ∷ l) m o h =
    let c = cut_at x m (h x (inl refl)) in
    let t = once_within l (c.0 ++ c.1) o.1 (λ a i.
    in_cases a c.0 (x ∷ c.1) (in_left a c.0 c.1) (elim [ inl e ↦ absurd (o.0 (rw e at i)) | inr j ↦ in_right a c.0 c.1 j ])
    (subst (In a) c.2 (h a (inr i)))) in
    omega (arith, ap length c.2, length-append c.0 (x ∷ c.1), length-append c.0 c.1)

-- ---- a list read from another place on has the same entries, each as often
pub once_split : (X Y : List ℕ) → Once (X ++ Y) → Once X × ((a : ℕ) → In a X → ¬ (In a Y))
once_split [] Y o = (tt, λ a h. absurd h)
once_split (x ∷ X) Y o =
    let t = once_split X Y o.1 in
    ((λ h. o.0 (in_left x X Y h), t.0), λ a. elim [ inl e ↦ (λ i. o.0 (in_right x X Y (rw (← e) i))) | inr h ↦ t.1 a h ])

pub once_join : (X Y : List ℕ) → Once X → Once Y → ((a : ℕ) → In a X → ¬ (In a Y)) → Once (X ++ Y)
once_join [] Y o r d = r
once_join (x ∷ X) Y o r d = (in_cases x X Y o.0 (d x (inl refl)), once_join X Y o.1 r (λ a h. d a (inr h)))

pub once_turn : (X Y : List ℕ) → Once (X ++ Y) → Once (Y ++ X)
once_turn X Y o = let t = once_split X Y o in once_join Y X (once_drop X Y o) t.0 (λ a h i. t.1 a i h)

pub in_turn : (a : ℕ) (X Y : List ℕ) → In a (X ++ Y) → In a (Y ++ X)
in_turn a X Y = in_cases a X Y (in_right a Y X) (in_left a Y X)

pub last_in : (x : ℕ) (l : List ℕ) → In (last_of x l) (x ∷ l)
last_in x [] = inl refl
last_in x (y ∷ l) = inr (last_in y l)

pub first_alone : (X : List ℕ) (p : ℕ) (Z : List ℕ) → Once (X ++ p ∷ Z) → Head (X ++ p ∷ Z) p → X ≡ []
first_alone [] p Z o h = refl
first_alone (x ∷ X) p Z o h = absurd (o.0 (in_right x X (p ∷ Z) (inl h)))

pub last_alone : (x : ℕ) (X : List ℕ) (q : ℕ) (Y : List ℕ) → Once (X ++ q ∷ Y) → last_of x (X ++ q ∷ Y) ≡ q → Y ≡ []
last_alone x X q [] o h = refl
last_alone x X q (y ∷ Y) o h = absurd ((once_drop X (q ∷ y ∷ Y) o).0 (subst (λ z. In z (y ∷ Y)) (sym (sym h ∙ last_append x X q (y ∷ Y))) (last_in y Y)))
