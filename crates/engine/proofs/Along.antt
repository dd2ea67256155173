-- A stretch of the contour as the arrays hold it: the path along it, its sum of offsets, and its posts covered.
use Prim.Native.Nat.{ℕ, suc, ◌+◌, ◌-◌, ◌≤◌, ◌<◌}
use mathlib.Core.Path.{◌≡◌, refl, ap, sym, ◌∙◌, subst, subst⁻¹}
use mathlib.Core.Logic.{inl, inr}
use mathlib.Core.List.{List, [], ◌∷◌, ◌++◌, append-nil}
use native.Mathlib.Omega.{arith}
use lib.ListN.{length, get_or, set, length-set, length-append}
use lib.Seq.{get_or-set_same, get_or-set_other}
use Rattle.block.specs.Layout.{bias}
use Rattle.words.specs.Lists.{In, last_of, Adj}
use Rattle.words.proofs.Lists.{Once, adj_tail, last_append}
use Rattle.contour.specs.Arrays.{path, walk, along, Below, covered, hung, SumsFit}

pub below_all : (n : ℕ) (l : List ℕ) → ((a : ℕ) → In a l → a < n) → Below n l
below_all n [] h = tt
below_all n (a ∷ l) h = (h a (inl refl), below_all n l (λ b i. h b (inr i)))

-- ---- by right neighbours
pub path_list : (right : List ℕ) (a : ℕ) (L R : List ℕ) → ((x y : ℕ) → Adj (a ∷ (L ++ R)) x y → get_or right x 0 ≡ y) → path right a (suc (length L)) ≡ a ∷ L
unfolding path
path_list right a [] R h = refl
path_list right a (b ∷ L) R h = let e = h a b (inl (refl, refl)) in rw e (ap (λ (l : List ℕ). a ∷ l) (path_list right b L R (λ x y i. h x y (inr i))))

pub walk_list : (right : List ℕ) (a : ℕ) (L : List ℕ) → ((x y : ℕ) → Adj (a ∷ L) x y → get_or right x 0 ≡ y) → walk right a (length L) ≡ last_of a L
unfolding walk
walk_list right a [] h = refl
walk_list right a (b ∷ L) h = ap (λ (c : ℕ). walk right c (length L)) (h a b (inl (refl, refl))) ∙ walk_list right b L (λ x y i. h x y (inr i))

path_tail : (right : List ℕ) (a k : ℕ) (l : List ℕ) → path right a (suc k) ≡ a ∷ l → path right (get_or right a 0) k ≡ l
unfolding path
path_tail right a k l e = cc e

module _ (right : List ℕ) (p : ℕ) (M : List ℕ) (q m : ℕ) (em : m ≡ length M + 2) (h : (x y : ℕ) → Adj (p ∷ (M ++ q ∷ [])) x y → get_or right x 0 ≡ y) where
  m_less : m - 1 ≡ suc (length M)
  m_less = omega arith

  whole : path right p (suc (suc (length M))) ≡ p ∷ (M ++ q ∷ [])
  whole =
      let n : length M + 1 ≡ length (M ++ q ∷ []) = omega (arith, length-append M (q ∷ [])) in
      let e : suc (suc (length M)) ≡ suc (length (M ++ q ∷ [])) = omega arith in
      rw e (path_list right p (M ++ q ∷ []) [] (subst⁻¹ (λ (l : List ℕ). (x y : ℕ) → Adj (p ∷ l) x y → get_or right x 0 ≡ y) (append-nil (M ++ q ∷ [])) h))

  pub path_but_last : path right p (m - 1) ≡ p ∷ M
  path_but_last = rw m_less (path_list right p M (q ∷ []) h)

  pub path_but_first : path right (get_or right p 0) (m - 1) ≡ M ++ q ∷ []
  path_but_first = rw m_less (path_tail right p (suc (length M)) (M ++ q ∷ []) whole)

  pub path_inner : path right (get_or right p 0) (m - 2) ≡ M
  path_inner = let e : m - 2 ≡ length M = omega arith in rw e (path_tail right p (length M) M (path_list right p M (q ∷ []) h))

  pub walk_last : walk right p (m - 1) ≡ q
  walk_last =
      let e : m - 1 ≡ length (M ++ q ∷ []) = omega (arith, length-append M (q ∷ [])) in
      rw e (walk_list right p (M ++ q ∷ []) h ∙ last_append p M q [])

-- ---- by columns X, with the offsets between
module _ (X : ℕ → ℕ) where
  abbrev pub Apart : List ℕ → List ℕ → Type 0
  Apart off l = (x y : ℕ) → Adj l x y → X y ≡ X x + get_or off y 0

  pub along_list : (off : List ℕ) (a : ℕ) (L : List ℕ) → Apart off (a ∷ L) → X a + along off L ≡ X (last_of a L)
  unfolding along
  along_list off a [] h = omega arith
  along_list off a (b ∷ L) h = omega (arith, h a b (inl (refl, refl)), along_list off b L (λ x y i. h x y (inr i)))

  apart_set : (off : List ℕ) (a w : ℕ) (L : List ℕ) → ¬ (In a L) → Apart off (a ∷ L) → Apart (set off a w) (a ∷ L)
  apart_set off a w L n h x y i = h x y i ∙ ap (λ (k : ℕ). X x + k)
      (sym (get_or-set_other off a y w 0 (λ e. n (subst (λ (b : ℕ). In b L) e (adj_tail x y a L i)))))

  module _ (base d most : ℕ) (small : most + bias ≤ 65000) where
    pub fits_list : (off : List ℕ) (a s : ℕ) (L : List ℕ) → Once L → Apart off (a ∷ L) → s + base ≡ X a + 1 → ((y : ℕ) → In y L → X y ≤ most)
        → SumsFit off L s d
    fits_list off a s [] o h e f = tt
    fits_list off a s (b ∷ L) o h e f =
        let z = h a b (inl (refl, refl)) in
        let k = f b (inl refl) in (
          omega arith,
          fits_list (set off b (s + get_or off b 0 + bias - d)) b (s + get_or off b 0) L o.1
              (apart_set off b (s + get_or off b 0 + bias - d) L o.0 (λ x y i. h x y (inr i))) (omega arith) (λ y i. f y (inr i)),
        )

  pub hung_off : (off L : List ℕ) (s d u : ℕ) → ¬ (In u L) → get_or (hung off L s d) u 0 ≡ get_or off u 0
  unfolding hung
  hung_off off [] s d u n = refl
  hung_off off (b ∷ L) s d u n =
      hung_off (set off b (s + get_or off b 0 + bias - d)) L (s + get_or off b 0) d u (λ i. n (inr i))
      ∙ get_or-set_other off b u (s + get_or off b 0 + bias - d) 0 (λ e. n (inl e))

  pub hung_length : (off L : List ℕ) (s d : ℕ) → length (hung off L s d) ≡ length off
  unfolding hung
  hung_length off [] s d = refl
  hung_length off (b ∷ L) s d = hung_length (set off b (s + get_or off b 0 + bias - d)) L (s + get_or off b 0) d
      ∙ length-set off b (s + get_or off b 0 + bias - d)

  pub hung_at : (base d : ℕ) → d ≤ bias → (off : List ℕ) (a s : ℕ) (L : List ℕ) → Once L → Below (length off) L → Apart off (a ∷ L) → s + base ≡ X a + 1
      → (u : ℕ) → In u L → X u + 1 + bias ≡ base + d + get_or (hung off L s d) u 0
  unfolding hung
  hung_at base d low off a s (b ∷ L) o w h e u (inl q) =
      let here = hung_off (set off b (s + get_or off b 0 + bias - d)) L (s + get_or off b 0) d b o.0
      ∙ get_or-set_same off b (s + get_or off b 0 + bias - d) 0 w.0 in
      rw q (omega (arith, here, h a b (inl (refl, refl))))
  hung_at base d low off a s (b ∷ L) o w h e u (inr j) =
      hung_at base d low (set off b (s + get_or off b 0 + bias - d)) b (s + get_or off b 0) L o.1
      (subst⁻¹ (λ (n : ℕ). Below n L) (length-set off b (s + get_or off b 0 + bias - d)) w.1)
      (apart_set off b (s + get_or off b 0 + bias - d) L o.0 (λ x y k. h x y (inr k))) (omega (arith, h a b (inl (refl, refl)))) u j
  hung_at base d low off a s [] o w h e u x5 = elim x5 [ ]

-- ---- covered by v
pub covered_off : (cover L : List ℕ) (v u : ℕ) → ¬ (In u L) → get_or (covered cover L v) u 0 ≡ get_or cover u 0
unfolding covered
covered_off cover [] v u n = refl
covered_off cover (b ∷ L) v u n = covered_off (set cover b v) L v u (λ i. n (inr i)) ∙ get_or-set_other cover b u v 0 (λ e. n (inl e))

pub covered_length : (cover L : List ℕ) (v : ℕ) → length (covered cover L v) ≡ length cover
unfolding covered
covered_length cover [] v = refl
covered_length cover (b ∷ L) v = covered_length (set cover b v) L v ∙ length-set cover b v

pub covered_at : (cover L : List ℕ) (v u : ℕ) → Once L → Below (length cover) L → In u L → get_or (covered cover L v) u 0 ≡ v
unfolding covered
covered_at cover (b ∷ L) v u o w (inl e) = rw e (covered_off (set cover b v) L v b o.0 ∙ get_or-set_same cover b v 0 w.0)
covered_at cover (b ∷ L) v u o w (inr i) = covered_at (set cover b v) L v u o.1 (subst⁻¹ (λ (n : ℕ). Below n L) (length-set cover b v) w.1) i
covered_at cover [] v u o w x3 = elim x3 [ ]
