-- Lists of posts, left to right: neighbours, and what lies under them.
use Prim.Native.Nat.{ℕ, ◌*◌, ◌≤◌, ◌<◌}
use mathlib.Core.Logic.{◌⊎◌, inl, inr}
use mathlib.Core.List.{List, [], ◌∷◌, ◌++◌}
use native.Mathlib.Nat.{mul-le-mul_right}
use native.Mathlib.Omega.{arith}
use Rattle.drawing.specs.Meeting.{Point, Places}
use Rattle.words.proofs.Chains.{Chain}
use Rattle.drawing.proofs.Fan.{Under}

-- the point is under two neighbours
abbrev pub Roof : Places → Point → List ℕ → Type 0
Roof s P [] = ⊥
Roof s P (a ∷ []) = ⊥
Roof s P (a ∷ b ∷ l) = Under s a b P ⊎ Roof s P (b ∷ l)

-- columns grow from left to right
abbrev pub Rising : Places → List ℕ → Type 0
Rising s l = Chain (λ b c. s.x b < s.x c) l

module _ (s : Places) (a : ℕ) where
  open s use {x}

  rising_le : (b : ℕ) (L R : List ℕ) → Rising s (b ∷ (L ++ a ∷ R)) → x b < x a
  rising_le b [] R c = c.0
  rising_le b (l ∷ L) R c = let h = rising_le l L R c.1 in omega arith

  module _ (P : Point) where
    open P use {X, d}

    pub roof_swap : (L R R' : List ℕ) → (Roof s P (a ∷ R) → Roof s P (a ∷ R')) → Roof s P (L ++ a ∷ R) → Roof s P (L ++ a ∷ R')
    roof_swap [] R R' f r = f r
    roof_swap (l ∷ []) R R' f (inl u) = inl u
    roof_swap (l ∷ []) R R' f (inr r) = inr (f r)
    roof_swap (l ∷ m ∷ L) R R' f (inl u) = inl u
    roof_swap (l ∷ m ∷ L) R R' f (inr r) = inr (roof_swap (m ∷ L) R R' f r)

    pub roof_in : (L R : List ℕ) → Roof s P (a ∷ R) → Roof s P (L ++ a ∷ R)
    roof_in [] R r = r
    roof_in (l ∷ []) R r = inr r
    roof_in (l ∷ m ∷ L) R r = inr (roof_in (m ∷ L) R r)

    pub roof_left : (L R : List ℕ) → Rising s (L ++ a ∷ R) → Roof s P (L ++ a ∷ R) → (X ≤ x a * d) ⊎ Roof s P (a ∷ R)
    roof_left [] R c r = inr r
    roof_left (l ∷ []) R c (inl u) = inl u.to
    roof_left (l ∷ []) R c (inr r) = inr r
    roof_left (l ∷ m ∷ L) R c (inl u) =
        inl (let h = rising_le m L R c.1 in let k : x m ≤ x a = omega arith in omega (arith, u.to, mul-le-mul_right d k))
    roof_left (l ∷ m ∷ L) R c (inr r) = roof_left (m ∷ L) R c.1 r

module _ (s : Places) (P : Point) where
  open s use {x}
  open P use {X, d}

  pub roof_right : (a : ℕ) (R : List ℕ) → Rising s (a ∷ R) → Roof s P (a ∷ R) → x a * d ≤ X
  roof_right a [] c r = elim r [ ]
  roof_right a (b ∷ R) c (inl u) = u.from
  roof_right a (b ∷ R) c (inr r) = let h = roof_right b R c.1 r in let k : x a ≤ x b = omega (arith, c.0) in omega (arith, mul-le-mul_right d k)
