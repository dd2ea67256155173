-- The groups of a stretch of the contour, and the parts into which a run cuts the contour.
use Prim.Native.Nat.{ℕ}
use mathlib.Core.Path.{refl}
use mathlib.Core.Logic.{◌⊎◌, inl, inr}
use mathlib.Core.List.{List, [], ◌∷◌, ◌++◌, flat_map}
use Rattle.words.specs.Lists.{In}
use Rattle.words.proofs.Lists.{in_cases, in_left, in_right}

-- ---- the posts of the groups of a stretch
module _ (f : ℕ → List ℕ) (u : ℕ) where
  pub in_groups : (l : List ℕ) → In u (flat_map f l) → (c : ℕ) × In c l × In u (f c)
  unfolding flat_map
  in_groups (c ∷ l) h =
      in_cases u (f c) (flat_map f l) (λ i. (c, inl refl, i)) (λ i. let r = in_groups l i in (r.0, inr r.1, r.2)) h
  in_groups [] h = elim h [ ]

  pub groups_in : (c : ℕ) (l : List ℕ) → In c l → In u (f c) → In u (flat_map f l)
  unfolding flat_map
  groups_in c (m ∷ l) (inl e) h = in_left u (f m) (flat_map f l) (rw e at h)
  groups_in c (m ∷ l) (inr i) h = in_right u (f m) (flat_map f l) (groups_in c l i h)
  groups_in c [] x'' h = elim x'' [ ]

-- ---- a post of the contour: up to p, inside the run, or from q on
pub sides : (c : ℕ) (X : List ℕ) (p : ℕ) (M : List ℕ) (q : ℕ) (Y : List ℕ) → In c (X ++ p ∷ (M ++ q ∷ Y))
    → In c (X ++ p ∷ []) ⊎ (In c M ⊎ In c (q ∷ Y))
sides c X p M q Y =
    in_cases c X (p ∷ (M ++ q ∷ Y)) (λ i. inl (in_left c X (p ∷ []) i))
    (elim [ inl e ↦ inl (in_right c X (p ∷ []) (inl e)) | inr h ↦ in_cases c M (q ∷ Y) (λ i. inr (inl i)) (λ i. inr (inr i)) h ])
