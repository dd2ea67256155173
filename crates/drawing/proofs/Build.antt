-- How a board is built, and what its posts' places are to satisfy.
use Prim.Native.Nat.{ℕ, suc, ◌+◌, ◌≤◌, ◌<◌}
use mathlib.Core.Path.{◌≡◌, ap}
use mathlib.Core.Logic.{◌⊎◌, inl, inr}
use mathlib.Core.List.{List, [], ◌∷◌, ◌++◌}
use native.Mathlib.Omega.{arith}
use Rattle.words.specs.Lists.{In}
use Rattle.drawing.specs.Meeting.{Places}
use Rattle.drawing.specs.Areas.{PositiveArea}
use Rattle.words.proofs.Lists.{in_cases, in_left, in_right}
use Rattle.words.proofs.Chains.{Chain}

-- two posts with a wire; then each new post v with its run p, M, q on the contour. The index is the contour
pub data Build : List ℕ → Type 0 where
  base : (a b : ℕ) → Build (a ∷ b ∷ [])
  post : (L : List ℕ) (p : ℕ) (M : List ℕ) (q : ℕ) (R : List ℕ) (v : ℕ) → Build (L ++ p ∷ (M ++ q ∷ R)) → Build (L ++ p ∷ v ∷ q ∷ R)

abbrev pub Post : {C : List ℕ} → Build C → ℕ → Type 0
Post (base a b) u = (u ≡ a) ⊎ (u ≡ b)
Post (post L p M q R v B) u = (u ≡ v) ⊎ Post B u

-- the wire from u to w, u the later of the two (of the first two, the first)
abbrev pub Built : {C : List ℕ} → Build C → ℕ → ℕ → Type 0
Built (base a b) u w = (u ≡ a) × (w ≡ b)
Built (post L p M q R v B) u w = ((u ≡ v) × In w (p ∷ (M ++ q ∷ []))) ⊎ Built B u w

-- a is left of b, or right below it
pub record Before (s : Places) (a b : ℕ) : Type 0 where
  pub le : s.x a ≤ s.x b
  pub tie : s.x b ≤ s.x a → s.y a < s.y b

-- v is well placed over its run
pub record Placing (s : Places) (p : ℕ) (M : List ℕ) (q v : ℕ) : Type 0 where
  pub left : Before s p v
  pub right : Before s v q
  pub over : Chain (λ a b. PositiveArea s a b v) (p ∷ (M ++ q ∷ []))

abbrev pub Good : Places → {C : List ℕ} → Build C → Type 0
Good s (base a b) = Before s a b
Good s (post L p M q R v B) = Placing s p M q v × Good s B

-- the posts of the contour
pub on_contour : {C : List ℕ} (B : Build C) (u : ℕ) → In u C → Post B u
on_contour (base a b) u (inl e) = inl e
on_contour (base a b) u (inr (inl e)) = inr e
on_contour (base a b) u (inr (inr h)) = absurd h
on_contour (post L p M q R v B) u h =
    in_cases u L (p ∷ v ∷ q ∷ R) (λ i. inr (on_contour B u (in_left u L _ i))) (go (λ i. on_contour B u i)) h
  where
    go : (In u (L ++ p ∷ (M ++ q ∷ R)) → Post B u) → In u (p ∷ v ∷ q ∷ R) → (u ≡ v) ⊎ Post B u
    go f (inl e) = inr (f (in_right u L _ (inl e)))
    go f (inr (inl e)) = inl e
    go f (inr (inr i)) = inr (f (in_right u L _ (inr (in_right u M (q ∷ R) i))))

-- a number above all heights
pub record Top (s : Places) {C : List ℕ} (B : Build C) : Type 0 where
  pub n : ℕ
  pub some : 0 < n
  pub tall : (u : ℕ) → Post B u → s.y u < n

pub top : (s : Places) {C : List ℕ} (B : Build C) → Top s B
top s (base a b) =
    record {
      n = suc (s.y a + s.y b);
      some = omega arith;
      tall = λ u. elim [ inl e ↦ omega (arith, ap s.y e) | inr e ↦ omega (arith, ap s.y e) ];
    }
top s (post L p M q R v B) =
    let t = top s B in
    record {
      n = suc (t.n + s.y v);
      some = omega arith;
      tall = λ u. elim [ inl e ↦ omega (arith, ap s.y e) | inr h ↦ omega (arith, t.tall u h) ];
    }
