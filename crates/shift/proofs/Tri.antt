-- The runs that posts were placed over, and their triangles: these turn counter-clockwise.
use Prim.Native.Nat.{ℕ}
use mathlib.Core.Path.{◌≡◌}
use mathlib.Core.Logic.{◌⊎◌, inl, inr}
use mathlib.Core.List.{List, [], ◌∷◌, ◌++◌}
use Rattle.words.specs.Lists.{Adj}
use Rattle.drawing.specs.Meeting.{Places}
use Rattle.words.proofs.Chains.{Chain}
use Rattle.drawing.specs.Areas.{PositiveArea}
use Rattle.drawing.proofs.Build.{Build, base, post, Good}

chain_adj : (E : ℕ → ℕ → Type 0) (l : List ℕ) (a b : ℕ) → Chain E l → Adj l a b → E a b
chain_adj E (k ∷ []) a b c (inl e) = absurd e.1
chain_adj E (k ∷ []) a b c (inr h) = absurd h
chain_adj E (k ∷ l ∷ m) a b c (inl e) = rw (← e.0, ← e.1) c.0
chain_adj E (k ∷ l ∷ m) a b c (inr h) = chain_adj E (l ∷ m) a b c.1 h
chain_adj E [] a b c x'' = elim x'' [ ]

-- v was placed over the run w
abbrev pub Over : {C : List ℕ} → Build C → ℕ → List ℕ → Type 0
Over (base k l) v w = ⊥
Over (post L p M q R u B) v w = ((v ≡ u) × (w ≡ p ∷ (M ++ q ∷ []))) ⊎ Over B v w

over_turns : (s : Places) {C : List ℕ} (B : Build C) (v : ℕ) (w : List ℕ) → Good s B → Over B v w → Chain (λ a b. PositiveArea s a b v) w
over_turns s (post L p M q R u B) v w g (inl h) = rw (h.0, h.1) g.0.over
over_turns s (post L p M q R u B) v w g (inr h) = over_turns s B v w g.1 h
over_turns s (base a b) v w g x4 = elim x4 [ ]

-- v was placed over a and b, side by side in its run
abbrev pub Tri : {C : List ℕ} → Build C → ℕ → ℕ → ℕ → Type 0
Tri B a b v = (w : List ℕ) × Over B v w × Adj w a b

pub tri_turn : (s : Places) {C : List ℕ} (B : Build C) (a b v : ℕ) → Good s B → Tri B a b v → PositiveArea s a b v
tri_turn s B a b v g h = chain_adj (λ c d. PositiveArea s c d v) h.0 a b (over_turns s B v h.0 g h.1) h.2
