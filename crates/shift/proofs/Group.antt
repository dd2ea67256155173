-- Groups: in a step the posts move right by their groups, the later on the contour the farther. The new post v takes the place of its run's
-- inner posts on the contour, and their groups.
use Prim.Native.Nat.{ℕ, ◌+◌, ◌≤◌, ◌<◌}
use mathlib.Core.Path.{ap}
use mathlib.Core.Logic.{inl, inr}
use mathlib.Core.List.{List, [], ◌∷◌, ◌++◌}
use native.Mathlib.Omega.{arith}
use Rattle.words.specs.Lists.{In}
use Rattle.drawing.specs.Meeting.{Places}
use Rattle.drawing.proofs.Numbers.{by_le}
use Rattle.words.proofs.Lists.{in_cases, in_left, in_right}
use Rattle.words.proofs.Chains.{Chain, chain_at, chain_to, chain_join, chain_in, chain_from, chain_last}
use Rattle.shift.specs.Step.{BeforeRun, InRun, AfterRun, Regroup}
use Rattle.shift.proofs.Shift.{Slides}

-- which of the three a post does
pub data Moved (s s' : Places) (g g' : ℕ → ℕ) (p q u : ℕ) : Type 0 where
  lo : g u ≤ g p → BeforeRun s s' g g' u → Moved s s' g g' p q u
  mi : g p < g u → g u < g q → InRun s s' g g' p u → Moved s s' g g' p q u
  hi : g q ≤ g u → AfterRun s s' g g' p q u → Moved s s' g g' p q u

module _ (s s' : Places) (g g' : ℕ → ℕ) (Here : ℕ → Type 0) (p q v : ℕ) (S : Regroup s s' g g' Here p q v) where
  open s use {x}
  open s' use {x as x'}

  abbrev Moves_of : ℕ → Type 0
  Moves_of = Moved s s' g g' p q

  pub moved : (u : ℕ) → Here u → Moves_of u
  moved u h = by_le (g u) (g p) (λ k. lo k (S.lo u h k)) (λ k. by_le (g q) (g u) (λ l. hi l (S.hi u h l)) (λ l. mi k l (S.mi u h k l)))

  order : (z u : ℕ) → g p < g q → Moves_of z → Moves_of u → g z ≤ g u → (x' z + x u ≤ x' u + x z) × (g' z ≤ g' u)
  order z u pq (lo a b) (lo k l) h = omega arith
  order z u pq (lo a b) (mi k k' l) h = omega arith
  order z u pq (lo a b) (hi k l) h = omega arith
  order z u pq (mi a a' b) (lo k l) h = omega arith
  order z u pq (mi a a' b) (mi k k' l) h = omega arith
  order z u pq (mi a a' b) (hi k l) h = omega arith
  order z u pq (hi a b) (lo k l) h = omega arith
  order z u pq (hi a b) (mi k k' l) h = omega arith
  order z u pq (hi a b) (hi k l) h = omega arith

  right : (u : ℕ) → Moves_of u → x u ≤ x' u
  right u (lo a b) = omega arith
  right u (mi a a' b) = omega arith
  right u (hi a b) = omega arith

  pub slides : g p < g q → Slides s s' g g' Here
  slides pq = record { right = λ u h. right u (moved u h); level = S.level; order = λ z u k l. order z u pq (moved z k) (moved u l) }

-- the contour, along which groups grow
module _ (g : ℕ → ℕ) (L : List ℕ) (p : ℕ) (M : List ℕ) (q : ℕ) (R : List ℕ) (E : ℕ → ℕ → Type 0) (trans : (a b c : ℕ) → E a b → E b c → E a c)
    (grow : (a b : ℕ) → E a b → g a < g b) (C : Chain E (L ++ p ∷ (M ++ q ∷ R))) where
  onward : Chain E (p ∷ (M ++ q ∷ R))
  onward = chain_at E p L (M ++ q ∷ R) C

  pub run_chain : Chain E (p ∷ (M ++ q ∷ []))
  run_chain = chain_to E q (p ∷ M) R onward

  pub to_q : (a : ℕ) → In a (p ∷ M) → E a q
  to_q = chain_last E trans (p ∷ M) q run_chain

  pub from_p : (b : ℕ) → In b (M ++ q ∷ []) → E p b
  from_p = chain_from E trans p (M ++ q ∷ []) run_chain

  before_p : Chain E (L ++ p ∷ [])
  before_p = chain_to E p L (M ++ q ∷ R) C

  after_q : Chain E (q ∷ R)
  after_q = chain_at E q (p ∷ M) R onward

  pub upto_p : (a : ℕ) → In a (L ++ p ∷ []) → (g a ≤ g p) × In a (L ++ p ∷ (M ++ q ∷ R))
  upto_p a =
      in_cases a L (p ∷ []) (λ i. (omega (arith, grow a p (chain_last E trans L p before_p a i)), in_left a L _ i))
      (elim [ inl e ↦ (omega (arith, ap g e), in_right a L _ (inl e)) | inr i ↦ absurd i ])

  pub onto_q : (a : ℕ) → In a (q ∷ R) → (g q ≤ g a) × In a (L ++ p ∷ (M ++ q ∷ R))
  onto_q a i = (go i, in_right a L _ (inr (in_right a M (q ∷ R) i)))
    where
      go : In a (q ∷ R) → g q ≤ g a
      go (inl e) = omega (arith, ap g e)
      go (inr i) = omega (arith, grow q a (chain_from E trans q R after_q a i))

  -- the new contour
  abbrev On : ℕ → Type 0
  On a = In a (L ++ p ∷ (M ++ q ∷ R))

  pub renewed : (E' : ℕ → ℕ → Type 0) (v : ℕ) → ((a b : ℕ) → On a → On b → g a ≤ g p → g b ≤ g p → E a b → E' a b)
      → ((a b : ℕ) → On a → On b → g q ≤ g a → g q ≤ g b → E a b → E' a b) → E' p v → E' v q → Chain E' (L ++ p ∷ v ∷ q ∷ R)
  renewed E' v f h k l =
      chain_join E' p L (v ∷ q ∷ R)
      (chain_in (L ++ p ∷ []) (λ a b i j. f a b (upto_p a i).1 (upto_p b j).1 (upto_p a i).0 (upto_p b j).0) before_p)
      (k, (l, chain_in (q ∷ R) (λ a b i j. h a b (onto_q a i).1 (onto_q b j).1 (onto_q a i).0 (onto_q b j).0) after_q))
