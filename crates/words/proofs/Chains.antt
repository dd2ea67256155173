-- Lists whose neighbours are related, each to the next.
use Rattle.std.proofs.Common.{ℕ, List, [], ◌∷◌, ◌++◌, refl, inl, inr}
use Rattle.words.specs.Lists.{In}
use Rattle.words.proofs.Lists.{in_right}

-- neighbours are related
abbrev pub Chain : (ℕ → ℕ → Type 0) → List ℕ → Type 0
Chain E [] = Unit {0}
Chain E (a ∷ []) = Unit {0}
Chain E (a ∷ b ∷ l) = E a b × Chain E (b ∷ l)

module _ {E F : ℕ → ℕ → Type 0} (f : (a b : ℕ) → E a b → F a b) where
  pub chain_map : (l : List ℕ) → Chain E l → Chain F l
  chain_map [] c = tt
  chain_map (a ∷ []) c = tt
  chain_map (a ∷ b ∷ l) c = (f a b c.0, chain_map (b ∷ l) c.1)

module _ (E : ℕ → ℕ → Type 0) (a : ℕ) where
  pub chain_at : (L R : List ℕ) → Chain E (L ++ a ∷ R) → Chain E (a ∷ R)
  chain_at [] R c = c
  chain_at (l ∷ []) R c = c.1
  chain_at (l ∷ m ∷ L) R c = chain_at (m ∷ L) R c.1

  pub chain_swap : (L R R' : List ℕ) → Chain E (L ++ a ∷ R) → Chain E (a ∷ R') → Chain E (L ++ a ∷ R')
  chain_swap [] R R' c r = r
  chain_swap (l ∷ []) R R' c r = (c.0, r)
  chain_swap (l ∷ m ∷ L) R R' c r = (c.0, chain_swap (m ∷ L) R R' c.1 r)

-- neighbours are members
module _ {E F : ℕ → ℕ → Type 0} where
  pub chain_in : (l : List ℕ) → ((a b : ℕ) → In a l → In b l → E a b → F a b) → Chain E l → Chain F l
  chain_in [] f c = tt
  chain_in (a ∷ []) f c = tt
  chain_in (a ∷ b ∷ l) f c = (f a b (inl refl) (inr (inl refl)) c.0, chain_in (b ∷ l) (λ k m h i. f k m (inr h) (inr i)) c.1)

module _ (E : ℕ → ℕ → Type 0) (a : ℕ) where
  pub chain_to : (L R : List ℕ) → Chain E (L ++ a ∷ R) → Chain E (L ++ a ∷ [])
  chain_to [] R c = tt
  chain_to (l ∷ []) R c = (c.0, tt)
  chain_to (l ∷ m ∷ L) R c = (c.0, chain_to (m ∷ L) R c.1)

  pub chain_join : (L R : List ℕ) → Chain E (L ++ a ∷ []) → Chain E (a ∷ R) → Chain E (L ++ a ∷ R)
  chain_join [] R c r = r
  chain_join (l ∷ []) R c r = (c.0, r)
  chain_join (l ∷ m ∷ L) R c r = (c.0, chain_join (m ∷ L) R c.1 r)

-- neighbours of a run: the first is not the last of the run, and the second not the first
module _ {E F : ℕ → ℕ → Type 0} (q : ℕ) where
  pub chain_run : (p : ℕ) (M : List ℕ) → ((a b : ℕ) → In a (p ∷ M) → In b (M ++ q ∷ []) → E a b → F a b)
      → Chain E (p ∷ (M ++ q ∷ [])) → Chain F (p ∷ (M ++ q ∷ []))
  chain_run p [] f c = (f p q (inl refl) (inl refl) c.0, tt)
  chain_run p (m ∷ M) f c = (f p m (inl refl) (inl refl) c.0, chain_run m M (λ a b i j. f a b (inr i) (inr j)) c.1)

-- members are related, if E is transitive
module _ (E : ℕ → ℕ → Type 0) (trans : (a b c : ℕ) → E a b → E b c → E a c) where
  pub chain_from : (a : ℕ) (l : List ℕ) → Chain E (a ∷ l) → (b : ℕ) → In b l → E a b
  chain_from a (m ∷ l) c b (inl e) = rw e c.0
  chain_from a (m ∷ l) c b (inr i) = trans a m b c.0 (chain_from m l c.1 b i)
  chain_from a [] c b x'' = elim x'' [ ]

  pub chain_last : (l : List ℕ) (q : ℕ) → Chain E (l ++ q ∷ []) → (a : ℕ) → In a l → E a q
  chain_last (m ∷ l) q c a (inl e) = rw e (chain_from m (l ++ q ∷ []) c q (in_right q l (q ∷ []) (inl refl)))
  chain_last (m ∷ []) q c a (inr i) = absurd i
  chain_last (m ∷ n ∷ l) q c a (inr i) = chain_last (n ∷ l) q c.1 a i
  chain_last [] q c a x'' = elim x'' [ ]
