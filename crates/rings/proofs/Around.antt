-- Lists read as rings: what follows what, from any place on.
use mathlib.Core.Path.{◌≡◌, refl, ap, subst, subst⁻¹}
use mathlib.Core.Logic.{inl, inr}
use mathlib.Core.Bool.{Bool, ◌&&◌}
use mathlib.Core.List.{List, [], ◌∷◌, ◌++◌, append_assoc, append-nil}
use Prim.Native.Nat.{ℕ}
use lib.Dec.{T, eqb, eqb→eq, eqb_refl}
use Rattle.words.specs.Lists.{In, Adj}
use Rattle.words.proofs.Lists.{Once, in_cases, adj_init, adj_tail, adj_one, adj_next, adj_turn, adj_right}
use Rattle.words.proofs.Tests.{both, join, either, or_left, or_right}
use Rattle.rings.specs.Rings.{ring, around, next, all_next}
use Rattle.rings.specs.Plane.{Follows}

-- b stands right after a in u's ring, read around
abbrev pub After : List (List ℕ) → ℕ → ℕ → ℕ → Type 0
After G u a b = Adj (around (ring G u)) a b

-- ---- right after: in a list cut there, and as a test
pub cut_adj : (l X : List ℕ) (a b : ℕ) (Y : List ℕ) → l ≡ X ++ a ∷ b ∷ Y → Adj l a b
cut_adj l X a b Y e = rw e (adj_right a b X (a ∷ b ∷ Y) (inl (refl, refl)))

pub adj_cut : (l : List ℕ) (a b : ℕ) → Adj l a b → (X Y : List ℕ) × (l ≡ X ++ a ∷ b ∷ Y)
adj_cut [] a b h = absurd h
adj_cut (x ∷ []) a b (inl h) = absurd h.1
adj_cut (x ∷ []) a b (inr h) = absurd h
adj_cut (x ∷ y ∷ l) a b (inl h) = ([], l, rw (h.0, h.1))
adj_cut (x ∷ y ∷ l) a b (inr h) = let t = adj_cut (y ∷ l) a b h in (x ∷ t.0, t.1, ap (λ (r : List ℕ). x ∷ r) t.2)

-- b follows a at u, in either wording
module _ (G : List (List ℕ)) (u a b : ℕ) where
  pub follows_after : Follows G u a b → After G u a b
  follows_after t = cut_adj (around (ring G u)) t.0 a b t.1 t.2

  pub after_follows : After G u a b → Follows G u a b
  after_follows h = adj_cut (around (ring G u)) a b h

pub next_says : (a b : ℕ) (l : List ℕ) → T (next a b l) → Adj l a b
unfolding next
next_says a b [] t = t
next_says a b (x ∷ []) t = absurd t
next_says a b (x ∷ y ∷ l) t =
    either (eqb x a && eqb y b) (next a b (y ∷ l)) (λ e. let s = both (eqb x a) (eqb y b) e in inl (eqb→eq x a s.0, eqb→eq y b s.1))
    (λ m. inr (next_says a b (y ∷ l) m)) t

pub says_next : (a b : ℕ) (l : List ℕ) → Adj l a b → T (next a b l)
unfolding next
says_next a b [] h = h
says_next a b (x ∷ []) (inl h) = absurd h.1
says_next a b (x ∷ []) (inr h) = absurd h
says_next a b (x ∷ y ∷ l) (inl h) = or_left (eqb x a && eqb y b) (next a b (y ∷ l)) (join (eqb x a) (eqb y b) (rw h.0 (eqb_refl a)) (rw h.1 (eqb_refl b)))
says_next a b (x ∷ y ∷ l) (inr h) = or_right (eqb x a && eqb y b) (next a b (y ∷ l)) (says_next a b (y ∷ l) h)

module _ (p : ℕ → ℕ → Bool) where
  pub all_next_says : (l : List ℕ) → T (all_next p l) → (a b : ℕ) → Adj l a b → T (p a b)
  unfolding all_next
  all_next_says [] t a b h = absurd h
  all_next_says (x ∷ []) t a b (inl h) = absurd h.1
  all_next_says (x ∷ []) t a b (inr h) = absurd h
  all_next_says (x ∷ y ∷ l) t a b (inl h) = rw (← h.0, ← h.1) (both (p x y) (all_next p (y ∷ l)) t).0
  all_next_says (x ∷ y ∷ l) t a b (inr h) = all_next_says (y ∷ l) (both (p x y) (all_next p (y ∷ l)) t).1 a b h

  pub says_all_next : (l : List ℕ) → ((a b : ℕ) → Adj l a b → T (p a b)) → T (all_next p l)
  unfolding all_next
  says_all_next [] h = tt
  says_all_next (x ∷ []) h = tt
  says_all_next (x ∷ y ∷ l) h = join (p x y) (all_next p (y ∷ l)) (h x y (inl (refl, refl))) (says_all_next (y ∷ l) (λ a b i. h a b (inr i)))

-- ---- around a list
-- what follows an entry that occurs once is one entry
pub around_one : (l : List ℕ) (a b c : ℕ) → Once l → Adj (around l) a b → Adj (around l) a c → b ≡ c
unfolding around
around_one [] a b c o h i = absurd h
around_one (x ∷ l) a b c o h i = adj_one a b c (x ∷ l) x o h i

pub around_in : (l : List ℕ) (a b : ℕ) → Adj (around l) a b → In a l × In b l
unfolding around
around_in [] a b h = absurd h
around_in (x ∷ l) a b h = (adj_init a b (x ∷ l) x h, in_cases b l (x ∷ []) inr (elim [ inl e ↦ inl e | inr i ↦ absurd i ]) (adj_tail a b x (l ++ x ∷ []) h))

pub around_next : (l : List ℕ) (a : ℕ) → In a l → (b : ℕ) × Adj (around l) a b
unfolding around
around_next [] a h = absurd h
around_next (x ∷ l) a h = adj_next a (x ∷ l) x h

pub around_cut : (x : ℕ) (X Y : List ℕ) → around (x ∷ (X ++ Y)) ≡ x ∷ (X ++ (Y ++ x ∷ []))
unfolding around
around_cut x X Y = ap (λ (r : List ℕ). x ∷ r) (append_assoc X Y (x ∷ []))

-- a ring read from any place on has the same neighbours
pub around_turn : (X Y : List ℕ) (a b : ℕ) → Adj (around (X ++ Y)) a b → Adj (around (Y ++ X)) a b
unfolding around
around_turn [] Y a b h = rw append-nil h
around_turn (x ∷ X) [] a b h = subst (λ (r : List ℕ). Adj (around r) a b) (append-nil (x ∷ X)) h
around_turn (x ∷ X) (y ∷ Y) a b h =
    subst⁻¹ (λ (r : List ℕ). Adj r a b) (around_cut y Y (x ∷ X)) (adj_turn a b x X y Y (subst (λ (r : List ℕ). Adj r a b) (around_cut x X (y ∷ Y)) h))
