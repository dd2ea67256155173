-- A list read around: the entry after a place, and what one turn more of a loop over its entries finds.
use Prim.Native.Nat.{ℕ, suc, ◌+◌, ◌-◌, ◌≤◌, ◌<◌}
use mathlib.Core.Path.{◌≡◌, refl, sym, ap, ◌∙◌}
use mathlib.Core.Logic.{inl, inr, ◌≢◌, ◌⊎◌}
use mathlib.Core.Bool.{Bool, true, false, ◌&&◌, ◌||◌}
use mathlib.Core.List.{List, [], ◌∷◌, ◌++◌}
use native.Mathlib.Omega.{arith}
use native.Mathlib.Numerals.{add-one}
use native.Mathlib.Decide.{ℕ_discrete}
use lib.Dec.{eqb}
use borrow.Author.Tests.{eq-eqb, ne_eqb}
use lib.ListN.{length, get_or, take, drop, length-append, get_or-append}
use lib.Seq.{drop-cons, drop-append_seam, get_or_at}
use Rattle.std.specs.List.{list_any}
use Rattle.std.proofs.lemmas.List.{drop_all}
use Rattle.words.specs.Lists.{mem, last_of}
use Rattle.words.proofs.Lists.{last_at}
use Rattle.rings.specs.Rings.{around, next, all_next}

pub around_entry : (l : List ℕ) (j : ℕ) → j < length l → get_or (around l) j 0 ≡ get_or l j 0
unfolding around
around_entry l j h = get_or-append l (take 1 l) 0 j h

around_end : (l : List ℕ) → 0 < length l → get_or (around l) (length l) 0 ≡ get_or l 0 0
unfolding around
around_end [] h = absurd (omega arith)
around_end (x ∷ l) h = get_or_at (x ∷ l) x [] 0 (length (x ∷ l)) refl

-- it is one longer, unless it is empty
around_long : (l : List ℕ) → 0 < length l → length (around l) ≡ suc (length l)
unfolding around
around_long [] h = absurd (omega arith)
around_long (x ∷ l) h = omega (arith, length-append (x ∷ l) (x ∷ []))

-- the entry after place i
module _ (l : List ℕ) (i : ℕ) where
  pub after_inside : i + 1 < length l → get_or l (i + 1) 0 ≡ get_or (around l) (i + 1) 0
  after_inside h = sym (around_entry l (i + 1) h)

  pub after_end : i < length l → length l ≤ i + 1 → get_or l 0 0 ≡ get_or (around l) (i + 1) 0
  after_end h k = let e : length l ≡ i + 1 = omega arith in sym (rw e at (around_end l (omega arith)))

-- two entries side by side, at place j
two : (A : List ℕ) (j : ℕ) → j + 1 < length A → drop j A ≡ get_or A j 0 ∷ get_or A (j + 1) 0 ∷ drop (suc (suc j)) A
two A j h = drop-cons A j 0 (omega arith) ∙ rw add-one (ap (λ (m : List ℕ). get_or A j 0 ∷ m) (drop-cons A (suc j) 0 (omega arith)))

-- a turn of a loop around
module _ (l : List ℕ) (j : ℕ) (h : j < length l) where
  long : j + 1 < length (around l)
  long = omega (arith, around_long l (omega arith))

  onward : drop (j + 1) (around l) ≡ get_or (around l) (j + 1) 0 ∷ drop (suc (suc j)) (around l)
  onward = rw add-one (drop-cons (around l) (suc j) 0 (omega (arith, long)))

  here : drop j (around l) ≡ get_or l j 0 ∷ get_or (around l) (j + 1) 0 ∷ drop (suc (suc j)) (around l)
  here = two (around l) j long ∙ ap (λ (x : ℕ). x ∷ get_or (around l) (j + 1) 0 ∷ drop (suc (suc j)) (around l)) (around_entry l j h)

  pub all_next_step : (p : ℕ → ℕ → Bool)
      → all_next p (drop j (around l)) ≡ (p (get_or l j 0) (get_or (around l) (j + 1) 0) && all_next p (drop (j + 1) (around l)))
  unfolding all_next
  all_next_step p = rw onward (ap (all_next p) here)

around_rest : (l : List ℕ) → drop (length l) (around l) ≡ take 1 l
unfolding around
around_rest l = drop-append_seam l (take 1 l)

pub all_next_end : (l : List ℕ) (p : ℕ → ℕ → Bool) (i : ℕ) → i ≡ length l → all_next p (drop i (around l)) ≡ true
unfolding all_next
all_next_end [] p i e = rw (e, around_rest)
all_next_end (x ∷ l) p i e = rw (e, around_rest)

-- the slice's own test for an entry
eqb_turn : (a b : ℕ) → eqb a b ≡ eqb b a
eqb_turn a b = go (ℕ_discrete a b)
  where
    go : Dec (a ≡ b) → eqb a b ≡ eqb b a
    go (yes e) = rw e refl
    go (no n) = ne_eqb a b n ∙ sym (ne_eqb b a (λ e. n (sym e)))

pub any_mem : (l : List ℕ) (a : ℕ) → list_any (λ y. eqb y a) l ≡ mem l a
unfolding mem
any_mem [] a = refl
any_mem (x ∷ l) a = rw (any_mem l a, eqb_turn x a) refl

-- ---- whether b stands right after a, in a loop that keeps the entry before: it begins with the last one
module _ (a b : ℕ) where
  next_append : (y : ℕ) (l : List ℕ) (x : ℕ) → next a b (y ∷ l ++ x ∷ []) ≡ (eqb (last_of y l) a && eqb x b || next a b (y ∷ l))
  unfolding next
  next_append y [] x = refl
  next_append y (z ∷ l) x = rw (next_append z l x) (or_swap (eqb y a && eqb z b) (eqb (last_of z l) a && eqb x b) _)
    where
      or_swap : (p q r : Bool) → p || (q || r) ≡ q || (p || r)
      or_swap true true r = refl
      or_swap true false r = refl
      or_swap false q r = refl

  pub next_start : (l : List ℕ) → 0 < length l → next a b (get_or l (length l - 1) 0 ∷ l) ≡ next a b (around l)
  unfolding next around
  next_start [] h = absurd (omega arith)
  next_start (y ∷ l) h = rw (← last_at 0 (y ∷ l) h) (sym (next_append y l y))

  -- in a list that is read around, the last entry stands before the first
  pub next_begins : (l : List ℕ) (w : ℕ) → 0 < length l → w ≡ get_or l (length l - 1) 0 → next a b (w ∷ l) ≡ next a b (around l)
  next_begins l w h e = rw e (next_start l h)

  pub next_none : (l : List ℕ) → length l ≤ 0 → false ≡ next a b (around l)
  unfolding next around
  next_none [] h = refl
  next_none (y ∷ l) h = absurd (omega arith)

  module _ (l : List ℕ) (i w : ℕ) where
    step : i < length l → next a b (w ∷ drop i l) ≡ (eqb w a && eqb (get_or l i 0) b || next a b (get_or l i 0 ∷ drop (i + 1) l))
    unfolding next
    step h = rw (add-one, drop-cons l i 0 h) refl

    pub next_found : i < length l → w ≡ a → get_or l i 0 ≡ b → next a b (w ∷ drop i l) ≡ true
    next_found h p q = step h ∙ rw (eq-eqb w a p, eq-eqb (get_or l i 0) b q) refl

    pub next_passed : i < length l → ((w ≢ a) ⊎ (get_or l i 0 ≢ b)) → next a b (w ∷ drop i l) ≡ next a b (get_or l i 0 ∷ drop (i + 1) l)
    next_passed h (inl n) = step h ∙ rw (ne_eqb w a n) refl
    next_passed h (inr n) = step h ∙ rw (ne_eqb (get_or l i 0) b n) (or_last (eqb w a))
      where
        or_last : (x : Bool) {y : Bool} → (x && false) || y ≡ y
        or_last true = refl
        or_last false = refl

    pub next_end : length l ≤ i → next a b (w ∷ drop i l) ≡ false
    unfolding next
    next_end h = rw (drop_all i l h) refl
