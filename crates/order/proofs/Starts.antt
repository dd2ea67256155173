-- Starts of runs in a ring, counted: there is one run exactly if there is at most one start.
use mathlib.Core.Path.{◌≡◌, refl, sym, ap, ◌∙◌}
use mathlib.Core.Bool.{Bool, true, false, not, cond, ◌&&◌, ◌||◌}
use mathlib.Core.List.{List, [], ◌∷◌, ◌++◌, append_assoc, append-nil}
use Prim.Native.Nat.{ℕ, ◌+◌, ◌≤◌, ◌<◌}
use native.Mathlib.Omega.{arith}
use lib.Dec.{T, T_not, not_T}
use lib.ListN.{length, take, drop, length-append, take-append-drop}
use Rattle.words.specs.Lists.{mem, any_of}
use Rattle.words.proofs.First.{some_true, some_found}
use Rattle.words.proofs.Tests.{holds, is_true, either}
use Rattle.rings.specs.Rings.{ring, around}
use Rattle.rings.proofs.Around.{around_cut}
use Rattle.order.specs.Order.{from, rest, leads, one_run}
use Rattle.order.proofs.Tests.{from_at, from_start}

-- how often a placed entry stands right after one that is not placed
unfoldable pub starts : List ℕ → List ℕ → ℕ
starts placed [] = 0
starts placed (x ∷ []) = 0
starts placed (x ∷ y ∷ l) = cond (not (mem placed x) && mem placed y) 1 0 + starts placed (y ∷ l)

module _ (placed : List ℕ) where
  starts_cut : (X : List ℕ) (q : ℕ) (Z : List ℕ) → starts placed (X ++ q ∷ Z) ≡ starts placed (X ++ q ∷ []) + starts placed (q ∷ Z)
  unfolding starts
  starts_cut [] q Z = omega arith
  starts_cut (x ∷ []) q Z = omega arith
  starts_cut (x ∷ y ∷ X) q Z = let e = starts_cut (y ∷ X) q Z in omega arith

  pub starts_turn : (X Y : List ℕ) → starts placed (around (X ++ Y)) ≡ starts placed (around (Y ++ X))
  starts_turn [] Y = rw append-nil
  starts_turn (x ∷ X) [] = rw append-nil
  starts_turn (x ∷ X) (y ∷ Y) =
      omega (
        arith,
        ap (starts placed) (around_cut x X (y ∷ Y)),
        ap (starts placed) (around_cut y Y (x ∷ X)),
        starts_cut (x ∷ X) y (Y ++ x ∷ []),
        starts_cut (y ∷ Y) x (X ++ y ∷ []),
      )

  waiting_on : (x : ℕ) (l : List ℕ) → ¬ (T (mem placed x)) → starts placed (x ∷ l) ≡ 0 → T (not (any_of (mem placed) (x ∷ l)))
  unfolding starts any_of
  waiting_on x [] h e = not_T (mem placed x || false) (either (mem placed x) false h (λ t. t))
  waiting_on x (y ∷ l) h e =
      let t = go (mem placed x) (mem placed y) h e in
      let r = waiting_on y l t.0 t.1 in
      not_T (mem placed x || any_of (mem placed) (y ∷ l)) (either (mem placed x) (any_of (mem placed) (y ∷ l)) h (T_not (any_of (mem placed) (y ∷ l)) r))
    where
      go : (b c : Bool) → ¬ (T b) → cond (not b && c) 1 0 + starts placed (y ∷ l) ≡ 0 → ¬ (T c) × (starts placed (y ∷ l) ≡ 0)
      go true c n e = absurd (n tt)
      go false true n e = absurd (omega arith)
      go false false n e = (λ t. t, omega arith)

  pub placed_on : (x : ℕ) (l : List ℕ) → T (mem placed x) → starts placed (x ∷ l) ≡ starts placed l
  unfolding starts
  placed_on x [] h = refl
  placed_on x (y ∷ l) h = go (mem placed x) h
    where
      go : (b : Bool) → T b → cond (not b && mem placed y) 1 0 + starts placed (y ∷ l) ≡ starts placed (y ∷ l)
      go true t = omega arith
      go false t = absurd t

  none_starts : (l : List ℕ) → T (not (any_of (mem placed) l)) → starts placed l ≡ 0
  unfolding starts any_of
  none_starts [] t = refl
  none_starts (x ∷ []) t = refl
  none_starts (x ∷ y ∷ l) t = go (mem placed x) (mem placed y) t (none_starts (y ∷ l))
    where
      go : (b c : Bool) → T (not (b || (c || any_of (mem placed) l))) → (T (not (c || any_of (mem placed) l)) → starts placed (y ∷ l) ≡ 0)
          → cond (not b && c) 1 0 + starts placed (y ∷ l) ≡ 0
      go true c t k = absurd t
      go false true t k = absurd t
      go false false t k = let e = k t in omega arith

  rest_starts : (l : List ℕ) → starts placed l ≡ 0 → T (leads placed l)
  unfolding any_of rest leads
  rest_starts [] e = tt
  rest_starts (x ∷ l) e = go (mem placed x) (λ t. sym (placed_on x l t) ∙ e) (λ n. waiting_on x l n e) (rest_starts l)
    where
      go : (b : Bool) → (T b → starts placed l ≡ 0) → (¬ (T b) → T (not (any_of (mem placed) (x ∷ l)))) → (starts placed l ≡ 0 → T (leads placed l))
          → T (not (any_of (mem placed) (cond b (rest placed l) (x ∷ l))))
      go true f g k = k (f tt)
      go false f g k = g (λ t. t)

  starts_rest : (l : List ℕ) → T (leads placed l) → starts placed l ≡ 0
  unfolding starts any_of rest leads
  starts_rest [] t = refl
  starts_rest (x ∷ l) t = go (mem placed x) (placed_on x l) t (starts_rest l)
    where
      go : (b : Bool) → (T b → starts placed (x ∷ l) ≡ starts placed l) → T (not (any_of (mem placed) (cond b (rest placed l) (x ∷ l))))
          → (T (leads placed l) → starts placed l ≡ 0) → starts placed (x ∷ l) ≡ 0
      go true f t k = f tt ∙ k t
      go false f t k = none_starts (x ∷ l) t

  pub starts_snoc : (l : List ℕ) (z : ℕ) → starts placed (l ++ z ∷ []) ≤ starts placed l + 1
  unfolding starts
  starts_snoc [] z = omega arith
  starts_snoc (x ∷ []) z = go (not (mem placed x) && mem placed z)
    where
      go : (b : Bool) → cond b 1 0 + 0 ≤ 0 + 1
      go true = omega arith
      go false = omega arith
  starts_snoc (x ∷ y ∷ l) z = let r = starts_snoc (y ∷ l) z in omega arith

  starts_around : (l : List ℕ) → starts placed (around l) ≤ starts placed l + 1
  unfolding around
  starts_around [] = omega arith
  starts_around (x ∷ l) = starts_snoc (x ∷ l) x

  -- a list with no begin, or cut at one
  find : {C : Type 0} (l : List ℕ) → (starts placed l ≡ 0 → C)
      → ((X : List ℕ) (a b : ℕ) (Y : List ℕ) → l ≡ X ++ a ∷ b ∷ Y → ¬ (T (mem placed a)) → T (mem placed b) → C) → C
  unfolding starts
  find [] f g = f refl
  find (x ∷ []) f g = f refl
  find (x ∷ y ∷ l) f g =
      go (mem placed x) (mem placed y) (λ e. f e) (g [] x y l refl) (λ h. find (y ∷ l) h (λ X a b Y e. g (x ∷ X) a b Y (ap (λ (r : List ℕ). x ∷ r) e)))
    where
      go : {C : Type 0} (b c : Bool) → (cond (not b && c) 1 0 + starts placed (y ∷ l) ≡ 0 → C) → (¬ (T b) → T c → C) → ((starts placed (y ∷ l) ≡ 0 → C) → C) → C
      go true c f g k = k (λ e. f (omega arith))
      go false true f g k = g (λ t. t) tt
      go false false f g k = k (λ e. f (omega arith))

  one_begin : (x y : ℕ) → ¬ (T (mem placed x)) → T (mem placed y) → starts placed (x ∷ y ∷ []) ≡ 1
  unfolding starts
  one_begin x y nx py = go (mem placed x) (mem placed y) nx py
    where
      go : (b c : Bool) → ¬ (T b) → T c → cond (not b && c) 1 0 + 0 ≡ 1
      go true c n t = absurd (n tt)
      go false true n t = omega arith
      go false false n t = absurd t

  starts_close : (y : ℕ) (W : List ℕ) (x : ℕ) → ¬ (T (mem placed x)) → T (mem placed y)
      → starts placed (around (y ∷ (W ++ x ∷ []))) ≡ starts placed (y ∷ (W ++ x ∷ [])) + 1
  starts_close y W x nx py = omega (arith, ap (starts placed) (around_cut y W (x ∷ [])), starts_cut (y ∷ W) x (y ∷ []), one_begin x y nx py)

-- one run: at most one placed neighbour follows one that is not placed
module _ (G : List (List ℕ)) (placed : List ℕ) (v : ℕ) where
  p : ℕ → Bool
  p s = leads placed (from s (ring G v))

  pub one_run_starts : one_run G placed v ≡ true → starts placed (around (ring G v)) ≤ 1
  unfolding one_run from p
  one_run_starts t =
      let r = some_found p 0 (length (ring G v)) t in
      let X = take r.0 (ring G v) in
      let Y = drop r.0 (ring G v) in
      omega (
        arith,
        starts_rest placed (Y ++ X) (holds _ r.3),
        starts_around placed (Y ++ X),
        starts_turn placed X Y,
        ap (λ (l : List ℕ). starts placed (around l)) (take-append-drop r.0 (ring G v)),
      )

  pub starts_one_run : 0 < length (ring G v) → starts placed (around (ring G v)) ≤ 1 → one_run G placed v ≡ true
  unfolding one_run p
  starts_one_run h b = find placed (ring G v)
      (λ e. some_true p 0 (length (ring G v)) 0 (omega arith) (omega arith) (is_true _ (rest_starts placed _ (rw (from_start (ring G v)) e))))
      (λ X x y Y e nx py.
      let s = length (X ++ x ∷ []) in
      let f : ring G v ≡ (X ++ x ∷ []) ++ y ∷ Y = e ∙ sym (append_assoc X (x ∷ []) (y ∷ Y)) in
      let t : from s (ring G v) ≡ y ∷ ((Y ++ X) ++ x ∷ []) = ap (from s) f ∙ from_at (X ++ x ∷ []) (y ∷ Y) ∙ sym (append_assoc (y ∷ Y) X (x ∷ [])) in
      let z : starts placed (y ∷ ((Y ++ X) ++ x ∷ [])) ≡ 0 =
      omega (
        arith,
        b,
        starts_close placed y (Y ++ X) x nx py,
        starts_turn placed (X ++ x ∷ []) (y ∷ Y),
        ap (λ (l : List ℕ). starts placed (around l)) f,
        ap (λ (l : List ℕ). starts placed (around l)) (append_assoc (y ∷ Y) X (x ∷ [])),
      ) in
      some_true p 0 (length (ring G v)) s (omega arith) (omega (arith, ap length f, length-append (X ++ x ∷ []) (y ∷ Y)))
      (is_true _ (rest_starts placed _ (rw t z))))
