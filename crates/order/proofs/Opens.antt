-- The pass over a ring: what one turn more finds, and what it has found at the end. A run begins at an entry that is placed and comes after one
-- that is not.
use Prim.Native.Nat.{ℕ, suc, ◌+◌, ◌-◌, ◌≤◌, ◌<◌}
use mathlib.Core.Path.{◌≡◌, refl, ap, sym, ◌∙◌, subst, subst⁻¹}
use mathlib.Core.Logic.{◌⊎◌, inl, inr}
use mathlib.Core.Bool.{Bool, true, false, not, cond, ◌&&◌}
use mathlib.Core.List.{List, [], ◌∷◌, ◌++◌}
use native.Mathlib.Omega.{arith}
use native.Mathlib.Numerals.{add-one}
use lib.ListN.{length, get_or, drop}
use lib.Seq.{drop-cons}
use Rattle.std.proofs.lemmas.List.{drop_all}
use Rattle.std.proofs.Common.{zero-add}
use Rattle.std.proofs.Math.Nat.{add_assoc}
use Rattle.words.specs.Lists.{In, mem, count, last_of, Adj}
use Rattle.words.proofs.Lists.{in_dec, last_in, last_at, adj_more}
use Rattle.words.proofs.Tests.{is_true, is_false, in_mem, mem_in}
use Rattle.rings.specs.Rings.{around}
use Rattle.order.specs.Opens.{openings_after, opening_after, openings, last_opening}
use Rattle.order.proofs.Starts.{starts, starts_turn}

-- ---- the loop: what is found before entry i, and what the entries from there on add to it, are what the whole ring has
pub record Passed (p : ℕ → Bool) (l : List ℕ) (i : ℕ) (w : Bool) (many runs begin : ℕ) : Type 0 where
  pub many_most : many ≤ i
  pub runs_most : runs ≤ i
  pub many_is : many + count p (drop i l) ≡ count p l
  pub runs_is : runs + openings_after p w (drop i l) ≡ openings p l
  pub begin_is : opening_after p begin i w (drop i l) ≡ last_opening p l

-- before the first turn: w is the test of the last entry, if there is one
pub passed_none : (p : ℕ → Bool) (l : List ℕ) (w : Bool) → (0 < length l → w ≡ p (get_or l (length l - 1) 0)) → Passed p l 0 w 0 0 0
unfolding openings_after opening_after
passed_none p [] w f = record { many_most = omega arith; runs_most = omega arith; many_is = omega arith; runs_is = omega arith; begin_is = refl }
passed_none p (y ∷ l) w f =
    let e : w ≡ p (last_of y l) = f (omega arith) ∙ ap p (sym (last_at 0 (y ∷ l) (omega arith))) in
    record { many_most = omega arith; runs_most = omega arith; many_is = omega arith; runs_is = rw e (zero-add _); begin_is = rw e refl }

module _ (p : ℕ → Bool) (l : List ℕ) (i : ℕ) (w : Bool) (many runs begin : ℕ) (P : Passed p l i w many runs begin) where
  -- a turn: the test of entry i, and whether a run begins there
  pub passed_more : i < length l → (here : Bool) → here ≡ p (get_or l i 0) → (m r z : ℕ) → m ≡ cond here 1 0 → r ≡ cond (not w && here) 1 0
      → z ≡ cond (not w && here) i begin → Passed p l (i + 1) here (many + m) (runs + r) z
  unfolding count openings_after opening_after
  passed_more h here e m r z em er ez =
      let split = drop-cons l i 0 h in
      let one : (b : Bool) → cond {A = ℕ} b 1 0 ≤ 1 = elim [ true ↦ omega arith | false ↦ omega arith ] in
      record {
        many_most = omega (arith, one here, P.many_most);
        runs_most = omega (arith, one (not w && here), P.runs_most);
        many_is = rw (em, e, add-one) (add_assoc many _ _ ∙ rw split at P.many_is);
        runs_is = rw (er, e, add-one) (add_assoc runs _ _ ∙ rw split at P.runs_is);
        begin_is = rw (ez, e, add-one) (rw split at P.begin_is);
      }

  pub passed_all : length l ≤ i → (many ≡ count p l) × (runs ≡ openings p l) × (begin ≡ last_opening p l)
  unfolding count openings_after opening_after
  passed_all h =
      let none : drop i l ≡ [] = drop_all i l h in
      let many_is : many + 0 ≡ count p l = rw none at P.many_is in
      let runs_is : runs + 0 ≡ openings p l = rw none at P.runs_is in
      (omega arith, omega arith, rw none at P.begin_is)

-- ---- tests that agree on the entries find the same
module _ (p q : ℕ → Bool) where
  count_same : (l : List ℕ) → ((a : ℕ) → In a l → p a ≡ q a) → count p l ≡ count q l
  unfolding count
  count_same [] h = refl
  count_same (y ∷ l) h = rw (h y (inl refl), count_same l (λ a i. h a (inr i))) refl

  openings_same : (w : Bool) (l : List ℕ) → ((a : ℕ) → In a l → p a ≡ q a) → openings_after p w l ≡ openings_after q w l
  unfolding openings_after
  openings_same w [] h = refl
  openings_same w (y ∷ l) h = rw (h y (inl refl), openings_same (q y) l (λ a i. h a (inr i))) refl

  opening_same : (z i : ℕ) (w : Bool) (l : List ℕ) → ((a : ℕ) → In a l → p a ≡ q a) → opening_after p z i w l ≡ opening_after q z i w l
  unfolding opening_after
  opening_same z i w [] h = refl
  opening_same z i w (y ∷ l) h = rw (h y (inl refl)) (opening_same (cond (not w && q y) i z) (suc i) (q y) l (λ a j. h a (inr j)))

  pub pass_same : (l : List ℕ) → ((a : ℕ) → In a l → p a ≡ q a)
      → (count p l ≡ count q l) × (openings p l ≡ openings q l) × (last_opening p l ≡ last_opening q l)
  unfolding count openings_after opening_after
  pass_same [] h = (refl, refl, refl)
  pass_same (y ∷ l) h =
      let e = h (last_of y l) (last_in y l) in (
        count_same (y ∷ l) h,
        openings_same (p (last_of y l)) (y ∷ l) h ∙ ap (λ (w : Bool). openings_after q w (y ∷ l)) e,
        opening_same 0 0 (p (last_of y l)) (y ∷ l) h ∙ ap (λ (w : Bool). opening_after q 0 0 w (y ∷ l)) e,
      )

-- ---- how many runs begin
-- a list is what comes before its last entry, and that entry
split_last : (y : ℕ) (l : List ℕ) → (W : List ℕ) × (y ∷ l ≡ W ++ last_of y l ∷ [])
split_last y [] = ([], refl)
split_last y (x ∷ l) = let r = split_last x l in (y ∷ r.0, ap (λ (m : List ℕ). y ∷ m) r.1)

module _ (placed : List ℕ) where
  starts_from : (x : ℕ) (l : List ℕ) → openings_after (mem placed) (mem placed x) l ≡ starts placed (x ∷ l)
  unfolding starts openings_after
  starts_from x [] = refl
  starts_from x (y ∷ l) = ap (λ (n : ℕ). cond (not (mem placed x) && mem placed y) 1 0 + n) (starts_from y l)

  -- a ring read from its last entry on
  starts_last : (y : ℕ) (l : List ℕ) → starts placed (last_of y l ∷ y ∷ l) ≡ starts placed (around (y ∷ l))
  unfolding around
  starts_last y l =
      let x = last_of y l in
      let r = split_last y l in
      ap (λ (m : List ℕ). starts placed (x ∷ m)) r.1 ∙ sym (starts_turn placed r.0 (x ∷ [])) ∙ ap (λ (m : List ℕ). starts placed (around m)) (sym r.1)

  pub openings_starts : (l : List ℕ) → openings (mem placed) l ≡ starts placed (around l)
  unfolding openings_after starts around
  openings_starts [] = refl
  openings_starts (y ∷ l) = starts_from (last_of y l) (y ∷ l) ∙ starts_last y l

  -- ---- where the last of them begins
  -- in x ∷ l, where the places of l are counted from i
  abbrev Opened : ℕ → ℕ → List ℕ → ℕ → Type 0
  Opened i x l r = (i ≤ r) × (r < i + length l) × ((b : ℕ) × Adj (x ∷ l) b (get_or l (r - i) 0) × ¬ (In b placed)) × In (get_or l (r - i) 0) placed

  opening_says : (z i x : ℕ) (l : List ℕ)
      → ((opening_after (mem placed) z i (mem placed x) l ≡ z) × (starts placed (x ∷ l) ≡ 0)) ⊎ Opened i x l (opening_after (mem placed) z i (mem placed x) l)
  unfolding opening_after starts
  opening_says z i x [] = inl (refl, refl)
  opening_says z i x (y ∷ l) =
      go (in_dec x placed) (in_dec y placed) (opening_says (cond (not (mem placed x) && mem placed y) i z) (suc i) y l)
    where
      here : ℕ
      here = cond (not (mem placed x) && mem placed y) i z

      r : ℕ
      r = opening_after (mem placed) here (suc i) (mem placed y) l

      later : Opened (suc i) y l r → Opened i x (y ∷ l) r
      later t =
          let e : r - i ≡ suc (r - suc i) = omega (arith, t.0) in
          (omega (arith, t.0), omega (arith, t.1), rw e (t.2.0, inr t.2.1, t.2.2), rw e t.3)

      -- a run begins at y, and none after it
      first : here ≡ i → ¬ (In x placed) → In y placed → r ≡ here → Opened i x (y ∷ l) r
      first is n j t =
          let e : r - i ≡ 0 = omega arith in
          (omega arith, omega arith, rw e (x, inl (refl, refl), n), rw e j)

      none : here ≡ z → cond {A = ℕ} (not (mem placed x) && mem placed y) 1 0 ≡ 0 → (r ≡ here) × (starts placed (y ∷ l) ≡ 0)
          → (r ≡ z) × (cond (not (mem placed x) && mem placed y) 1 0 + starts placed (y ∷ l) ≡ 0)
      none e f t = (t.0 ∙ e, omega (arith, t.1))

      go : Dec (In x placed) → Dec (In y placed) → ((r ≡ here) × (starts placed (y ∷ l) ≡ 0)) ⊎ Opened (suc i) y l r
          → ((r ≡ z) × (cond (not (mem placed x) && mem placed y) 1 0 + starts placed (y ∷ l) ≡ 0)) ⊎ Opened i x (y ∷ l) r
      go d d' (inr t) = inr (later t)
      go (no n) (yes j) (inl t) =
          inr (first (rw (is_false (mem placed x) (λ t. n (mem_in placed x t)), is_true (mem placed y) (in_mem placed y j)) refl) n j t.0)
      go (yes j) d (inl t) = let on = is_true (mem placed x) (in_mem placed x j) in inl (none (rw on refl) (rw on refl) t)
      go (no n) (no m) (inl t) =
          let off = is_false (mem placed x) (λ t. n (mem_in placed x t)) in
          let off' = is_false (mem placed y) (λ t. m (mem_in placed y t)) in
          inl (none (rw (off, off') refl) (rw (off, off') refl) t)

-- the last entry of a ring is followed by its first
adj_last : (y : ℕ) (l : List ℕ) (z : ℕ) → Adj ((y ∷ l) ++ z ∷ []) (last_of y l) z
adj_last y [] z = inl (refl, refl)
adj_last y (x ∷ l) z = inr (adj_last x l z)

around_adj : (y : ℕ) (l : List ℕ) (a b : ℕ) → Adj (last_of y l ∷ y ∷ l) a b → Adj (around (y ∷ l)) a b
unfolding around
around_adj y l a b (inl h) =
    subst (λ (c : ℕ). Adj ((y ∷ l) ++ y ∷ []) a c) h.1 (subst (λ (c : ℕ). Adj ((y ∷ l) ++ y ∷ []) c y) h.0 (adj_last y l y))
around_adj y l a b (inr h) = adj_more a b (y ∷ l) y h

module _ (placed : List ℕ) where
  -- in a ring in which a run begins: the place that is found, and the entry before it
  pub opened : (l : List ℕ) → 1 ≤ openings (mem placed) l
      → (last_opening (mem placed) l < length l) × ((b : ℕ) × Adj (around l) b (get_or l (last_opening (mem placed) l) 0) × ¬ (In b placed))
      × In (get_or l (last_opening (mem placed) l) 0) placed
  unfolding openings_after
  opened [] h = absurd (omega arith)
  opened (y ∷ l) h = go (opening_says placed 0 0 (last_of y l) (y ∷ l))
    where
      r : ℕ
      r = last_opening (mem placed) (y ∷ l)

      go : ((r ≡ 0) × (starts placed (last_of y l ∷ y ∷ l) ≡ 0)) ⊎ Opened placed 0 (last_of y l) (y ∷ l) r
          → (r < length (y ∷ l)) × ((b : ℕ) × Adj (around (y ∷ l)) b (get_or (y ∷ l) r 0) × ¬ (In b placed)) × In (get_or (y ∷ l) r 0) placed
      go (inl t) = absurd (omega (arith, starts_from placed (last_of y l) (y ∷ l), t.1))
      go (inr t) =
          let e : r - 0 ≡ r = omega arith in
          let b = t.2.0 in
          let f : Adj (last_of y l ∷ y ∷ l) b (get_or (y ∷ l) r 0) = rw e at t.2.1 in
          (omega (arith, t.1), (b, around_adj y l b (get_or (y ∷ l) r 0) f, t.2.2), rw e at t.3)

  -- where none begins, all entries are placed if one is
  abbrev None : List ℕ → Type 0
  None l = (b c : ℕ) → Adj l b c → ¬ (In b placed) → ¬ (In c placed)

  starts_none : (x : ℕ) (l : List ℕ) → starts placed (x ∷ l) ≡ 0 → None (x ∷ l)
  unfolding starts
  starts_none x [] e b c (inl h) nb hc = absurd h.1
  starts_none x [] e b c (inr h) nb hc = absurd h
  starts_none x (y ∷ l) e b c (inl h) nb hc =
      let off = is_false (mem placed x) (λ t. nb (subst (λ (a : ℕ). In a placed) h.0 (mem_in placed x t))) in
      let on = is_true (mem placed y) (in_mem placed y (subst⁻¹ (λ (a : ℕ). In a placed) h.1 hc)) in
      let one : 1 + starts placed (y ∷ l) ≡ 0 = rw (off, on) at e in
      absurd (omega arith)
  starts_none x (y ∷ l) e b c (inr h) nb hc = starts_none y l (omega arith) b c h nb hc

  off_on : (x : ℕ) (l : List ℕ) → None (x ∷ l) → ¬ (In x placed) → (c : ℕ) → In c (x ∷ l) → ¬ (In c placed)
  off_on x [] h n c (inl e) = rw e n
  off_on x [] h n c (inr z) = absurd z
  off_on x (y ∷ l) h n c (inl e) = rw e n
  off_on x (y ∷ l) h n c (inr i) = off_on y l (λ b d j. h b d (inr j)) (h x y (inl (refl, refl)) n) c i

  off_last : (x : ℕ) (l : List ℕ) → None (x ∷ l) → (a : ℕ) → In a (x ∷ l) → ¬ (In a placed) → ¬ (In (last_of x l) placed)
  off_last x [] h a (inl e) n = rw e at n
  off_last x [] h a (inr z) n = absurd z
  off_last x (y ∷ l) h a (inl e) n = off_on x (y ∷ l) h (rw e at n) (last_of y l) (inr (last_in y l))
  off_last x (y ∷ l) h a (inr i) n = off_last y l (λ b d j. h b d (inr j)) a i n

  pub all_placed : (l : List ℕ) → openings (mem placed) l ≡ 0 → (a : ℕ) → In a l → In a placed → (b : ℕ) → In b l → In b placed
  all_placed [] e a i on b j = absurd i
  all_placed (y ∷ l) e a i on b j = go (in_dec b placed)
    where
      h : None (last_of y l ∷ y ∷ l)
      h = starts_none (last_of y l) (y ∷ l) (sym (starts_from placed (last_of y l) (y ∷ l)) ∙ e)

      go : Dec (In b placed) → In b placed
      go (yes k) = k
      go (no n) = absurd (off_on (last_of y l) (y ∷ l) h (off_last y l (λ b d j. h b d (inr j)) b j n) a (inr i) on)
