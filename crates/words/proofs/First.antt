-- What "the first one that" is: not before the test holds, and where it does. A loop over i below e has `first i (e - i)` left to find.
use Rattle.std.proofs.Common.{◌≡◌, ℕ, zero, suc, ◌+◌, ◌-◌, ◌<◌, ◌≤◌, Bool, true, false, Some, None, List, length, get_or, sym, refl, ◌∙◌}
use Rattle.std.proofs.Common.{true≢false, add-one, zero-add, arith, ltb-false, ltb-true, le-ltb, lt-ltb}
use native.Mathlib.Decide.{ℕ_discrete, dec_lt}
use Rattle.std.specs.List.{position, position_or_len}
use Rattle.std.proofs.lemmas.List.Sums.{position_or_len_is}
use Rattle.words.specs.First.{first, some, first_if}

-- r is the first of the k numbers from i on for which p holds, or i + k
pub record IsFirst (i k : ℕ) (p : ℕ → Bool) (r : ℕ) : Type 0 where
  pub from : i ≤ r
  pub to : r ≤ i + k
  pub before : (j : ℕ) → i ≤ j → j < r → p j ≡ false
  pub there : r < i + k → p r ≡ true

module _ (p : ℕ → Bool) where
  first_zero : (i : ℕ) → first i zero p ≡ i
  unfolding first
  first_zero i = refl

  first_true : (i k : ℕ) → p i ≡ true → first i (suc k) p ≡ i
  unfolding first
  first_true i k e = rw (e, first)

  first_false : (i k : ℕ) → p i ≡ false → first i (suc k) p ≡ first (suc i) k p
  unfolding first
  first_false i k e = rw (e, first)

  -- a loop's turns
  pub first_end : (i e : ℕ) → e ≤ i → first i (e - i) p ≡ i
  first_end i e h = let z : e - i ≡ 0 = omega arith in rw z (first_zero i)

  pub first_here : (i e : ℕ) → i < e → p i ≡ true → first i (e - i) p ≡ i
  first_here i e h t = let z : e - i ≡ suc (e - (i + 1)) = omega arith in rw z (first_true i (e - (i + 1)) t)

  pub first_next : (i e : ℕ) → i < e → p i ≡ false → first i (e - i) p ≡ first (i + 1) (e - (i + 1)) p
  first_next i e h t =
      let z : e - i ≡ suc (e - suc i) = omega arith in
      rw (z, add-one) (first_false i (e - suc i) t)

  -- it is the first
  step : (i k : ℕ) {r : ℕ} → p i ≡ false → IsFirst (suc i) k p r → IsFirst i (suc k) p r
  step i k {r} e F =
      record { from = omega arith; to = omega arith; before = λ j a b. at j a b (ℕ_discrete i j); there = λ h. F.there (omega arith) }
    where
      at : (j : ℕ) → i ≤ j → j < r → Dec (i ≡ j) → p j ≡ false
      at j a b (yes q) = rw (← q) e
      at j a b (no n) = F.before j (omega arith) b

  pub first_is : (k i : ℕ) → IsFirst i k p (first i k p)
  first_is zero i =
      let e = first_zero i in
      record { from = omega arith; to = omega arith; before = λ j a b. absurd (omega arith); there = λ h. absurd (omega arith) }
  first_is (suc k) i = go (p i) refl (first_is k (suc i))
    where
      go : (b : Bool) → p i ≡ b → IsFirst (suc i) k p (first (suc i) k p) → IsFirst i (suc k) p (first i (suc k) p)
      go true e F =
          let f = first_true i k e in
          record { from = omega arith; to = omega arith; before = λ j a b. absurd (omega arith); there = λ h. rw f e }
      go false e F = rw (first_false i k e) (step i k e F)

  -- there is one, if some number of them passes the test; and if there is one, the first passes it
  pub some_true : (i k j : ℕ) → i ≤ j → j < i + k → p j ≡ true → some i k p ≡ true
  unfolding some
  some_true i k j a b t = lt-ltb (first i k p) (i + k) (go (dec_lt (first i k p) (i + k)))
    where
      go : Dec (first i k p < i + k) → first i k p < i + k
      go (yes h) = h
      go (no n) = absurd (true≢false (sym t ∙ (first_is k i).before j a (omega (arith, (first_is k i).to))))

  pub some_found : (i k : ℕ) → some i k p ≡ true → (j : ℕ) × (i ≤ j) × (j < i + k) × (p j ≡ true)
  unfolding some
  some_found i k t =
      let h = ltb-true (first i k p) (i + k) t in
      (first i k p, (first_is k i).from, h, (first_is k i).there h)

  pub some_none : (i k : ℕ) → some i k p ≡ false → (j : ℕ) → i ≤ j → j < i + k → p j ≡ false
  unfolding some
  some_none i k t j a b = (first_is k i).before j a (omega (arith, ltb-false (first i k p) (i + k) t))

  pub some_false : (i k : ℕ) → ((j : ℕ) → i ≤ j → j < i + k → p j ≡ false) → some i k p ≡ false
  unfolding some
  some_false i k f = le-ltb (first i k p) (i + k) (go (dec_lt (first i k p) (i + k)))
    where
      go : Dec (first i k p < i + k) → i + k ≤ first i k p
      go (yes h) = absurd (true≢false (sym ((first_is k i).there h) ∙ f (first i k p) (first_is k i).from h))
      go (no n) = omega arith

  -- the first passes the test, if some number of them does
  pub first_found : (i k j : ℕ) → i ≤ j → j < i + k → p j ≡ true → (first i k p < i + k) × (p (first i k p) ≡ true)
  first_found i k j a b t = go (dec_lt (first i k p) (i + k))
    where
      go : Dec (first i k p < i + k) → (first i k p < i + k) × (p (first i k p) ≡ true)
      go (yes h) = (h, (first_is k i).there h)
      go (no n) = absurd (true≢false (sym t ∙ (first_is k i).before j a (omega (arith, (first_is k i).to))))

-- tests that agree on the numbers find the same
pub first_same : (p q : ℕ → Bool) (i k : ℕ) → ((j : ℕ) → i ≤ j → j < i + k → p j ≡ q j) → first i k p ≡ first i k q
first_same p q i zero h = first_zero p i ∙ sym (first_zero q i)
first_same p q i (suc k) h = go (q i) refl (first_same p q (suc i) k (λ j a b. h j (omega arith) (omega arith)))
  where
    here : p i ≡ q i
    here = h i (omega arith) (omega arith)

    go : (b : Bool) → q i ≡ b → first (suc i) k p ≡ first (suc i) k q → first i (suc k) p ≡ first i (suc k) q
    go true e r = first_true p i k (here ∙ e) ∙ sym (first_true q i k e)
    go false e r = first_false p i k (here ∙ e) ∙ r ∙ sym (first_false q i k e)

-- ---- the first, if there is one

module _ (p : ℕ → Bool) where
  -- an answer that says there is one, and one that says there is none
  pub first_if_some : (i k r : ℕ) → Some r ≡ first_if i k p → (r ≡ first i k p) × (r < i + k)
  unfolding first_if some
  first_if_some i k r e = go (dec_lt (first i k p) (i + k))
    where
      go : Dec (first i k p < i + k) → (r ≡ first i k p) × (r < i + k)
      go (yes h) =
          let s : Some r ≡ Some (first i k p) = rw (lt-ltb (first i k p) (i + k) h) at e in
          let q : r ≡ first i k p = cc in
          (q, omega arith)
      go (no n) =
          let s : Some r ≡ None = rw (le-ltb (first i k p) (i + k) (omega arith)) at e in
          absurd (cc)

  pub first_if_none : (i k : ℕ) → None ≡ first_if i k p → i + k ≡ first i k p
  unfolding first_if some
  first_if_none i k e = go (dec_lt (first i k p) (i + k))
    where
      go : Dec (first i k p < i + k) → i + k ≡ first i k p
      go (yes h) =
          let s : None ≡ Some (first i k p) = rw (lt-ltb (first i k p) (i + k) h) at e in
          absurd (cc)
      go (no n) = omega (arith, (first_is p k i).to)

  -- what is the first is what `first` gives
  pub is_first : (i k : ℕ) {r : ℕ} → IsFirst i k p r → r ≡ first i k p
  is_first i k {r} F = go (dec_lt r (first i k p)) (dec_lt (first i k p) r)
    where
      G : IsFirst i k p (first i k p)
      G = first_is p k i

      go : Dec (r < first i k p) → Dec (first i k p < r) → r ≡ first i k p
      go (yes h) d = absurd (true≢false (sym (F.there (omega (arith, h, G.to))) ∙ G.before r F.from h))
      go (no n) (yes h) = absurd (true≢false (sym (G.there (omega (arith, h, F.to))) ∙ F.before (first i k p) G.from h))
      go (no n) (no m) = omega arith

  -- a search that finds one at r, and one that finds none
  pub found_first : (i k r : ℕ) → i ≤ r → r < i + k → ((j : ℕ) → i ≤ j → j < r → p j ≡ false) → p r ≡ true → Some r ≡ first_if i k p
  unfolding first_if some
  found_first i k r from to before there =
      let F : IsFirst i k p r = record { from = from; to = omega arith; before = before; there = λ h. there } in
      rw (← is_first i k F, lt-ltb r (i + k) to)

  pub found_none : (i k : ℕ) → ((j : ℕ) → i ≤ j → j < i + k → p j ≡ false) → None ≡ first_if i k p
  unfolding first_if some
  found_none i k before =
      let F : IsFirst i k p (i + k) = record { from = omega arith; to = omega arith; before = before; there = λ h. absurd (omega arith) } in
      rw (← is_first i k F, le-ltb (i + k) (i + k) (omega arith))

  -- by what `first` gives
  pub some_first_if : (i k r : ℕ) → r ≡ first i k p → r < i + k → Some r ≡ first_if i k p
  unfolding first_if some
  some_first_if i k r q h = rw (← q, lt-ltb r (i + k) h) refl

  pub none_first_if : (i k : ℕ) → i + k ≡ first i k p → None ≡ first_if i k p
  unfolding first_if some
  none_first_if i k q = rw (← q, le-ltb (i + k) (i + k) (omega arith)) refl

  -- of a list's places, it is where the first entry that passes stands
  pub first_place : (xs : List ℕ) → position_or_len p xs ≡ first 0 (length xs) (λ u. p (get_or xs u 0))
  first_place xs =
      let q = λ (u : ℕ). p (get_or xs u 0) in
      let F = first_is q (length xs) 0 in
      let there : first 0 (length xs) q < length xs → q (first 0 (length xs) q) ≡ true = λ h. F.there (omega arith) in
      position_or_len_is p xs (first 0 (length xs) q) 0 (omega (arith, F.to)) (λ j h. F.before j (omega arith) h) there

  pub first_position : (xs : List ℕ) → position p xs ≡ first_if 0 (length xs) (λ u. p (get_or xs u 0))
  unfolding first_if some
  first_position xs = rw (zero-add, first_place xs) refl
