-- Earlier and later positions of an order, as lists and by positions.
use Rattle.std.proofs.Common.{◌≡◌, ℕ, zero, suc, ◌+◌, ◌-◌, ◌<◌, ◌≤◌, Bool, true, false, eqb, List, [], ◌∷◌, ◌++◌, length, get_or, take}
use Rattle.std.proofs.Common.{drop, sym, refl, ap, ◌∙◌, inl, inr, true≢false, arith, length-drop, take-append-drop, get_or-drop, drop-cons}
use Rattle.std.proofs.Common.{take-suc, eq-eqb, eqb-true}
use native.Mathlib.Decide.{dec_lt}
use Rattle.words.specs.Lists.{In, Different}
use Rattle.words.specs.Positions.{post, earlier, later, position_of, Earlier, Later}
use Rattle.words.proofs.First.{first_is}
use Rattle.words.proofs.Lists.{Once, in_cases, once_split}
use Rattle.words.proofs.Tests.{place_in, in_place}

pub in_take : (n : ℕ) (l : List ℕ) (a : ℕ) → In a (take n l) → (i : ℕ) × (i < n) × (i < length l) × (get_or l i 0 ≡ a)
in_take zero l a h = absurd h
in_take (suc n) [] a h = absurd h
in_take (suc n) (x ∷ l) a (inl e) = (0, omega arith, omega arith, sym e)
in_take (suc n) (x ∷ l) a (inr h) = let t = in_take n l a h in (suc t.0, omega (arith, t.1), omega (arith, t.2), t.3)

pub take_in : (n : ℕ) (l : List ℕ) (i : ℕ) → i < n → i < length l → In (get_or l i 0) (take n l)
take_in zero l i h k = absurd (omega arith)
take_in (suc n) [] i h k = absurd (omega arith)
take_in (suc n) (x ∷ l) zero h k = inl refl
take_in (suc n) (x ∷ l) (suc i) h k = inr (take_in n l i (omega arith) (omega arith))

pub post_suc : (vs : List ℕ) (i : ℕ) → post vs (suc i) ≡ get_or vs i 0
post_suc vs i = let e : suc i - 1 ≡ i = omega arith in rw e

module _ (vs : List ℕ) (k a : ℕ) where
  pub earlier_in : k ≤ suc (length vs) → Earlier vs k a → In a (earlier vs k)
  earlier_in h t = rw (← t.3) (take_in (k - 1) vs (t.0 - 1) (omega (arith, t.1, t.2)) (omega (arith, t.1, t.2)))

  pub in_earlier : In a (earlier vs k) → Earlier vs k a
  in_earlier h = let t = in_take (k - 1) vs a h in (suc t.0, omega arith, omega (arith, t.1), post_suc vs t.0 ∙ t.3)

  pub later_in : Later vs k a → In a (later vs k)
  later_in t =
      let e : get_or (drop k vs) (t.0 - 1 - k) 0 ≡ get_or vs (t.0 - 1) 0 =
      get_or-drop k vs (t.0 - 1 - k) 0 ∙ ap (λ (j : ℕ). get_or vs j 0) (omega (arith, t.1)) in
      rw (← t.3, ← e) (place_in (drop k vs) (t.0 - 1 - k) (omega (arith, t.1, t.2, length-drop k vs)))

  pub in_later : In a (later vs k) → Later vs k a
  in_later h =
      let t = in_place (drop k vs) a h in
      (suc (k + t.0), omega arith, omega (arith, t.1, length-drop k vs), post_suc vs (k + t.0) ∙ sym (get_or-drop k vs t.0 0) ∙ t.2)

-- the order is the posts before position k, the post in it, and those after it
pub at_position_lem : (vs : List ℕ) (k : ℕ) → 1 ≤ k → k ≤ length vs → vs ≡ earlier vs k ++ post vs k ∷ later vs k
at_position_lem vs k h i =
    let s : suc (k - 1) ≡ k = omega arith in
    let e : drop (k - 1) vs ≡ post vs k ∷ drop k vs = drop-cons vs (k - 1) 0 (omega arith) ∙ ap (λ (j : ℕ). post vs k ∷ drop j vs) s in
    sym (take-append-drop (k - 1) vs) ∙ ap (λ (r : List ℕ). take (k - 1) vs ++ r) e

-- the posts before position k+1 are those before k and the one in k
pub earlier_next : (vs : List ℕ) (k : ℕ) → 1 ≤ k → k ≤ length vs → take k vs ≡ earlier vs k ++ post vs k ∷ []
earlier_next vs k h i = let s : k ≡ suc (k - 1) = omega arith in ap (λ (j : ℕ). take j vs) s ∙ take-suc vs (k - 1) 0 (omega arith)

-- where the entries differ, a post in a position is neither earlier nor later
module _ (vs : List ℕ) (o : Once vs) (k : ℕ) (h : 1 ≤ k) (i : k ≤ length vs) where
  at_once : Once (earlier vs k ++ post vs k ∷ later vs k)
  at_once = rw (at_position_lem vs k h i) at o

  pub post_new : ¬ (In (post vs k) (earlier vs k))
  post_new j = (once_split (earlier vs k) (post vs k ∷ later vs k) at_once).1 (post vs k) j (inl refl)

  pub later_new : (a : ℕ) → In a (later vs k) → ¬ (In a (earlier vs k))
  later_new a l e = (once_split (earlier vs k) (post vs k ∷ later vs k) at_once).1 a e (inr l)

  pub earlier_or : {C : Type 0} (a : ℕ) → In a vs → (In a (earlier vs k) → C) → (a ≡ post vs k → C) → (In a (later vs k) → C) → C
  earlier_or a j f g l = in_cases a (earlier vs k) (post vs k ∷ later vs k) f (elim [ inl e ↦ g e | inr m ↦ l m ]) (rw (at_position_lem vs k h i) at j)

-- the position of a post that is among the first k
pub position_is : (vs : List ℕ) (k u : ℕ) → In u (take k vs)
    → (position_of vs u - 1 < k) × (position_of vs u - 1 < length vs) × (get_or vs (position_of vs u - 1) 0 ≡ u)
position_is vs k u h = go (in_take k vs u h)
  where
    F : ℕ
    F = position_of vs u

    go : (i : ℕ) × (i < k) × (i < length vs) × (get_or vs i 0 ≡ u) → (F - 1 < k) × (F - 1 < length vs) × (get_or vs (F - 1) 0 ≡ u)
    go t =
        let S = first_is (λ j. eqb (post vs j) u) (length vs) 1 in
        let here : eqb (post vs (suc t.0)) u ≡ true = eq-eqb (post vs (suc t.0)) u (post_suc vs t.0 ∙ t.3) in
        let le : F ≤ suc t.0 = low (dec_lt (suc t.0) F) (S.before (suc t.0) (omega arith)) here in
        (omega (arith, le, S.from, t.1), omega (arith, le, S.from, t.2), eqb-true (post vs F) u (S.there (omega (arith, le, t.2))))
      where
        low : {j : ℕ} {b : Bool} → Dec (j < F) → (j < F → b ≡ false) → b ≡ true → F ≤ j
        low (yes l) f e = absurd (true≢false (sym e ∙ f l))
        low (no n) f e = omega arith

-- where no name repeats, the post in position j has that position
pub position_at : (vs : List ℕ) → Different vs → (j : ℕ) → 1 ≤ j → j ≤ length vs → position_of vs (post vs j) ≡ j
position_at vs d j h i =
    let P = position_is vs (length vs) (post vs j) (take_in (length vs) vs (j - 1) (omega arith) (omega arith)) in
    let from = (first_is (λ k. eqb (post vs k) (post vs j)) (length vs) 1).from in
    let e = d (position_of vs (post vs j) - 1) (j - 1) P.1 (omega arith) P.2 in
    omega arith
