-- Where a run begins, and how long it is: what a loop over a ring's places finds.
use mathlib.Core.Path.{◌≡◌, refl, sym, ap, ◌∙◌, subst}
use mathlib.Core.Logic.{inl, inr}
use mathlib.Core.Bool.{true, not}
use mathlib.Core.List.{List, [], ◌∷◌, ◌++◌, append_assoc, append-nil}
use Prim.Native.Nat.{ℕ, suc, ◌+◌, ◌<◌}
use native.Mathlib.Omega.{arith}
use lib.Dec.{T, eqb, not_T}
use lib.ListN.{length, get_or, take, drop, length-drop, take-append-drop, get_or-append}
use lib.Seq.{drop-cons, get_or-drop}
use Rattle.words.specs.First.{first}
use Rattle.words.specs.Lists.{In, mem, all_of, count, Adj}
use Rattle.words.specs.Positions.{post}
use Rattle.words.proofs.First.{some_found, first_found, first_same}
use Rattle.words.proofs.Lists.{Once, in_cases, adj_in_right}
use Rattle.words.proofs.Tests.{holds, is_true, or_left, mem_in, in_mem, all_says, says_all, count_append}
use Rattle.words.proofs.Tests.{count_none, count_all, once_different}
use Rattle.rings.specs.Rings.{ring, around}
use Rattle.rings.proofs.Around.{around_turn, around_in}
use Rattle.order.specs.Order.{from, lead, rest, leads, one_run, begins, run_begin, run}
use Rattle.order.proofs.Tests.{lead_rest, lead_placed, leads_says, says_leads, from_out, begins_says, says_begins}

-- ---- how long the run is
module _ (placed : List ℕ) where
  -- where the placed entries lead, they are as many as are placed
  pub lead_length : (l : List ℕ) → T (leads placed l) → length (lead placed l) ≡ count (mem placed) l
  lead_length l t =
      omega (
        arith,
        ap (count (mem placed)) (lead_rest placed l),
        count_append (mem placed) (lead placed l) (rest placed l),
        count_none (mem placed) (rest placed l) (λ a i m. leads_says placed l t a i (mem_in placed a m)),
        count_all (mem placed) (lead placed l) (λ a i. in_mem placed a (lead_placed placed l a i)),
      )

  pub from_count : (s : ℕ) (l : List ℕ) → count (mem placed) (from s l) ≡ count (mem placed) l
  unfolding from
  from_count s l =
      omega
      (arith, ap (count (mem placed)) (take-append-drop s l), count_append (mem placed) (take s l) (drop s l), count_append (mem placed) (drop s l) (take s l))

-- a ring read from place s on, by places, as far as its end
pub from_inside : (l : List ℕ) (s i : ℕ) → s + i < length l → get_or (from s l) i 0 ≡ get_or l (s + i) 0
unfolding from
from_inside l s i h = get_or-append (drop s l) (take s l) 0 i (omega (arith, length-drop s l)) ∙ get_or-drop s l i 0

-- ---- where the run begins
module _ (placed : List ℕ) where
  -- in a list that begins with its placed entries, read around, only its first one follows one that is not placed
  to_first : (A Z : List ℕ) (x b c : ℕ) → Adj (A ++ (Z ++ x ∷ [])) b c → ((a : ℕ) → In a A → In a placed) → ((a : ℕ) → In a Z → ¬ (In a placed))
      → ¬ (In b placed) → In c placed → c ≡ x
  to_first [] Z x b c h on off nb hc =
      in_cases c Z (x ∷ []) (λ i. absurd (off c i hc)) (elim [ inl e ↦ e | inr i ↦ absurd i ]) (adj_in_right b c (Z ++ x ∷ []) h)
  to_first (a ∷ A) Z x b c (inl h) on off nb hc = absurd (nb (rw h.0 at (on a (inl refl))))
  to_first (a ∷ A) Z x b c (inr h) on off nb hc = to_first A Z x b c h (λ y i. on y (inr i)) off nb hc

  leads_first : (x : ℕ) (l : List ℕ) → T (leads placed (x ∷ l)) → (b c : ℕ) → Adj (around (x ∷ l)) b c → ¬ (In b placed) → In c placed → c ≡ x
  unfolding around
  leads_first x l t b c h nb hc =
      to_first (lead placed (x ∷ l)) (rest placed (x ∷ l)) x b c
      (subst (λ (r : List ℕ). Adj r b c)
      (ap (λ (r : List ℕ). r ++ x ∷ []) (sym (lead_rest placed (x ∷ l))) ∙ append_assoc (lead placed (x ∷ l)) (rest placed (x ∷ l)) (x ∷ [])) h)
      (lead_placed placed (x ∷ l)) (leads_says placed (x ∷ l) t) nb hc

  -- so read from place s on: the placed entry that follows one that is not is entry s
  from_first : (l : List ℕ) (s : ℕ) → s < length l → T (leads placed (from s l)) → (b c : ℕ) → Adj (around l) b c → ¬ (In b placed) → In c placed
      → c ≡ get_or l s 0
  unfolding from
  from_first l s h t b c f nb hc =
      let e : from s l ≡ get_or l s 0 ∷ (drop (suc s) l ++ take s l) = ap (λ (r : List ℕ). r ++ take s l) (drop-cons l s 0 h) in
      leads_first (get_or l s 0) (drop (suc s) l ++ take s l) (rw e at t) b c
      (subst (λ (r : List ℕ). Adj (around r) b c) e (around_turn (take s l) (drop s l) b c (rw take-append-drop f))) nb hc

module _ (G : List (List ℕ)) (placed : List ℕ) (v : ℕ) (o : Once (ring G v)) where
  -- In a ring with one run, it begins at the place of an entry that is placed, if the one before it is not.
  module _ (one : one_run G placed v ≡ true) (s : ℕ) (h : s < length (ring G v)) (b : ℕ) (f : Adj (around (ring G v)) b (get_or (ring G v) s 0))
      (nb : ¬ (In b placed)) (hc : In (get_or (ring G v) s 0) placed) where
    begins_at : (run_begin G placed v ≡ s) × T (leads placed (from s (ring G v)))
    unfolding one_run
    begins_at =
        let l = ring G v in
        let notall : T (not (all_of (mem placed) l)) =
        not_T (all_of (mem placed) l) (λ a. nb (mem_in placed b (all_says (mem placed) l a b (around_in l b (get_or l s 0) f).0))) in
        let w = some_found (λ s. leads placed (from s l)) 0 (length l) one in
        let t = first_found (begins G placed v) 0 (length l) w.0 (omega arith) w.2
        (is_true _ (says_begins G placed v w.0 (holds _ w.3) (or_left (not (all_of (mem placed) l)) _ notall))) in
        let r = first 0 (length l) (begins G placed v) in
        let i : r < length l = omega (arith, t.0) in
        let c = (begins_says G placed v r (holds _ t.1)).0 in
        let q : r ≡ s = sym (once_different l o s r h i (from_first placed l r i c b (get_or l s 0) f nb hc)) in
        (q, subst (λ (s : ℕ). T (leads placed (from s l))) q c)

    -- and it has as many entries as are placed
    pub run_at_lem : (run_begin G placed v ≡ s) × (length (run G placed v) ≡ count (mem placed) (ring G v))
    unfolding run
    run_at_lem = (
      begins_at.0,
      ap (λ (s : ℕ). length (lead placed (from s (ring G v)))) begins_at.0 ∙ lead_length placed (from s (ring G v)) begins_at.1
          ∙ from_count placed s (ring G v),
    )

-- Where the whole ring is placed, the run begins at v1's place, and is the whole ring read from there.
module _ (G : List (List ℕ)) (placed : List ℕ) (v : ℕ) (all : (a : ℕ) → In a (ring G v) → In a placed) where
  whole_leads : (s : ℕ) → T (leads placed (from s (ring G v)))
  whole_leads s =
      let l = from s (ring G v) in
      subst (λ (r : List ℕ). T (leads placed r)) (append-nil l) (says_leads placed l [] (λ a i. all a (from_out s (ring G v) a i)) (λ a i. absurd i))

  whole_begins : (s : ℕ) → begins G placed v s ≡ eqb (get_or (ring G v) s 0) (post placed 1)
  unfolding begins
  whole_begins s =
      let l = ring G v in
      rw (is_true (leads placed (from s l)) (whole_leads s), is_true (all_of (mem placed) l) (says_all (mem placed) l (λ a i. in_mem placed a (all a i)))) refl

  pub run_whole_begin : run_begin G placed v ≡ first 0 (length (ring G v)) (λ s. eqb (get_or (ring G v) s 0) (post placed 1))
  run_whole_begin = first_same _ _ 0 (length (ring G v)) (λ s h i. whole_begins s)

  pub run_whole_length : length (run G placed v) ≡ count (mem placed) (ring G v)
  unfolding run
  run_whole_length =
      lead_length placed (from (run_begin G placed v) (ring G v)) (whole_leads (run_begin G placed v)) ∙ from_count placed (run_begin G placed v) (ring G v)
