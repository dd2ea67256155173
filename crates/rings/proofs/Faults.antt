-- A list has no bad entry exactly if it keeps the ring rule; which fault an entry has, by what the code compared; and the loop over a list.
use Prim.Native.Nat.{ℕ, ◌+◌, ◌-◌, ◌≤◌, ◌<◌}
use mathlib.Core.Path.{◌≡◌, refl, sym, ap, ◌∙◌, subst}
use mathlib.Core.Logic.{◌≢◌}
use mathlib.Core.Bool.{Bool, true, false, not, cond, ◌||◌, true≢false}
use mathlib.Core.List.{List}
use native.Mathlib.Omega.{arith}
use native.Mathlib.Decide.{dec_lt}
use native.Mathlib.Nat.{sub-zero}
use lib.Dec.{leb, eqb}
use lib.ListN.{length, get_or, take}
use borrow.Author.Tests.{lt-ltb, le-ltb, le-leb, lt-leb, leb-false, eq-eqb, ne_eqb, eqb-false, not-false}
use Rattle.std.specs.Prelude.{Result, Ok, Err}
use Rattle.std.specs.List.{list_any}
use Rattle.std.specs.Result.{is_err}
use Rattle.words.specs.First.{first}
use Rattle.words.specs.Lists.{In, Different, mem}
use Rattle.words.proofs.First.{IsFirst, first_is, first_here, first_next, first_end}
use Rattle.words.proofs.Tests.{holds, neither, mem_in, mem_true, mem_false, place_in, in_place}
use Rattle.words.proofs.Positions.{in_take, take_in}
use Rattle.rings.specs.Rings.{ring, ring_rule}
use Rattle.rings.specs.Faults.{entry, is_high, is_itself, is_repeated, is_unreturned, is_bad, first_bad}
use Rattle.rings.specs.Found.{fault_at, fault_of}
use Rattle.rings.specs.declared.ListFault.{ListFault}
use Rattle.rings.specs.declared.ListFault.TheVariants.{High, Itself, Repeated, Unreturned}
use Rattle.rings.proofs.Turns.{any_mem}
use Rattle.rings.proofs.Says.{ring_says, says_ring}

-- ---- what an entry without a fault is, and the ring rule

module _ (G : List (List ℕ)) (u : ℕ) where
  abbrev l : List ℕ
  l = ring G u

  pub record Good (i : ℕ) : Type 0 where
    pub below : entry G u i < length G
    pub other : entry G u i ≢ u
    pub new : mem (take i l) (entry G u i) ≡ false
    pub returned : In u (ring G (entry G u i))

  good : (i : ℕ) → is_bad G u i ≡ false → Good i
  unfolding is_bad is_high is_itself is_repeated is_unreturned
  good i e =
      let v = entry G u i in
      let a = neither (leb (length G) v) _ e in
      let b = neither (eqb v u) _ a.1 in
      let c = neither (mem (take i l) v) _ b.1 in
      record {
        below = leb-false (length G) v a.0;
        other = eqb-false v u b.0;
        new = c.0;
        returned = mem_in (ring G v) u (holds (mem (ring G v) u) (not-false (mem (ring G v) u) c.1));
      }

  -- entries that repeat no earlier one are different
  apart : ((i : ℕ) → i < length l → mem (take i l) (entry G u i) ≡ false) → (i j : ℕ) → j < length l → i < j → get_or l i 0 ≢ get_or l j 0
  apart new i j h k e =
      let m = mem_true (take j l) (get_or l j 0) (subst (λ (a : ℕ). In a (take j l)) e (take_in j l i k (omega arith))) in
      true≢false (sym m ∙ new j h)

  different : ((i : ℕ) → i < length l → mem (take i l) (entry G u i) ≡ false) → Different l
  different new i j hi hj e =
      let x : ¬ (i < j) = λ k. apart new i j hj k e in
      let y : ¬ (j < i) = λ k. apart new j i hi k (sym e) in
      omega arith

  pub fine_rule : ((i : ℕ) → i < length l → is_bad G u i ≡ false) → ring_rule G u ≡ true
  fine_rule f =
      says_ring G u
      (record {
        below = λ v h. let p = in_place l v h in subst (λ (a : ℕ). a < length G) p.2 (good p.0 (f p.0 p.1)).below;
        other = λ v h. let p = in_place l v h in subst (λ (a : ℕ). a ≢ u) p.2 (good p.0 (f p.0 p.1)).other;
        once = different (λ i h. (good i (f i h)).new);
        returned = λ v h. let p = in_place l v h in subst (λ (a : ℕ). In u (ring G a)) p.2 (good p.0 (f p.0 p.1)).returned;
      })

  pub rule_fine : ring_rule G u ≡ true → (i : ℕ) → i < length l → is_bad G u i ≡ false
  unfolding is_bad is_high is_itself is_repeated is_unreturned
  rule_fine t i h =
      let K = ring_says G u t in
      let v = entry G u i in
      let here = place_in l i h in
      let new : ¬ (In v (take i l)) = λ m. let p = in_take i l v m in let e = K.once p.0 i p.2 h p.3 in absurd (omega (arith, e, p.1)) in
      rw (
        lt-leb (length G) v (K.below v here),
        ne_eqb v u (K.other v here),
        mem_false (take i l) v new,
        mem_true (ring G v) u (K.returned v here),
      ) refl

  -- a bad entry breaks it, and where it is broken the first bad entry is one of the list's
  pub bad_breaks : (i : ℕ) → i < length l → is_bad G u i ≡ true → ring_rule G u ≡ false
  bad_breaks i h t = go (ring_rule G u) refl
    where
      go : (b : Bool) → ring_rule G u ≡ b → ring_rule G u ≡ false
      go true e = absurd (true≢false (sym t ∙ rule_fine e i h))
      go false e = e

  pub broken_bad : ring_rule G u ≡ false → (first_bad G u < length l) × (is_bad G u (first_bad G u) ≡ true)
  unfolding first_bad
  broken_bad e = go (dec_lt (first_bad G u) (length l))
    where
      F : IsFirst 0 (length l) (is_bad G u) (first 0 (length l) (is_bad G u))
      F = first_is (is_bad G u) (length l) 0

      go : Dec (first_bad G u < length l) → (first_bad G u < length l) × (is_bad G u (first_bad G u) ≡ true)
      go (yes h) = (h, F.there (omega arith))
      go (no n) = absurd (true≢false (sym (fine_rule (λ i h. F.before i (omega arith) (omega arith))) ∙ e))

-- ---- an entry's fault, by what the code compared

module _ (G : List (List ℕ)) (u i : ℕ) (l : List ℕ) (el : l ≡ ring G u) where
  abbrev v : ℕ
  v = get_or l i 0

  pub is_high_lem : length G ≤ v → Err (High u) ≡ fault_at G u i
  unfolding fault_at is_high
  is_high_lem q = rw (← el, le-leb (length G) v q) refl

  module _ (low : v < length G) where
    pub is_itself_lem : v ≡ u → Err (Itself u) ≡ fault_at G u i
    unfolding fault_at is_high is_itself
    is_itself_lem q = rw (← el, lt-leb (length G) v low, eq-eqb v u q) refl

    module _ (other : v ≡ u → ⊥) (t : Bool) (et : t ≡ list_any (λ y. eqb y v) (take i l)) where
      pub is_repeated_lem : t ≡ true → Err (Repeated u) ≡ fault_at G u i
      unfolding fault_at is_high is_itself is_repeated
      is_repeated_lem q = rw (← el, lt-leb (length G) v low, ne_eqb v u other, ← any_mem (take i l) v, ← et, q) refl

      module _ (new : t ≡ false) (r : Bool) (er : r ≡ list_any (λ y. eqb y u) (ring G v)) where
        last : cond (not r) (Err (Unreturned u)) (Ok tt) ≡ fault_at G u i
        unfolding fault_at is_high is_itself is_repeated is_unreturned
        last = rw (← el, lt-leb (length G) v low, ne_eqb v u other, ← any_mem (take i l) v, ← et, new, ← any_mem (ring G v) u, ← er) refl

        pub is_unreturned_lem : r ≡ false → Err (Unreturned u) ≡ fault_at G u i
        is_unreturned_lem q = rw q at last

        pub is_sound : r ≡ true → Ok tt ≡ fault_at G u i
        is_sound q = rw q at last

module _ (G : List (List ℕ)) (u i : ℕ) where
  fault_cases : (r : Result Unit ListFault) (a b c d : Bool)
      → r ≡ cond a (Err (High u)) (cond b (Err (Itself u)) (cond c (Err (Repeated u)) (cond d (Err (Unreturned u)) (Ok tt))))
      → is_err r ≡ (a || (b || (c || d)))
  fault_cases r true b c d e = rw e refl
  fault_cases r false true c d e = rw e refl
  fault_cases r false false true d e = rw e refl
  fault_cases r false false false true e = rw e refl
  fault_cases r false false false false e = rw e refl

  pub fault_bad : (r : Result Unit ListFault) → r ≡ fault_at G u i → is_err r ≡ is_bad G u i
  unfolding fault_at is_bad
  fault_bad r e = fault_cases r (is_high G u i) (is_itself G u i) (is_repeated G u i) (is_unreturned G u i) e

-- ---- the loop over u's list: what is left to look at

module _ (G : List (List ℕ)) (u : ℕ) (l : List ℕ) (el : l ≡ ring G u) where
  pub search_start : first_bad G u ≡ first 0 (length l - 0) (is_bad G u)
  unfolding first_bad
  search_start = rw (el, sub-zero) refl

  module _ (i : ℕ) (so : first_bad G u ≡ first i (length l - i) (is_bad G u)) where
    module _ (h : i < length l) (r : Result Unit ListFault) (er : r ≡ fault_at G u i) where
      pub search_found : is_err r ≡ true → (first_bad G u ≡ i) × (not (ring_rule G u) ≡ true)
      search_found t =
          let bad = sym (fault_bad G u i r er) ∙ t in
          (so ∙ first_here (is_bad G u) i (length l) h bad, ap not (bad_breaks G u i (rw el at h) bad))

      pub search_next : is_err r ≡ false → first_bad G u ≡ first (i + 1) (length l - (i + 1)) (is_bad G u)
      search_next t = so ∙ first_next (is_bad G u) i (length l) h (sym (fault_bad G u i r er) ∙ t)

    pub search_done : i ≡ length l → not (ring_rule G u) ≡ false
    unfolding first_bad
    search_done q =
        let all : first_bad G u ≡ length l = so ∙ first_end (is_bad G u) i (length l) (omega arith) ∙ q in
        let F = first_is (is_bad G u) (length (ring G u)) 0 in
        ap not (fine_rule G u (λ j h. F.before j (omega arith) (omega (arith, all, ap length el))))

-- what is told of all lists, by the lowest one that breaks the rule
module _ (G : List (List ℕ)) (u : ℕ) (eu : first 0 (length G) (λ z. not (ring_rule G z)) ≡ u) where
  pub told_found : u < length G → fault_at G u (first_bad G u) ≡ fault_of G
  unfolding fault_of
  told_found h = rw (eu, lt-ltb u (length G) h) refl

  pub told_none : length G ≤ u → Ok tt ≡ fault_of G
  unfolding fault_of
  told_none h = rw (eu, le-ltb u (length G) h) refl
