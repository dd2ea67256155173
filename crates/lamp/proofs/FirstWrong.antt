-- A refusal of step 9 tells the first wrong entry of the lowest list that has one, and only one number and name do.
use Prim.Native.Nat.{ℕ, ◌≤◌, ◌<◌}
use mathlib.Core.Path.{◌≡◌, refl, sym, ap, ◌∙◌, subst}
use mathlib.Core.Logic.{inl, inr, ◌≢◌}
use mathlib.Core.Bool.{Bool, true, false, ◌||◌, true≢false}
use mathlib.Core.List.{List, [], ◌++◌, append-nil}
use native.Mathlib.Omega.{arith}
use lib.ListN.{length, take}
use borrow.Author.Tests.{leb-true, leb-false, eqb-true, eqb-false, not-true, not-false}
use Rattle.words.specs.Lists.{In, mem}
use Rattle.words.proofs.First.{first_is}
use Rattle.words.proofs.Tests.{holds, neither, mem_in, mem_true}
use Rattle.words.proofs.Positions.{in_take, take_in}
use Rattle.block.specs.Block.{posts, lists}
use Rattle.rings.specs.Rings.{ring, ring_rule}
use Rattle.rings.specs.Faults.{entry, is_high, is_itself, is_repeated, is_unreturned, is_bad, first_bad}
use Rattle.rings.proofs.Faults.{rule_fine, broken_bad}
use Rattle.lamp.specs.Lamp.{Row, name, some_name, ring_fault, ring_rows}
use Rattle.lamp.specs.Lamp.{stage_rows, room_rows, name_rows, block_rows, check_rows, sheet_rows, post_rows}
use Rattle.lamp.specs.Given.{refused, given}
use Rattle.lamp.specs.Retired.{NoneIs}
use Rattle.lamp.specs.FirstWrong.{Wrong, high, itself, repeated, unreturned, Right, FirstWrong, list_numbers, ToldRight}
use Rattle.lamp.proofs.Given.{given_past}
use Rattle.lamp.proofs.RowNumbers.{each_both, each_before, each_after, past_others, none_given}
use Rattle.lamp.proofs.RingRows.{before_rings, after_rings, number_by, rings_none, ring_given, lowest_broken}

-- ---- what the four tests say of an entry
module _ (G : List (List ℕ)) (u i : ℕ) where
  abbrev l : List ℕ
  l = ring G u

  abbrev v : ℕ
  v = entry G u i

  not_high : is_high G u i ≡ false → ¬ (Wrong G u i 9)
  unfolding is_high
  not_high e (high h) = let z = leb-false (length G) v e in omega arith

  not_itself : is_itself G u i ≡ false → ¬ (Wrong G u i 18)
  unfolding is_itself
  not_itself e (itself h) = eqb-false v u e h

  not_repeated : i < length l → is_repeated G u i ≡ false → ¬ (Wrong G u i 19)
  unfolding is_repeated
  not_repeated h e (repeated j k q) =
      true≢false (sym (mem_true (take i l) v (subst (λ (a : ℕ). In a (take i l)) q (take_in i l j k (omega arith)))) ∙ e)

  not_unreturned : is_unreturned G u i ≡ false → ¬ (Wrong G u i 20)
  unfolding is_unreturned
  not_unreturned e (unreturned n) = n (mem_in (ring G v) u (holds (mem (ring G v) u) (not-false (mem (ring G v) u) e)))

  is_high_lem : is_high G u i ≡ true → Wrong G u i 9
  unfolding is_high
  is_high_lem e = high (leb-true (length G) v e)

  is_itself_lem : is_itself G u i ≡ true → Wrong G u i 18
  unfolding is_itself
  is_itself_lem e = itself (eqb-true v u e)

  is_repeated_lem : is_repeated G u i ≡ true → Wrong G u i 19
  unfolding is_repeated
  is_repeated_lem e = let p = in_take i l v (mem_in (take i l) v (holds (mem (take i l) v) e)) in repeated p.0 p.1 p.3

  is_unreturned_lem : is_unreturned G u i ≡ true → Wrong G u i 20
  unfolding is_unreturned
  is_unreturned_lem e = unreturned (λ h. true≢false (sym (mem_true (ring G v) u h) ∙ not-true (mem (ring G v) u) e))

  pub good_right : i < length l → is_bad G u i ≡ false → Right G u i
  unfolding is_bad
  good_right h e =
      let a = neither (is_high G u i) _ e in
      let b = neither (is_itself G u i) _ a.1 in
      let c = neither (is_repeated G u i) _ b.1 in
      go a.0 b.0 c.0 c.1
    where
      go : is_high G u i ≡ false → is_itself G u i ≡ false → is_repeated G u i ≡ false → is_unreturned G u i ≡ false → Right G u i
      go a b c d _ (high w) = not_high a (high w)
      go a b c d _ (itself w) = not_itself b (itself w)
      go a b c d _ (repeated j k w) = not_repeated h c (repeated j k w)
      go a b c d _ (unreturned w) = not_unreturned d (unreturned w)

  -- a bad entry is wrong in the first way that it has, and in none before
  pub bad_wrong : i < length l → is_bad G u i ≡ true
      → let number = number_by (is_high G u i) (is_itself G u i) (is_repeated G u i) in Wrong G u i number × ((m : ℕ) → m < number → ¬ (Wrong G u i m))
  unfolding is_bad
  bad_wrong h o = go (is_high G u i) (is_itself G u i) (is_repeated G u i) (is_unreturned G u i) refl refl refl refl o
    where
      go : (a b c d : Bool) → is_high G u i ≡ a → is_itself G u i ≡ b → is_repeated G u i ≡ c → is_unreturned G u i ≡ d → a || (b || (c || d)) ≡ true
          → Wrong G u i (number_by a b c) × ((m : ℕ) → m < number_by a b c → ¬ (Wrong G u i m))
      go true b c d p q r t o = (is_high_lem p, λ m k w. none m k w)
        where
          none : (m : ℕ) → m < 9 → Wrong G u i m → ⊥
          none _ k (high w) = omega arith
          none _ k (itself w) = omega arith
          none _ k (repeated j i w) = omega arith
          none _ k (unreturned w) = omega arith
      go false true c d p q r t o = (is_itself_lem q, λ m k w. none m k w)
        where
          none : (m : ℕ) → m < 18 → Wrong G u i m → ⊥
          none _ k (high w) = not_high p (high w)
          none _ k (itself w) = omega arith
          none _ k (repeated j i w) = omega arith
          none _ k (unreturned w) = omega arith
      go false false true d p q r t o = (is_repeated_lem r, λ m k w. none m k w)
        where
          none : (m : ℕ) → m < 19 → Wrong G u i m → ⊥
          none _ k (high w) = not_high p (high w)
          none _ k (itself w) = not_itself q (itself w)
          none _ k (repeated j i w) = omega arith
          none _ k (unreturned w) = omega arith
      go false false false true p q r t o = (is_unreturned_lem t, λ m k w. none m k w)
        where
          none : (m : ℕ) → m < 20 → Wrong G u i m → ⊥
          none _ k (high w) = not_high p (high w)
          none _ k (itself w) = not_itself q (itself w)
          none _ k (repeated j i w) = not_repeated h r (repeated j i w)
          none _ k (unreturned w) = omega arith
      go false false false false p q r t o = absurd (true≢false (sym o))

-- ---- the lowest list, of a block
module _ (s : List ℕ) (t : some_name ring_fault s ≡ true) where
  abbrev B : List (List ℕ)
  B = lists s

  abbrev n : ℕ
  n = name ring_fault s

  lowest_wrong : FirstWrong B n (number_by (is_high B n (first_bad B n)) (is_itself B n (first_bad B n)) (is_repeated B n (first_bad B n)))
  unfolding first_bad
  lowest_wrong =
      let N = first_is (ring_fault s) (posts s) 0 in
      let F = first_is (is_bad B n) (length (ring B n)) 0 in
      let e = lowest_broken s t in
      let at = broken_bad B n e in
      let told = bad_wrong B n (first_bad B n) at.0 at.1 in
      record {
        lower = λ w i h k. good_right B w i k (rule_fine B w (not-false (ring_rule B w) (N.before w (omega arith) h)) i k);
        i = first_bad B n;
        inside = at.0;
        before = λ j h. good_right B n j (omega (arith, at.0)) (F.before j (omega arith) h);
        wrong = told.0;
        least = told.1;
      }

-- ---- only rows of step 9 give its numbers
module _ {A : Type 0} (s : List ℕ) (answer : List ℕ → A) (number place : ℕ) where
  by_rings : (rest : List Row) → NoneIs number rest → given (ring_rows ++ rest) s answer ≡ refused number place → FirstWrong (lists s) place number
  by_rings rest h e = go (some_name ring_fault s) refl
    where
      go : (x : Bool) → some_name ring_fault s ≡ x → FirstWrong (lists s) place number
      go true t =
          let G = lists s in
          let u = name ring_fault s in
          let i = first_bad G u in
          let q = sym (ring_given s answer rest t) ∙ e in
          let m : number_by (is_high G u i) (is_itself G u i) (is_repeated G u i) ≡ number = cc in
          let p : u ≡ place = cc in
          subst (λ (k : ℕ). FirstWrong G place k) m (subst (λ (w : ℕ). FirstWrong G w (number_by (is_high G u i) (is_itself G u i) (is_repeated G u i))) p
          (lowest_wrong s t))
      go false t = absurd (none_given answer s rest number place h (sym (given_past s answer ring_rows rest (rings_none s t)) ∙ e))

module _ (number : ℕ) (h : In number list_numbers) where
  other : (m : ℕ) → m < 18 → m ≢ 9 → m ≢ number
  other m l n q = go h
    where
      go : In number list_numbers → ⊥
      go (inl e) = n (q ∙ e)
      go (inr (inl e)) = omega arith
      go (inr (inr (inl e))) = omega arith
      go (inr (inr (inr (inl e)))) = omega arith
      go (inr (inr (inr (inr x4)))) = elim x4 [ ]

  low : (m : ℕ) → 1 ≤ m → m ≤ 13 → m ≢ 9 → m ≢ number
  low m l k n = other m (omega arith) n

  -- check's rows, and after them any with other numbers
  told_wrong : {A : Type 0} (answer : List ℕ → A) (s : List ℕ) (place : ℕ) (after : List Row) → NoneIs number after
      → given (check_rows s ++ after) s answer ≡ refused number place → FirstWrong (lists s) place number
  unfolding check_rows block_rows
  told_wrong answer s place after k e =
      let rest = after_rings s ++ after in
      by_rings s answer number place rest (each_both _ (after_rings s) after (each_after _ low s) k)
      (past_others answer s before_rings (ring_rows ++ rest) number place (each_before _ low) e)

  told_check : {A : Type 0} (answer : List ℕ → A) (s : List ℕ) (place : ℕ) → given (check_rows s) s answer ≡ refused number place
      → FirstWrong (lists s) place number
  told_check answer s place e = told_wrong answer s place [] tt (ap (λ (l : List Row). given l s answer) (append-nil (check_rows s)) ∙ e)

  told_sheet : {A : Type 0} (answer : List ℕ → A) (s : List ℕ) (k room place : ℕ) → given (sheet_rows s k room) s answer ≡ refused number place
      → FirstWrong (lists s) place number
  unfolding sheet_rows
  told_sheet answer s k room place e =
      let own : NoneIs number (stage_rows k ++ room_rows k room) = (other _ (omega arith) (λ z. omega arith), (other _ (omega arith) (λ z. omega arith), tt)) in
      told_wrong answer s place (stage_rows k ++ room_rows k room) own e

  told_post : {A : Type 0} (answer : List ℕ → A) (s : List ℕ) (k u place : ℕ) → given (post_rows s k u) s answer ≡ refused number place
      → FirstWrong (lists s) place number
  unfolding post_rows
  told_post answer s k u place e =
      let own : NoneIs number (stage_rows k ++ name_rows u) = (other _ (omega arith) (λ z. omega arith), (other _ (omega arith) (λ z. omega arith), tt)) in
      told_wrong answer s place (stage_rows k ++ name_rows u) own e

-- ---- one name and one number
equal : (a b : ℕ) → ¬ (a < b) → ¬ (b < a) → a ≡ b
equal a b x y = omega arith

module _ (G : List (List ℕ)) where
  not_lower : (u v m number : ℕ) → FirstWrong G u m → FirstWrong G v number → ¬ (u < v)
  not_lower u v m number a b h = b.lower u a.i h a.inside m a.wrong

  not_before : (u m number : ℕ) (a : FirstWrong G u m) (b : FirstWrong G u number) → ¬ (a.i < b.i)
  not_before u m number a b h = b.before a.i h m a.wrong

  same_number : (u m number : ℕ) → FirstWrong G u m → FirstWrong G u number → m ≡ number
  same_number u m number a b =
      let i = equal a.i b.i (not_before u m number a b) (not_before u number m b a) in
      let x : ¬ (number < m) = λ h. a.least number h (subst (λ (j : ℕ). Wrong G u j number) (sym i) b.wrong) in
      let y : ¬ (m < number) = λ h. b.least m h (subst (λ (j : ℕ). Wrong G u j m) i a.wrong) in
      equal m number y x

  one_told : (u v m number : ℕ) → FirstWrong G u m → FirstWrong G v number → (u ≡ v) × (m ≡ number)
  one_told u v m number a b =
      let e = equal u v (not_lower u v m number a b) (not_lower v u number m b a) in
      (e, same_number v m number (subst (λ (w : ℕ). FirstWrong G w m) e a) b)

pub told_right : ToldRight
told_right =
    record {
      check = λ answer s number place h. told_check number h answer s place;
      sheet = λ answer s k room number place h. told_sheet number h answer s k room place;
      post = λ answer s k u number place h. told_post number h answer s k u place;
      one = one_told;
    }
