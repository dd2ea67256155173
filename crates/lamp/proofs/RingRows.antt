-- The four rows of step 9: one of them applies exactly if some list breaks the ring rule; and which it is, by what the code found.
use Prim.Native.Nat.{ℕ, ◌+◌, ◌≤◌, ◌<◌}
use mathlib.Core.Path.{◌≡◌, refl, sym, ◌∙◌}
use mathlib.Core.Bool.{Bool, true, false, cond, ◌&&◌, ◌||◌, true≢false}
use mathlib.Core.List.{List, [], ◌∷◌, ◌++◌}
use native.Mathlib.Omega.{arith}
use lib.Dec.{ltb}
use lib.ListN.{length}
use borrow.Author.Tests.{ltb-true, ltb-false, lt-ltb, le-ltb, not-true}
use Rattle.words.specs.First.{some}
use Rattle.words.proofs.First.{first_is}
use Rattle.words.proofs.Tests.{neither}
use Rattle.block.specs.Block.{posts, lists}
use Rattle.rings.specs.Rings.{ring_rule}
use Rattle.rings.specs.Faults.{is_high, is_itself, is_repeated, is_unreturned, is_bad, first_bad}
use Rattle.rings.specs.Found.{fault_at, fault_of}
use Rattle.rings.specs.declared.ListFault.{ListFault}
use Rattle.rings.proofs.Faults.{broken_bad}
use Rattle.lamp.specs.Lamp.{Row, name, some_name, ring_fault, high_row, itself_row, repeated_row, unreturned_row, header_rows, sum_rows}
use Rattle.lamp.specs.Lamp.{order_rows, degree_rows, ring_rows, triangle_rows, outer_rows, fitting_rows}
use Rattle.std.proofs.Common.{Result, Ok, Err}
use Rattle.lamp.specs.Given.{refused, reply_of, given, nothing, tried, NoneApplies}
use Rattle.lamp.specs.Finer.{applies}
use Rattle.lamp.specs.Loaded.{refusal_for}
use Rattle.lamp.specs.declared.Refusal.{Refusal}
use Rattle.lamp.proofs.Given.{given_first, given_none}

-- check's rows before the four, and after them
abbrev pub before_rings : List Row
before_rings = header_rows ++ sum_rows ++ order_rows ++ degree_rows

abbrev pub after_rings : List ℕ → List Row
after_rings s = (triangle_rows ++ outer_rows) ++ fitting_rows s

-- the number by which of the faults an entry has, if it has one
abbrev pub number_by : Bool → Bool → Bool → ℕ
number_by a b c = cond a 9 (cond b 18 (cond c 19 20))

-- what the code answers for what it found in the lists
abbrev pub ring_answer : Result (Unit {0}) ListFault → Result (Unit {0}) Refusal
ring_answer (Ok t) = Ok t
ring_answer (Err f) = Err (refusal_for f)

-- one of some rows applies, or none
pub none_applies : (rows : List Row) (s : List ℕ) → NoneApplies rows s → applies rows s ≡ false
none_applies [] s h = refl
none_applies (r ∷ rows) s h = rw h.0 (none_applies rows s h.1)

pub applies_none : (rows : List Row) (s : List ℕ) → applies rows s ≡ false → NoneApplies rows s
applies_none [] s e = tt
applies_none (r ∷ rows) s e = let t = neither (r.when s) (applies rows s) e in (t.0, applies_none rows s t.1)

module _ (s : List ℕ) where
  abbrev pub G : List (List ℕ)
  G = lists s

  -- the lowest name with a fault, and which entry of its list is the first bad one
  abbrev pub u : ℕ
  u = name ring_fault s

  abbrev pub i : ℕ
  i = first_bad G u

  lowest_name : some_name ring_fault s ≡ true → u < 0 + posts s
  unfolding some
  lowest_name t = ltb-true u (0 + posts s) t

  no_name : some_name ring_fault s ≡ false → 0 + posts s ≤ u
  unfolding some
  no_name t = ltb-false u (0 + posts s) t

  pub lowest_broken : some_name ring_fault s ≡ true → ring_rule G u ≡ false
  lowest_broken t = not-true (ring_rule G u) ((first_is (ring_fault s) (posts s) 0).there (lowest_name t))

  lowest_bad : some_name ring_fault s ≡ true → is_bad G u i ≡ true
  lowest_bad t = (broken_bad G u (lowest_broken t)).1

  -- where some list breaks the rule, the first of the four that applies is given
  module _ {A : Type 0} (answer : List ℕ → A) (rest : List Row) (t : some_name ring_fault s ≡ true) where
    by_high : is_high G u i ≡ true → given (ring_rows ++ rest) s answer ≡ refused 9 u
    by_high p = given_first s answer [] high_row (itself_row ∷ repeated_row ∷ unreturned_row ∷ rest) tt (rw (t, p) refl)

    by_fault : (a b c d : Bool) → is_high G u i ≡ a → is_itself G u i ≡ b → is_repeated G u i ≡ c → is_unreturned G u i ≡ d → a || (b || (c || d)) ≡ true
        → given (ring_rows ++ rest) s answer ≡ refused (number_by a b c) u
    by_fault true b c d p q v w o = by_high p
    by_fault false true c d p q v w o =
        given_first s answer (high_row ∷ []) itself_row (repeated_row ∷ unreturned_row ∷ rest) (rw (t, p) refl, tt) (rw (t, q) refl)
    by_fault false false true d p q v w o =
        given_first s answer (high_row ∷ itself_row ∷ []) repeated_row (unreturned_row ∷ rest) (rw (t, p) refl, (rw (t, q) refl, tt)) (rw (t, v) refl)
    by_fault false false false true p q v w o =
        given_first s answer (high_row ∷ itself_row ∷ repeated_row ∷ []) unreturned_row rest (rw (t, p) refl, (rw (t, q) refl, (rw (t, v) refl, tt)))
        (rw (t, w) refl)
    by_fault false false false false p q v w o = absurd (true≢false (sym o))

    pub ring_given : given (ring_rows ++ rest) s answer ≡ refused (number_by (is_high G u i) (is_itself G u i) (is_repeated G u i)) u
    unfolding is_bad
    ring_given = by_fault (is_high G u i) (is_itself G u i) (is_repeated G u i) (is_unreturned G u i) refl refl refl refl (lowest_bad t)

  one_of : (x a b c d : Bool) → (x ≡ true → a || (b || (c || d)) ≡ true) → (x && a) || ((x && b) || ((x && c) || ((x && d) || false))) ≡ x
  one_of false a b c d f = refl
  one_of true true b c d f = refl
  one_of true false true c d f = refl
  one_of true false false true d f = refl
  one_of true false false false true f = refl
  one_of true false false false false f = f refl

  pub exactly : applies ring_rows s ≡ some_name ring_fault s
  unfolding is_bad
  exactly = one_of (some_name ring_fault s) (is_high G u i) (is_itself G u i) (is_repeated G u i) (is_unreturned G u i) lowest_bad

  pub rings_none : some_name ring_fault s ≡ false → NoneApplies ring_rows s
  rings_none e = applies_none ring_rows s (exactly ∙ e)

  pub none_rings : NoneApplies ring_rows s → some_name ring_fault s ≡ false
  none_rings h = sym exactly ∙ none_applies ring_rows s h

  -- what the code answers for the fault that it found
  answered : (a b c d : Bool) → a || (b || (c || d)) ≡ true
      → reply_of (ring_answer (cond a (Err (ListFault.High u)) (cond b (Err (ListFault.Itself u)) (cond c (Err (ListFault.Repeated u))
      (cond d (Err (ListFault.Unreturned u)) (Ok tt)))))) ≡ refused (number_by a b c) u
  answered true b c d o = refl
  answered false true c d o = refl
  answered false false true d o = refl
  answered false false false true o = refl
  answered false false false false o = absurd (true≢false (sym o))

  pub fault_reply : length (lists s) ≡ posts s → reply_of (ring_answer (fault_of (lists s))) ≡ tried ring_rows s
  unfolding fault_of fault_at is_bad
  fault_reply many = rw many (go (some_name ring_fault s) refl)
    where
      go : (x : Bool) → some_name ring_fault s ≡ x
          → reply_of (ring_answer (cond (ltb u (posts s)) (fault_at G u i) (Ok tt))) ≡ tried ring_rows s
      go true t =
          rw (lt-ltb u (posts s) (omega (arith, lowest_name t)))
          (answered (is_high G u i) (is_itself G u i) (is_repeated G u i) (is_unreturned G u i) (lowest_bad t) ∙ sym (ring_given nothing [] t))
      go false t = rw (le-ltb u (posts s) (omega (arith, no_name t))) (sym (given_none s nothing ring_rows (rings_none t)))
