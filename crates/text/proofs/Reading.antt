-- Reading a word: a digit more, and what is no digit.
use Prim.Native.Nat.{ℕ, zero, suc, ◌+◌, ◌*◌, ◌-◌, ◌≤◌, ◌<◌, min}
use mathlib.Core.Path.{◌≡◌, refl, sym, ◌∙◌}
use mathlib.Core.Bool.{Bool, true, false, ◌&&◌}
use mathlib.Core.List.{List, [], ◌∷◌, ◌++◌}
use native.Mathlib.Nat.{min-eq_left, min-eq_right}
use native.Mathlib.Omega.{arith}
use native.Mathlib.Decide.{dec_lt}
use lib.ListN.{length, get_or}
use borrow.Author.Tests.{leb-true}
use lib.Dec.{leb}
use Rattle.words.proofs.Tests.{holds, is_true, both}
use Rattle.std.specs.Prelude.{None}
use Rattle.std.specs.Ordering.{is_le, nat_cmp}
use Rattle.std.proofs.lemmas.Bool.Decides.{nat_tests}
use Rattle.text.specs.Letters.{is_digit, all_digits, value_after}
use Rattle.text.specs.Said.{said_up_to}

pub value_last : (v : ℕ) (w : List ℕ) (c : ℕ) → value_after v (w ++ c ∷ []) ≡ value_after v w * 10 + c - 48
unfolding value_after
value_last v [] c = refl
value_last v (x ∷ w) c = value_last (v * 10 + x - 48) w c

pub digits_last : (w : List ℕ) (c : ℕ) → all_digits w ≡ true → is_digit c ≡ true → all_digits (w ++ c ∷ []) ≡ true
unfolding all_digits
digits_last [] c h e = rw e refl
digits_last (x ∷ w) c h e =
    let t = both (is_digit x) (all_digits w) (holds (is_digit x && all_digits w) h) in
    let x-is : is_digit x ≡ true = is_true (is_digit x) t.0 in
    rw (x-is, digits_last w c (is_true (all_digits w) t.1) e) refl

not_digits : (w : List ℕ) (i : ℕ) → i < length w → is_digit (get_or w i 0) ≡ false → all_digits w ≡ false
unfolding all_digits
not_digits [] i h e = absurd (omega arith)
not_digits (x ∷ w) zero h e = rw e refl
not_digits (x ∷ w) (suc i) h e = rw (not_digits w i (omega arith) e) (no_right (is_digit x))
  where
    no_right : (b : Bool) → b && false ≡ false
    no_right true = refl
    no_right false = refl

pub said_other : (most : ℕ) (w : List ℕ) (i : ℕ) → i < length w → is_digit (get_or w i 0) ≡ false → None ≡ said_up_to most w
said_other most [] i h e = refl
said_other most (c ∷ w) i h e = rw (not_digits (c ∷ w) i h e) refl

-- a digit, as the range from a to b tells it
pub digit_test : (a b c : ℕ) → a ≡ 48 → b ≡ 57 → is_digit c ≡ (is_le (nat_cmp a c) && is_le (nat_cmp c b))
digit_test a b c low high = rw (low, high) (grind (arith, nat_tests))

-- a digit more of a number that is cut off at m
pub digit_more : (a v m c : ℕ) → v ≡ min a m → is_digit c ≡ true → min (v * 10 + (c - 48)) m ≡ min (a * 10 + c - 48) m
digit_more a v m c e digit = go (dec_lt a m)
  where
    above : 48 ≤ c
    above = leb-true 48 c (is_true (leb 48 c) (both (leb 48 c) (leb c 57) (holds (is_digit c) digit)).0)

    go : Dec (a < m) → min (v * 10 + (c - 48)) m ≡ min (a * 10 + c - 48) m
    go (yes l) =
        let q : v ≡ a = e ∙ min-eq_left (omega arith) in
        let same : v * 10 + (c - 48) ≡ a * 10 + c - 48 = omega (arith, above, q) in
        rw same refl
    go (no l) =
        let q : v ≡ m = e ∙ min-eq_right (omega arith) in
        min-eq_right (omega (arith, above)) ∙ sym (min-eq_right (omega (arith, above)))
