-- Decimal numbers: the fewest digits are as many as the definition takes, and a 16-bit number takes five at most; and texts with such a number in.
use Prim.Native.Nat.{ℕ, zero, suc, ◌+◌, ◌*◌, ◌-◌, ◌/◌, ◌%◌, ◌^◌, ◌≤◌, ◌<◌}
use mathlib.Core.Path.{◌≡◌, refl, sym, ap, ◌∙◌}
use mathlib.Core.Bool.{Bool, true, false, cond, true≢false}
use mathlib.Core.List.{List, [], ◌∷◌, ◌++◌, flat_map, append_assoc, append-nil}
use native.Mathlib.Nat.{pow-le-pow_right}
use native.Mathlib.Numerals.{add-one}
use native.Mathlib.Omega.{arith}
use native.Mathlib.Decide.{dec_lt}
use lib.Dec.{ltb, eqb}
use lib.ListN.{length, length-append}
use borrow.Author.Tests.{ltb-true, lt-ltb}
use Rattle.io.specs.Digits.{last_digits, hex_digit_ascii, IsDigitCount}
use Rattle.words.proofs.First.{first_is}
use Rattle.words.specs.Lists.{count}
use Rattle.text.specs.Letters.{width, decimal, numeral, numbered}

-- a number below 100,000 takes five digits at most
few : (n : ℕ) → n < 100000 → width n ≤ 5
few n h = go (dec_lt 5 (width n))
  where
    go : Dec (5 < width n) → width n ≤ 5
    go (yes l) =
        let F = first_is (λ j. ltb n (10 ^ j)) 19 1 in
        absurd (true≢false (sym (lt-ltb n (10 ^ 5) h) ∙ F.before 5 (omega arith) l))
    go (no l) = omega arith

-- the fewest digits are as many as the definition takes
width_is : (n k : ℕ) → n < 100000 → IsDigitCount 10 1 n k → width n ≡ k
width_is n k small f = go (dec_lt (width n) k) (dec_lt k (width n))
  where
    go : Dec (width n < k) → Dec (k < width n) → width n ≡ k
    go (yes l) d =
        let F = first_is (λ j. ltb n (10 ^ j)) 19 1 in
        let enough : n < 10 ^ width n = ltb-true n (10 ^ width n) (F.there (omega (arith, few n small))) in
        let more : 10 ^ (k - 1) ≤ n = f.2 (omega (arith, F.from)) in
        let grows : 10 ^ width n ≤ 10 ^ (k - 1) = pow-le-pow_right (omega arith) (omega arith) in
        absurd (omega arith)
    go (no m) (yes l) =
        let F = first_is (λ j. ltb n (10 ^ j)) 19 1 in
        absurd (true≢false (sym (lt-ltb n (10 ^ k) f.1) ∙ F.before k f.0 l))
    go (no m) (no l) = omega arith

pub decimal_is : (n k : ℕ) → n < 100000 → IsDigitCount 10 1 n k → last_digits 10 k n ≡ decimal n
unfolding decimal
decimal_is n k small f = rw (width_is n k small f) refl

digits_length : (b k n : ℕ) → length (last_digits b k n) ≡ k
digits_length b zero n = refl
digits_length b (suc k) n =
    length-append (last_digits b k (n / b)) (hex_digit_ascii (n % b) ∷ []) ∙ ap (λ (z : ℕ). z + 1) (digits_length b k (n / b)) ∙ add-one k

pub five_at_most : (n : ℕ) → n < 100000 → length (decimal n) ≤ 5
unfolding decimal
five_at_most n h = rw (digits_length 10 (width n) n) (few n h)

-- no number takes more than twenty
pub twenty_at_most : (n : ℕ) → length (decimal n) ≤ 20
unfolding decimal
twenty_at_most n = rw (digits_length 10 (width n) n) (omega (arith, (first_is (λ j. ltb n (10 ^ j)) 19 1).to))

-- ---- texts with a number in

-- pieces one after the other: of two lists, and one more at the end
pieces_both : (f : ℕ → List ℕ) (l m : List ℕ) → flat_map f (l ++ m) ≡ flat_map f l ++ flat_map f m
unfolding flat_map
pieces_both f [] m = refl
pieces_both f (a ∷ l) m = ap (λ (t : List ℕ). f a ++ t) (pieces_both f l m) ∙ sym (append_assoc (f a) (flat_map f l) (flat_map f m))

pub pieces_last : (f : ℕ → List ℕ) (l : List ℕ) (x : ℕ) → flat_map f (l ++ x ∷ []) ≡ flat_map f l ++ f x
unfolding flat_map
pieces_last f l x = pieces_both f l (x ∷ []) ∙ ap (λ (t : List ℕ). flat_map f l ++ t) (append-nil (f x))

pub numbered_none : (x : ℕ) → numbered x [] ≡ []
unfolding numbered flat_map
numbered_none x = refl

pub numbered_last : (x : ℕ) (t : List ℕ) (c : ℕ) → numbered x (t ++ c ∷ []) ≡ numbered x t ++ numeral x c
unfolding numbered
numbered_last x t c = pieces_last (numeral x) t c

-- the # of a text; each makes it longer by 19 bytes at most
abbrev pub is_mark : ℕ → Bool
is_mark c = eqb c 35

pub numbered_length : (x : ℕ) (t : List ℕ) → length (numbered x t) ≤ length t + 19 * count is_mark t
unfolding numbered flat_map count
numbered_length x [] = omega arith
numbered_length x (c ∷ t) = omega (arith, length-append (numeral x c) (flat_map (numeral x) t), one (is_mark c), numbered_length x t)
  where
    one : (b : Bool) → length (cond b (decimal x) (c ∷ [])) ≤ 1 + 19 * cond b 1 0
    one true = omega (arith, twenty_at_most x)
    one false = omega arith
