-- Laws of numbers in bytes: the sum and the 16-bit numbers of one more place.
use Rattle.std.proofs.Common.{◌≡◌, ℕ, zero, suc, ◌+◌, ◌*◌, ◌<◌, ◌≤◌, List, [], ◌∷◌, ◌++◌, length, get_or, take, drop, refl, sym, ap, ◌∙◌}
use Rattle.std.proofs.Common.{add-one, arith, length-take-le, take-append-drop, take-suc}
use Rattle.std.proofs.Math.Seq.{take-append_seam}
use Rattle.std.specs.List.{sum_by}
use Rattle.std.proofs.lemmas.Grind.{common_steps}
use Rattle.std.proofs.lemmas.List.{take_more_set}
use Rattle.std.proofs.lemmas.List.Recursion.{is_sum_by}
use Rattle.words.specs.Numbers.{word_at, words_at, sum_of}

-- as the library has it, of what `sum` gives
pub sum_is : (l : List ℕ) → sum_by (λ x. x) l ≡ sum_of l
unfolding sum_of
sum_is l = sym (is_sum_by sum_of (λ x. x) refl (λ x m. refl) l)

pub sum_append : (l m : List ℕ) → sum_of (l ++ m) ≡ sum_of l + sum_of m
unfolding sum_of
sum_append [] m = omega arith
sum_append (x ∷ l) m = let e = sum_append l m in omega arith

pub sum_one : (x : ℕ) → sum_of (x ∷ []) ≡ x
unfolding sum_of
sum_one x = omega arith

-- the sum before place i + 1
pub sum_step : (l : List ℕ) (i : ℕ) → i < length l → sum_of (take (i + 1) l) ≡ sum_of (take i l) + get_or l i 0
sum_step l i h =
    let e : sum_of (take (suc i) l) ≡ sum_of (take i l ++ get_or l i 0 ∷ []) = ap sum_of (take-suc l i 0 h) in
    rw add-one (omega (arith, e, sum_append (take i l) (get_or l i 0 ∷ []), sum_one (get_or l i 0)))

-- one number more, at the end
words_more : (s : List ℕ) (k i : ℕ) → words_at s i (suc k) ≡ words_at s i k ++ word_at s (i + 2 * k) ∷ []
unfolding words_at
words_more s zero i = let e : i ≡ i + 2 * 0 = omega arith in ap (λ (j : ℕ). word_at s j ∷ []) e
words_more s (suc k) i =
    let e : i + 2 + 2 * k ≡ i + 2 * suc k = omega arith in
    ap (λ (l : List ℕ). word_at s i ∷ l) (words_more s k (i + 2) ∙ ap (λ (j : ℕ). words_at s (i + 2) k ++ word_at s j ∷ []) e)

pub words_step : (s : List ℕ) (k i : ℕ) → words_at s i (k + 1) ≡ words_at s i k ++ word_at s (i + 2 * k) ∷ []
words_step s k i = rw (add-one k) (words_more s k i)

pub words_none : (s : List ℕ) (i : ℕ) → words_at s i 0 ≡ []
unfolding words_at
words_none s i = refl

pub words_length : (s : List ℕ) (k i : ℕ) → length (words_at s i k) ≡ k
unfolding words_at
words_length s zero i = refl
words_length s (suc k) i = ap suc (words_length s k (i + 2))

pub sum_empty : sum_of [] ≡ 0
unfolding sum_of
sum_empty = refl

-- none of a list
pub sum_none : (l : List ℕ) → sum_of (take 0 l) ≡ 0
unfolding sum_of
sum_none l = refl

-- a part of a list sums to no more than the list
pub sum_part : (l : List ℕ) (i : ℕ) → sum_of (take i l) ≤ sum_of l
sum_part l i = omega (arith, sum_append (take i l) (drop i l), ap sum_of (take-append-drop i l))

pub sum_within : (l : List ℕ) (i : ℕ) → i < length l → sum_of (take i l) + get_or l i 0 ≤ sum_of l
sum_within l i h = omega (arith, sum_step l i h, sum_part l (i + 1))

-- the front of an array that was filled so far
pub filled_front : (s : List ℕ) (i m n : ℕ) (ents out : List ℕ) → m ≡ n → m ≤ length ents → out ≡ words_at s i (length (take m ents))
    → take n (out ++ drop m ents) ≡ words_at s i n
filled_front s i m n ents out e room is =
    let filled : out ≡ words_at s i m = is ∙ ap (words_at s i) (length-take-le m ents room) in
    let long : length (words_at s i m) ≡ m = words_length s m i in
    rw (← e, filled) (ap (λ (k : ℕ). take k (words_at s i m ++ drop m ents)) (sym long) ∙ take-append_seam (words_at s i m) (drop m ents))

-- ---- what a function that adds up, or that unpacks, names for its goals

pub ruleset sums = (common_steps, sum_empty, sum_step, sum_within)

pub ruleset unpacking = (common_steps, take_more_set, words_none, words_step, words_length)
