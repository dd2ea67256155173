-- Text as the list of its bytes: letters, numbers in decimal, and the number that a word says.
use Rattle.std.specs.Prelude.{ℕ, ◌+◌, ◌*◌, ◌-◌, ◌^◌, Bool, true, false, cond, ◌&&◌, ltb, leb, eqb}
use Prim.Native.Char.{code}
use Prim.Native.String.{String, [] as none, ◌∷◌ as ◌then◌}
use mathlib.Core.List.{List, [], ◌∷◌, flat_map}
use Rattle.io.specs.Digits.{last_digits}
use Rattle.words.specs.First.{first}

-- a text's letters, each by its code
abbrev pub letters : String → List ℕ
letters none = []
letters (c then t) = code c ∷ letters t

abbrev pub newline : List ℕ
newline = 10 ∷ []

-- how many digits a number below ten to the twentieth takes: the fewest, and one at least
abbrev pub width : ℕ → ℕ
width n = first 1 19 (λ k. ltb n (10 ^ k))

-- such a number in decimal, with no zero in front
unfoldable pub decimal : ℕ → List ℕ
decimal n = last_digits 10 (width n) n

-- a space and a number
abbrev pub spaced : ℕ → List ℕ
spaced n = 32 ∷ decimal n

-- a text in which # stands for a number
abbrev pub numeral : ℕ → ℕ → List ℕ
numeral x c = cond (eqb c 35) (decimal x) (c ∷ [])

unfoldable pub numbered : ℕ → List ℕ → List ℕ
numbered x t = flat_map (numeral x) t

-- ---- reading

-- the letters 0 to 9
abbrev pub is_digit : ℕ → Bool
is_digit c = leb 48 c && leb c 57

unfoldable pub all_digits : List ℕ → Bool
all_digits [] = true
all_digits (c ∷ w) = is_digit c && all_digits w

-- what the digits of a word say after others that said v; asked only of words of digits
unfoldable pub value_after : ℕ → List ℕ → ℕ
value_after v [] = v
value_after v (c ∷ w) = value_after (v * 10 + c - 48) w

-- a word says a number if it has letters and all of them are digits
abbrev pub is_number : List ℕ → Bool
is_number [] = false
is_number (c ∷ w) = all_digits (c ∷ w)

abbrev pub value_of : List ℕ → ℕ
value_of w = value_after 0 w
