-- Lists of names, and tests over their entries.
use Rattle.std.specs.Prelude.{◌≡◌, ℕ, ◌+◌, ◌<◌, Bool, true, false, cond, ◌&&◌, ◌||◌, ◌⊎◌, List, [], ◌∷◌, length, ◌==◌, slice_index}

-- a stands in the list
abbrev pub In : ℕ → List ℕ → Type 0
In a [] = ⊥
In a (x ∷ l) = (a ≡ x) ⊎ In a l

-- b is the first of the list
abbrev pub Head : List ℕ → ℕ → Type 0
Head [] b = ⊥
Head (y ∷ l) b = y ≡ b

-- b stands right after a
abbrev pub Adj : List ℕ → ℕ → ℕ → Type 0
Adj [] a b = ⊥
Adj (x ∷ l) a b = ((x ≡ a) × Head l b) ⊎ Adj l a b

-- no two places of the list hold the same entry
abbrev pub Different : List ℕ → Type 0
Different l = (i j : ℕ) → i < length l → j < length l → slice_index l i ≡ slice_index l j → i ≡ j

-- a stands in the list, as a test
unfoldable pub mem : List ℕ → ℕ → Bool
mem [] a = false
mem (x ∷ l) a = a == x || mem l a

-- the test holds of each entry; of some entry; of how many
unfoldable pub all_of : (ℕ → Bool) → List ℕ → Bool
all_of p [] = true
all_of p (x ∷ l) = p x && all_of p l

unfoldable pub any_of : (ℕ → Bool) → List ℕ → Bool
any_of p [] = false
any_of p (x ∷ l) = p x || any_of p l

unfoldable pub count : (ℕ → Bool) → List ℕ → ℕ
count p [] = 0
count p (x ∷ l) = cond (p x) 1 0 + count p l

-- the last of a list, or x if it is empty
abbrev pub last_of : ℕ → List ℕ → ℕ
last_of x [] = x
last_of x (y ∷ l) = last_of y l
