-- Where runs begin in a ring that is not placed as a whole, as one pass over it finds them, by positions.
use Rattle.std.specs.Prelude.{ℕ, suc, ◌+◌, Bool, not, cond, ◌&&◌, List, [], ◌∷◌, ltb, get_or}
use Rattle.words.specs.Lists.{last_of}

-- a stands in a position before k
abbrev pub before : List ℕ → ℕ → ℕ → Bool
before rank k a = ltb (get_or rank a 0) k

-- how many entries pass the test right after one that does not; w is the test of the entry before the list
unfoldable pub openings_after : (ℕ → Bool) → Bool → List ℕ → ℕ
openings_after p w [] = 0
openings_after p w (y ∷ l) = cond (not w && p y) 1 0 + openings_after p (p y) l

-- the place of the last of them, where the list's first entry has the place i; z if there is none
unfoldable pub opening_after : (ℕ → Bool) → ℕ → ℕ → Bool → List ℕ → ℕ
opening_after p z i w [] = z
opening_after p z i w (y ∷ l) = opening_after p (cond (not w && p y) i z) (suc i) (p y) l

-- the same in a list read around: before its first entry comes its last
abbrev pub openings : (ℕ → Bool) → List ℕ → ℕ
openings p l = openings_after p (p (last_of 0 l)) l

abbrev pub last_opening : (ℕ → Bool) → List ℕ → ℕ
last_opening p l = opening_after p 0 0 (p (last_of 0 l)) l
