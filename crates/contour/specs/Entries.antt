-- Entries of an array by name, stored in turn.
use Rattle.std.specs.Prelude.{ℕ, ◌<◌, List, [], ◌∷◌, set}

-- each post has room
abbrev pub Each : ℕ → List (ℕ × ℕ) → Type 0
Each n [] = Unit {0}
Each n (e ∷ l) = (e.0 < n) × Each n l

abbrev pub entered : List ℕ → List (ℕ × ℕ) → List ℕ
entered s [] = s
entered s (e ∷ l) = entered (set s e.0 e.1) l
