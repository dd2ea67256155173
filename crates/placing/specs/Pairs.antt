-- What is written of a stage, from the columns and heights by name: the sheet's entries.
use Rattle.std.specs.Prelude.{ℕ, List, [], ◌∷◌, get_or}

-- x then y of each post of a list
unfoldable pub pairs : List ℕ → List ℕ → List ℕ → List ℕ
pairs xs ys [] = []
pairs xs ys (u ∷ l) = get_or xs u 0 ∷ get_or ys u 0 ∷ pairs xs ys l
