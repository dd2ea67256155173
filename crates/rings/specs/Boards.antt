-- Boards T, D and L of docs/RULES.md: an order, and the neighbour lists by name.
use Rattle.std.specs.Prelude.{ℕ, List, [], ◌∷◌}

abbrev pub order_t : List ℕ
order_t = 0 ∷ 1 ∷ 2 ∷ []

abbrev pub lists_t : List (List ℕ)
lists_t = (1 ∷ 2 ∷ []) ∷ (2 ∷ 0 ∷ []) ∷ (0 ∷ 1 ∷ []) ∷ []

abbrev pub order_d : List ℕ
order_d = 0 ∷ 1 ∷ 2 ∷ 3 ∷ 4 ∷ []

abbrev pub lists_d : List (List ℕ)
lists_d = (1 ∷ 2 ∷ 3 ∷ 4 ∷ []) ∷ (4 ∷ 3 ∷ 2 ∷ 0 ∷ []) ∷ (0 ∷ 1 ∷ 3 ∷ []) ∷ (0 ∷ 2 ∷ 1 ∷ 4 ∷ []) ∷ (0 ∷ 3 ∷ 1 ∷ []) ∷ []

-- its order is that of D
abbrev pub lists_l : List (List ℕ)
lists_l = (1 ∷ 2 ∷ 3 ∷ 4 ∷ []) ∷ (4 ∷ 2 ∷ 0 ∷ []) ∷ (0 ∷ 1 ∷ 4 ∷ 3 ∷ []) ∷ (2 ∷ 4 ∷ 0 ∷ []) ∷ (0 ∷ 3 ∷ 2 ∷ 1 ∷ []) ∷ []
