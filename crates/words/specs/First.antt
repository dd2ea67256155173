-- "The first one that ..": the least of some numbers in turn for which a test holds.
use Rattle.std.specs.Prelude.{ℕ, zero, suc, ◌+◌, Bool, true, false, cond, Option, Some, None, List, [], ◌∷◌, nat_lt}

-- the k numbers from i on
unfoldable pub numbers : ℕ → ℕ → List ℕ
numbers i zero = []
numbers i (suc k) = i ∷ numbers (suc i) k

-- the first of the k numbers from i on for which the test holds; i + k if there is none
unfoldable pub first : ℕ → ℕ → (ℕ → Bool) → ℕ
first i zero p = i
first i (suc k) p = elim (p i) [ true ↦ i | false ↦ first (suc i) k p ]

-- there is one
unfoldable pub some : ℕ → ℕ → (ℕ → Bool) → Bool
some i k p = nat_lt (first i k p) (i + k)

-- it, if there is one
unfoldable pub first_if : ℕ → ℕ → (ℕ → Bool) → Option ℕ
first_if i k p = cond (some i k p) (Some (first i k p)) None
