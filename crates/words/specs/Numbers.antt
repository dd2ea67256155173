-- Numbers in a block's bytes: 16-bit, high byte first; the wrapped sum.
use Rattle.std.specs.Prelude.{ℕ, zero, suc, ◌+◌, ◌*◌, ◌%◌, List, [], ◌∷◌, slice_index}

-- the 16-bit number whose high byte stands at i
abbrev pub word_at : List ℕ → ℕ → ℕ
word_at s i = slice_index s i * 256 + slice_index s (i + 1)

-- k such numbers, the first at i
unfoldable pub words_at : List ℕ → ℕ → ℕ → List ℕ
words_at s i zero = []
words_at s i (suc k) = word_at s i ∷ words_at s (i + 2) k

unfoldable pub sum_of : List ℕ → ℕ
sum_of [] = 0
sum_of (x ∷ l) = x + sum_of l

-- the sum, wrapped at 65,536
abbrev pub wrapped : List ℕ → ℕ
wrapped l = sum_of l % 65536
