-- What a block's bytes hold, and its rules 1 to 8. Every definition is total: bytes that are not there read as 0.
use Rattle.std.specs.Prelude.{ℕ, ◌+◌, ◌*◌, ◌-◌, ◌≤◌, ◌≡◌, Bool, ◌&&◌, ◌||◌, List, [], ◌∷◌, ltb, leb, eqb, length, get_or, take}
use Rattle.words.specs.Numbers.{word_at, words_at, wrapped}
use Rattle.words.specs.Lists.{mem}
use Rattle.words.specs.Positions.{post, earlier}
use Rattle.block.specs.Layout.{limit, version_at, posts_at, order_at, degrees_at, lists_at, sum_at, size}

-- the letters PGB
abbrev pub mark : List ℕ
mark = 0x50 ∷ 0x47 ∷ 0x42 ∷ []

abbrev pub version : List ℕ → ℕ
version s = word_at s version_at

-- n
abbrev pub posts : List ℕ → ℕ
posts s = word_at s posts_at

-- the order: a name for each position
unfoldable pub order : List ℕ → List ℕ
order s = words_at s order_at (posts s)

-- how long each list is, by name
unfoldable pub degrees : List ℕ → List ℕ
degrees s = words_at s (degrees_at (posts s)) (posts s)

-- lists of these many entries, one after the other from byte i on
unfoldable pub lists_from : List ℕ → ℕ → List ℕ → List (List ℕ)
lists_from s i [] = []
lists_from s i (d ∷ ds) = words_at s i d ∷ lists_from s (i + 2 * d) ds

-- each post's list, by name
unfoldable pub lists : List ℕ → List (List ℕ)
lists s = lists_from s (lists_at (posts s)) (degrees s)

-- the sum that stands at the end, and what the bytes before it add up to (F4)
abbrev pub stated_sum : List ℕ → ℕ
stated_sum s = word_at s (sum_at (posts s))

abbrev pub earlier_sum : List ℕ → ℕ
earlier_sum s = wrapped (take (sum_at (posts s)) s)

-- what steps 1 to 6 ask for: mark, version, n, length and sum are right
pub record Framed (s : List ℕ) : Type 0 where
  pub mark_right : take 3 s ≡ mark
  pub version_right : version s ≡ 1
  pub posts_least : 3 ≤ posts s
  pub posts_most : posts s ≤ limit
  pub size_right : length s ≡ size (posts s)
  pub sum_right : stated_sum s ≡ earlier_sum s

-- n is the block's, its range is right, and the bytes are as many as it asks for
pub record Headed (s : List ℕ) (n : ℕ) : Type 0 where
  pub is : n ≡ posts s
  pub least : 3 ≤ n
  pub most : n ≤ limit
  pub sized : length s ≡ size n

-- ---- the tests of steps 2, 7 and 8

unfoldable pub marked : List ℕ → Bool
marked s = eqb (get_or s 0 0) 0x50 && (eqb (get_or s 1 0) 0x47 && eqb (get_or s 2 0) 0x42)

-- N7: what stands in position k is no name, or a name that came before
unfoldable pub bad_entry : ℕ → List ℕ → ℕ → Bool
bad_entry n vs k = leb n (post vs k) || mem (earlier vs k) (post vs k)

-- N8: the degree of u is out of its range, 2 to n-1
unfoldable pub bad_degree : ℕ → List ℕ → ℕ → Bool
bad_degree n ds u = ltb (get_or ds u 0) 2 || ltb (n - 1) (get_or ds u 0)
