-- The posts placed so far, in turn. A canonical order fits as far as it goes; so does every list that is placed post by post.
use Rattle.std.specs.Prelude.{ℕ, ◌≤◌, ◌<◌, ◌≡◌, true, List, length}
use Rattle.words.specs.Lists.{In, Different}
use Rattle.words.specs.Positions.{post, earlier}
use Rattle.order.specs.Order.{two_placed, one_run}

-- The list vs fits so far on rings with an outer triangle of its first two posts, v1 and v2, and vn: posts of the board, each once; from the
-- third on each has two or more neighbours placed before it, as one run; and vn stands nowhere but last, in position n. It may end anywhere.
pub record FitsSoFar (G : List (List ℕ)) (vn : ℕ) (vs : List ℕ) : Type 0 where
  pub below : (a : ℕ) → In a vs → a < length G
  pub once : Different vs
  pub two : (k : ℕ) → 3 ≤ k → k ≤ length vs → two_placed G (earlier vs k) (post vs k) ≡ true
  pub run : (k : ℕ) → 3 ≤ k → k ≤ length vs → one_run G (earlier vs k) (post vs k) ≡ true
  pub last : (k : ℕ) → 1 ≤ k → k ≤ length vs → post vs k ≡ vn → k ≡ length G
