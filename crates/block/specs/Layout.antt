-- The block: its parts follow one another, and n fixes where each begins.
use Rattle.std.specs.Prelude.{ℕ, ◌+◌, ◌*◌, ◌-◌}

-- n is from 3 to this
abbrev pub limit : ℕ
limit = 1000

-- a post hangs at most so many columns away from the one that covers it, so no offset stored with this added is below zero
abbrev pub bias : ℕ
bias = 2 * limit

-- mark 3 bytes, version 2, n 2
abbrev pub version_at : ℕ
version_at = 3

abbrev pub posts_at : ℕ
posts_at = version_at + 2

abbrev pub order_at : ℕ
order_at = posts_at + 2

-- order 2n, degrees 2n, neighbour lists 2(6n-12), sum 2
abbrev pub degrees_at : ℕ → ℕ
degrees_at n = order_at + 2 * n

abbrev pub lists_at : ℕ → ℕ
lists_at n = degrees_at n + 2 * n

abbrev pub entries : ℕ → ℕ
entries n = 6 * n - 12

abbrev pub sum_at : ℕ → ℕ
sum_at n = lists_at n + 2 * entries n

-- the length
abbrev pub size : ℕ → ℕ
size n = 16 * n - 15
