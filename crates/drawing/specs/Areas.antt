-- Signed areas, over any places of the posts.
use Rattle.std.specs.Prelude.{ℕ, ◌+◌, ◌*◌, ◌<◌}
use Rattle.drawing.specs.Meeting.{Places}

-- The triangle from a to b to c turns counter-clockwise, with an area above 0. Twice its signed area is
-- (x_a y_b - x_b y_a) + (x_b y_c - x_c y_b) + (x_c y_a - x_a y_c): what is added is more than what is taken off.
abbrev pub PositiveArea : Places → ℕ → ℕ → ℕ → Type 0
PositiveArea s a b c = s.x b * s.y a + s.x c * s.y b + s.x a * s.y c < s.x a * s.y b + s.x b * s.y c + s.x c * s.y a
