-- Points, wires and turns, and the one lemma of geometry.
use Prim.Native.Nat.{ℕ, ◌+◌, ◌*◌, ◌-◌, ◌≤◌, ◌<◌}
use mathlib.Core.Path.{◌≡◌}
use native.Mathlib.Nat.{mul-le-mul_left}
use native.Mathlib.Omega.{arith}
use Rattle.drawing.specs.Meeting.{Places, Point, At}
use Rattle.drawing.specs.Areas.{PositiveArea}
use Rattle.drawing.proofs.Numbers.{times, fan_under, fan_only}

-- the point lies on the segment from a to b, given over the sum of its weights
pub record Along (s : Places) (a b : ℕ) (P : Point) : Type 0 where
  pub i : ℕ
  pub j : ℕ
  pub sum : i + j ≡ P.d
  pub is_x : P.X ≡ i * s.x a + j * s.x b
  pub is_y : P.Y ≡ i * s.y a + j * s.y b

-- the point is on the line from a to b, or right of it; or left of it
abbrev pub Low : Places → ℕ → ℕ → Point → Type 0
Low s a b P = s.x b * P.Y + P.X * s.y a + s.x a * (s.y b * P.d) ≤ s.x a * P.Y + P.X * s.y b + s.x b * (s.y a * P.d)

abbrev pub High : Places → ℕ → ℕ → Point → Type 0
High s a b P = s.x a * P.Y + P.X * s.y b + s.x b * (s.y a * P.d) ≤ s.x b * P.Y + P.X * s.y a + s.x a * (s.y b * P.d)

-- the point is between the columns of a and b, and not above the wire
pub record Under (s : Places) (a b : ℕ) (P : Point) : Type 0 where
  pub from : s.x a * P.d ≤ P.X
  pub to : P.X ≤ s.x b * P.d
  pub low : Low s a b P

-- ---- over numbers: the fan at a left end a, and at a right end c
module _ (xa ya xb yb xc yc X Y d β γ μ : ℕ) (turn : xb * ya + xc * yb + xa * yc < xa * yb + xb * yc + xc * ya) where
  module _ (eb : xb ≡ xa + β) (ec : xc ≡ xa + γ) (eX : X ≡ xa * d + μ) (low : xb * Y + X * ya + xa * (yb * d) ≤ xa * Y + X * yb + xb * (ya * d)) where
    turn_a : β * ya + γ * yb < β * yc + γ * ya
    turn_a = omega (arith, times ya eb, times yc eb, times yb ec, times ya ec)

    low_a : β * Y + μ * ya ≤ β * (ya * d) + μ * yb
    low_a = omega (arith, times Y eb, times (ya * d) eb, times ya eX, times yb eX)

    fan_a : 0 < β → xc * Y + X * ya + xa * (yc * d) ≤ xa * Y + X * yc + xc * (ya * d)
    fan_a pos = omega (arith, fan_under β γ μ ya yb yc Y d pos turn_a low_a, times Y ec, times (ya * d) ec, times ya eX, times yc eX)

    only_a : xa * Y + X * yc + xc * (ya * d) ≤ xc * Y + X * ya + xa * (yc * d) → μ ≡ 0
    only_a h = fan_only β γ μ ya yb yc Y d turn_a low_a (omega (arith, times Y ec, times (ya * d) ec, times ya eX, times yc eX))

  module _ (eb : xc ≡ xb + β) (ea : xc ≡ xa + γ) (eX : xc * d ≡ X + μ) (low : xc * Y + X * yb + xb * (yc * d) ≤ xb * Y + X * yc + xc * (yb * d)) where
    turn_c : β * yc + γ * yb < β * ya + γ * yc
    turn_c = omega (arith, times yc eb, times ya eb, times yb ea, times yc ea)

    low_c : β * Y + μ * yc ≤ β * (yc * d) + μ * yb
    low_c = omega (arith, times Y eb, times (yc * d) eb, times yc eX, times yb eX)

    fan_c : 0 < β → xc * Y + X * ya + xa * (yc * d) ≤ xa * Y + X * yc + xc * (ya * d)
    fan_c pos = omega (arith, fan_under β γ μ yc yb ya Y d pos turn_c low_c, times Y ea, times (yc * d) ea, times yc eX, times ya eX)

    only_c : xa * Y + X * yc + xc * (ya * d) ≤ xc * Y + X * ya + xa * (yc * d) → μ ≡ 0
    only_c h = fan_only β γ μ yc yb ya Y d turn_c low_c (omega (arith, times Y ea, times (yc * d) ea, times yc eX, times ya eX))

-- ---- points on a wire
module _ (s : Places) {a b : ℕ} {P : Point} where
  open s use {x, y}
  open P use {X, Y, d}

  flat : (o : Along s a b P) → s.x b * P.Y + P.X * s.y a + s.x a * (s.y b * P.d) ≡ s.x a * P.Y + P.X * s.y b + s.x b * (s.y a * P.d)
  flat o =
      omega (
        arith,
        times (s.x a) o.is_y,
        times (s.x b) o.is_y,
        times (s.y a) o.is_x,
        times (s.y b) o.is_x,
        times (s.x a * s.y b) o.sum,
        times (s.x b * s.y a) o.sum,
      )

  pub on_high : Along s a b P → High s a b P
  on_high o = omega (arith, flat o)

  pub on_under : x a < x b → Along s a b P → Under s a b P
  on_under h o =
      record {
        from = omega (arith, mul-le-mul_left o.j h, times (x a) o.sum);
        to = omega (arith, mul-le-mul_left o.i h, times (x b) o.sum);
        low = omega (arith, flat o);
      }

  pub at_left : At s a P → Along s a b P
  at_left e = record { i = d; j = 0; sum = omega arith; is_x = omega arith; is_y = omega arith }

  pub at_right : At s b P → Along s a b P
  at_right e = record { i = 0; j = d; sum = omega arith; is_x = omega arith; is_y = omega arith }

  pub on_left : x a < x b → Along s a b P → X ≤ x a * d → At s a P
  on_left h o k =
      let z : o.j ≡ 0 = omega (arith, mul-le-mul_left o.j h, times (x a) o.sum) in
      let w : o.i ≡ d = omega arith in
      omega (arith, times (x a) w, times (y a) w, times (x b) z, times (y b) z)

  pub on_right : x a < x b → Along s a b P → x b * d ≤ X → At s b P
  on_right h o k =
      let z : o.i ≡ 0 = omega (arith, mul-le-mul_left o.i h, times (x b) o.sum) in
      let w : o.j ≡ d = omega arith in
      omega (arith, times (x b) w, times (y b) w, times (x a) z, times (y a) z)

-- ---- the fan
module _ (s : Places) {a b c : ℕ} {P : Point} (turn : PositiveArea s a b c) where
  open s use {x, y}
  open P use {X, Y, d}

  -- at a: under the wire ab is under ac
  module _ (ab : x a < x b) (ac : x a < x c) (u : Under s a b P) where
    pub left_fan : X ≤ x c * d → Under s a c P
    left_fan h =
        record {
          from = u.from;
          to = h;
          low =
              fan_a (x a) (y a) (x b) (y b) (x c) (y c) X Y d (x b - x a) (x c - x a) (X - x a * d) turn
              (omega arith) (omega arith) (omega (arith, u.from)) u.low (omega arith);
        }

    pub left_only : Along s a c P → At s a P
    left_only o =
        let z : X - x a * d ≡ 0 =
        only_a (x a) (y a) (x b) (y b) (x c) (y c) X Y d (x b - x a) (x c - x a) (X - x a * d) turn
        (omega arith) (omega arith) (omega (arith, u.from)) u.low (on_high s o) in
        on_left s ac o (omega arith)

  -- at c: under the wire bc is under ac
  module _ (bc : x b < x c) (ac : x a < x c) (u : Under s b c P) where
    pub right_fan : x a * d ≤ X → Under s a c P
    right_fan h =
        record {
          from = h;
          to = u.to;
          low =
              fan_c (x a) (y a) (x b) (y b) (x c) (y c) X Y d (x c - x b) (x c - x a) (x c * d - X) turn
              (omega arith) (omega arith) (omega (arith, u.to)) u.low (omega arith);
        }

    pub right_only : Along s a c P → At s c P
    right_only o =
        let z : x c * d - X ≡ 0 =
        only_c (x a) (y a) (x b) (y b) (x c) (y c) X Y d (x c - x b) (x c - x a) (x c * d - X) turn
        (omega arith) (omega arith) (omega (arith, u.to)) u.low (on_high s o) in
        on_right s ac o (omega arith)
