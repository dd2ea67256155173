-- A point of two segments, given over the sum of the weights on over_both at once.
use Prim.Native.Nat.{ℕ, ◌+◌, ◌*◌, ◌<◌}
use mathlib.Core.Path.{◌≡◌}
use native.Mathlib.Nat.{mul-pos, eq_of_mul-eq-mul_left}
use native.Mathlib.Omega.{arith}
use Rattle.drawing.specs.Meeting.{Places, Point, On, At}
use Rattle.drawing.proofs.Numbers.{times}
use Rattle.drawing.proofs.Fan.{Along}

-- Q is the point P written over another number
pub record Both (s : Places) (a b c e : ℕ) (P : Point) : Type 0 where
  pub Q : Point
  pub first : Along s a b Q
  pub second : Along s c e Q
  pub back : {z : ℕ} → At s z Q → At s z P

-- over numbers: the weights i and j of a point, times k and d
weighted : (i j X d xa xb k : ℕ) → (i + j) * X ≡ d * (i * xa + j * xb) → X * ((i + j) * k) ≡ i * (k * d) * xa + j * (k * d) * xb
weighted i j X d xa xb k e = omega (arith, times k e)

-- a factor taken out again
less : (X d x m : ℕ) → 0 < m → X * m ≡ d * m * x → X ≡ d * x
less X d x m h e = eq_of_mul-eq-mul_left m h X (d * x) (omega arith)

module _ (s : Places) {a b c e : ℕ} {P : Point} (o : On s a b P) (p : On s c e P) where
  open P use {X, Y, d}
  open o use {i, j}
  open p use {i as i', j as j'}

  abbrev k : ℕ
  k = i + j

  abbrev l : ℕ
  l = i' + j'

  abbrev m : ℕ
  m = k * l

  any : 0 < m
  any = mul-pos {m = k} {n = l} o.some p.some

  pub over_both : Both s a b c e P
  over_both =
      record {
        Q = record { X = X * m; Y = Y * m; d = d * m; positive = mul-pos {m = d} {n = m} P.positive any };
        first =
            record {
              i = i * (l * d);
              j = j * (l * d);
              sum = omega arith;
              is_x = weighted i j X d (s.x a) (s.x b) l o.is_x;
              is_y = weighted i j Y d (s.y a) (s.y b) l o.is_y;
            };
        second =
            record {
              i = i' * (k * d);
              j = j' * (k * d);
              sum = omega arith;
              is_x = omega (arith, weighted i' j' X d (s.x c) (s.x e) k p.is_x);
              is_y = omega (arith, weighted i' j' Y d (s.y c) (s.y e) k p.is_y);
            };
        back = λ h. record { is_x = less X d (s.x _) m any h.is_x; is_y = less Y d (s.y _) m any h.is_y };
      }
