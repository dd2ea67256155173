-- Numbers: case splits on their order, an equation times a factor, and the fan. An identity of polynomials is `omega arith`: it multiplies
-- products out, and each monomial is an unknown; at most 64 of them, so take a corner as the origin first. A fact times a factor is handed over.
use Prim.Native.Nat.{ℕ, zero, suc, ◌+◌, ◌*◌, ◌≤◌, ◌<◌}
use mathlib.Core.Path.{◌≡◌, refl, ap}
use native.Mathlib.Nat.{mul-le-mul_left, le_of_mul-le-mul_left}
use native.Mathlib.Omega.{arith}
use native.Mathlib.Decide.{dec_le}

-- two cases, or three: `by_le a b (λ h. ..) (λ h. ..)`
pub by_le {ℓ} : {C : Type ℓ} (a b : ℕ) → (a ≤ b → C) → (b < a → C) → C
by_le {C} a b f g = go (dec_le a b)
  where
    go : Dec (a ≤ b) → C
    go (yes h) = f h
    go (no h) = g (omega arith)

pub by_cmp {ℓ} : {C : Type ℓ} (a b : ℕ) → (a < b → C) → (a ≡ b → C) → (b < a → C) → C
by_cmp a b f g h = by_le b a (λ p. by_le a b (λ q. g (omega arith)) (λ q. h q)) (λ p. f p)

pub times : {a b : ℕ} (k : ℕ) → a ≡ b → a * k ≡ b * k
times k e = ap (λ (n : ℕ). n * k) e

-- The fan, with a at the origin's column: b, c and the point are β, γ and μ to the side of it. What is not above the line of a and b is not
-- above the line of a and c, if c turns up from b;
pub fan_under : (β γ μ ya yb yc Y d : ℕ) → 0 < β → β * ya + γ * yb < β * yc + γ * ya → β * Y + μ * ya ≤ β * (ya * d) + μ * yb
    → γ * Y + μ * ya ≤ γ * (ya * d) + μ * yc
fan_under β γ μ ya yb yc Y d pos t l =
    let t' : β * ya + γ * yb ≤ β * yc + γ * ya = omega arith in
    le_of_mul-le-mul_left {k = β} (omega (arith, mul-le-mul_left μ t', mul-le-mul_left γ l)) pos

-- and it is on that line only at a
pub fan_only : (β γ μ ya yb yc Y d : ℕ) → β * ya + γ * yb < β * yc + γ * ya → β * Y + μ * ya ≤ β * (ya * d) + μ * yb
    → γ * (ya * d) + μ * yc ≤ γ * Y + μ * ya → μ ≡ 0
fan_only β γ zero ya yb yc Y d t l h = refl
fan_only β γ (suc μ) ya yb yc Y d t l h =
    absurd (omega (arith, mul-le-mul_left (suc μ) t, mul-le-mul_left γ l, mul-le-mul_left β h))
