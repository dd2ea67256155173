-- Which way a triangle turns, over numbers: when its corners move right, and when one of them is a peak.
use Prim.Native.Nat.{ℕ, zero, suc, ◌+◌, ◌*◌, ◌≤◌, ◌<◌}
use mathlib.Core.Path.{◌≡◌}
use native.Mathlib.Nat.{mul-le-mul_left}
use native.Mathlib.Omega.{arith}
use Rattle.drawing.proofs.Numbers.{times}

-- Corners that move right, a the least and b the most: the triangle does not shrink if v is as high as b, or moves with a; and as a, or with b.
pub moved_turn : (xa ya xb yb xv yv xa' xb' xv' α γ β : ℕ) → xa' ≡ xa + α → xv' ≡ xv + (α + γ) → xb' ≡ xb + (α + γ + β)
    → γ * yb ≤ γ * yv → β * ya ≤ β * yv → xb * ya + xv * yb + xa * yv < xa * yb + xb * yv + xv * ya
    → xb' * ya + xv' * yb + xa' * yv < xa' * yb + xb' * yv + xv' * ya
moved_turn xa ya xb yb xv yv xa' xb' xv' α γ β ea ev eb h k t =
    omega (arith, times ya eb, times yv eb, times yb ev, times ya ev, times yv ea, times yb ea)

-- a factor that is 0, or a fact
pub scaled : (k : ℕ) {a b : ℕ} → (0 < k → a ≤ b) → k * a ≤ k * b
scaled zero {a} {b} h = omega arith
scaled (suc k) {a} {b} h = mul-le-mul_left (suc k) (h (omega arith))

-- A peak: v's x + y is above a's, and not below b's; its x - y is below b's, and not above a's. Then v is above the wire ab.
-- α, β: how far x + y and x - y rise from a to b; γ, δ: how far v's are above and below a's
pub peak : (xa ya xb yb xv yv α β γ δ : ℕ) → xb + yb ≡ xa + ya + α → xb + ya ≡ xa + yb + β → xv + yv ≡ xa + ya + γ → xa + yv ≡ xv + ya + δ
    → 0 < α * δ + β * γ → xb * ya + xv * yb + xa * yv < xa * yb + xb * yv + xv * ya
peak xa ya xb yb xv yv α β γ δ ea eb ec ed h =
    omega (
      arith,
      times δ ea,
      times xb ed,
      times yb ed,
      times xa ed,
      times ya ed,
      times γ eb,
      times xb ec,
      times ya ec,
      times xa ec,
      times yb ec,
    )
