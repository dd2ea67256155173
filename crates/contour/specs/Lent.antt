-- The arrays of a contour where they are lent together.
use Rattle.std.specs.Prelude.{ℕ, ◌≡◌, length}
use Rattle.contour.specs.Arrays.{Ready, Over}
use Rattle.contour.specs.declared.Contour.{Contour}

-- c' lends the very arrays that c lent
pub record SameArrays (c c' : Contour) : Type 0 where
  pub same_ys : c'.ys.ghost_name ≡ c.ys.ghost_name
  pub same_off : c'.off.ghost_name ≡ c.off.ghost_name
  pub same_cover : c'.cover.ghost_name ≡ c.cover.ghost_name
  pub same_left : c'.left.ghost_name ≡ c.left.ghost_name
  pub same_right : c'.right.ghost_name ≡ c.right.ghost_name
  pub long_ys : length c'.ys.now ≡ length c.ys.now
  pub long_off : length c'.off.now ≡ length c.off.now
  pub long_cover : length c'.cover.now ≡ length c.cover.now
  pub long_left : length c'.left.now ≡ length c.left.now
  pub long_right : length c'.right.now ≡ length c.right.now

abbrev pub ReadyIn : ℕ → ℕ → ℕ → Contour → Type 0
ReadyIn v p m c = Ready v p m c.ys.now c.off.now c.cover.now c.left.now c.right.now

abbrev pub OverIn : ℕ → ℕ → ℕ → Contour → Contour → Type 0
OverIn v p m c c' =
    Over v p m c.ys.now c.off.now c.cover.now c.left.now c.right.now c'.ys.now c'.off.now c'.cover.now c'.left.now c'.right.now
