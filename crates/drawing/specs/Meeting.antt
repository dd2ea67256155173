-- Meeting, over any places of the posts and any wires between them.
use Rattle.std.specs.Prelude.{ℕ, ◌+◌, ◌*◌, ◌≤◌, ◌<◌, ◌≡◌, ◌⊎◌}

-- where the posts stand, by name
pub record Places : Type 0 where
  pub x : ℕ → ℕ
  pub y : ℕ → ℕ

-- M2: the point (X / d, Y / d), with d above 0. A point of a segment between posts has no coordinate below zero.
pub record Point : Type 0 where
  pub X : ℕ
  pub Y : ℕ
  pub d : ℕ
  pub positive : 0 < d

-- the point lies on the segment from a to b, ends counted: it is their mean with whole weights i and j that are not both 0
pub record On (s : Places) (a b : ℕ) (P : Point) : Type 0 where
  pub i : ℕ
  pub j : ℕ
  pub some : 0 < i + j
  pub is_x : (i + j) * P.X ≡ P.d * (i * s.x a + j * s.x b)
  pub is_y : (i + j) * P.Y ≡ P.d * (i * s.y a + j * s.y b)

-- the point is where z stands
pub record At (s : Places) (z : ℕ) (P : Point) : Type 0 where
  pub is_x : P.X ≡ P.d * s.x z
  pub is_y : P.Y ≡ P.d * s.y z

-- M3: the segments have a point in common
abbrev pub Meet : Places → ℕ → ℕ → ℕ → ℕ → Type 0
Meet s a b c e = (P : Point) × On s a b P × On s c e P

-- z is an end of the wire from a to b; the wires from a to b and from c to e are the same
abbrev pub End : ℕ → ℕ → ℕ → Type 0
End z a b = (z ≡ a) ⊎ (z ≡ b)

abbrev pub Same : ℕ → ℕ → ℕ → ℕ → Type 0
Same a b c e = ((a ≡ c) × (b ≡ e)) ⊎ ((a ≡ e) × (b ≡ c))

-- each point that lies on two wires, if they are not the same one, is where a post stands that is an end of both (D3)
abbrev pub NoneMeet : Places → (ℕ → ℕ → Type 0) → Type 0
NoneMeet s Wire =
    (a b c e : ℕ) → Wire a b → Wire c e → ¬ (Same a b c e) → (m : Meet s a b c e) → (z : ℕ) × End z a b × End z c e × At s z m.0

-- each post is within this width and height, and no two are at one point
pub record OnGrid (s : Places) (Post : ℕ → Type 0) (width height : ℕ) : Type 0 where
  pub inside : (u : ℕ) → Post u → (s.x u ≤ width) × (s.y u ≤ height)
  pub different : (u w : ℕ) → Post u → Post w → s.x u ≡ s.x w → s.y u ≡ s.y w → u ≡ w
