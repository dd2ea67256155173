-- The wires under a contour, and the two steps that keep them apart: a new post over two neighbours, and a neighbour cut_off off by a wire
-- above it.
use Prim.Native.Nat.{ℕ, ◌*◌, ◌≤◌, ◌<◌}
use mathlib.Core.Path.{◌≡◌, refl, sym}
use mathlib.Core.Logic.{◌⊎◌, inl, inr}
use mathlib.Core.List.{List, [], ◌∷◌, ◌++◌}
use native.Mathlib.Nat.{mul-le-mul_right}
use native.Mathlib.Omega.{arith}
use Rattle.drawing.specs.Meeting.{Point, Places, At}
use Rattle.drawing.proofs.Numbers.{by_le}
use Rattle.drawing.specs.Areas.{PositiveArea}
use Rattle.drawing.proofs.Fan.{Along, on_under, at_left, at_right, on_left, on_right, left_fan, left_only, right_fan, right_only}
use Rattle.words.proofs.Chains.{Chain, chain_map, chain_at, chain_swap}
use Rattle.drawing.proofs.Roof.{Roof, Rising, roof_swap, roof_in, roof_left, roof_right}

-- a common point of two wires: they are one wire, or the point is at a post that both end at
pub data Common (s : Places) (a b c e : ℕ) (P : Point) : Type 0 where
  same : a ≡ c → b ≡ e → Common s a b c e P
  shared : (z : ℕ) → (z ≡ a) ⊎ (z ≡ b) → (z ≡ c) ⊎ (z ≡ e) → At s z P → Common s a b c e P

pub flip : {s : Places} {a b c e : ℕ} {P : Point} → Common s a b c e P → Common s c e a b P
flip (same p q) = same (sym p) (sym q)
flip (shared z p q h) = shared z q p h

-- one wire more
pub data Add (E : ℕ → ℕ → Type 0) (a c : ℕ) : ℕ → ℕ → Type 0 where
  was : {u w : ℕ} → E u w → Add E a c u w
  new : Add E a c a c

-- E u w: a wire from u to the right to w
pub record Wires (s : Places) (E : ℕ → ℕ → Type 0) (C : List ℕ) : Type 0 where
  pub right : {a b : ℕ} → E a b → s.x a < s.x b
  pub roof : {a b : ℕ} {P : Point} → E a b → Along s a b P → Roof s P C
  pub meet : {a b c e : ℕ} {P : Point} → E a b → E c e → Along s a b P → Along s c e P → Common s a b c e P

pub data EndOf (E : ℕ → ℕ → Type 0) (z : ℕ) : Type 0 where
  begins : {t : ℕ} → E z t → EndOf E z
  ends : {t : ℕ} → E t z → EndOf E z

module _ (s : Places) {E : ℕ → ℕ → Type 0} {C : List ℕ} (W : Wires s E C) where
  open s use {x, y}

  pub chain_rising : (l : List ℕ) → Chain E l → Rising s l
  chain_rising l = chain_map (λ b c e. W.right e) l

  two_places : {a b : ℕ} {P : Point} → x a < x b → At s a P → At s b P → ⊥
  two_places {a} {b} {P} h i j = omega (arith, mul-le-mul_right P.d h, P.positive)

  -- a post on a wire is one of its ends
  pub through : {z u w : ℕ} {P : Point} → EndOf E z → E u w → Along s u w P → At s z P → (z ≡ u) ⊎ (z ≡ w)
  through {z} {u} {w} {P} (begins {t} e) f o h = go (W.meet e f (at_left s h) o)
    where
      go : Common s z t u w P → (z ≡ u) ⊎ (z ≡ w)
      go (same p q) = inl p
      go (shared k (inl p) q i) = rw (← p) q
      go (shared k (inr p) q i) = absurd (two_places (W.right e) h (rw (← p) i))
  through {z} {u} {w} {P} (ends {t} e) f o h = go (W.meet e f (at_right s h) o)
    where
      go : Common s t z u w P → (z ≡ u) ⊎ (z ≡ w)
      go (same p q) = inr q
      go (shared k (inl p) q i) = absurd (two_places (W.right e) (rw (← p) i) h)
      go (shared k (inr p) q i) = rw (← p) q

  -- a wire above them all, and a contour above it
  pub extend : {a c : ℕ} {C' : List ℕ} → x a < x c → ((P : Point) → Roof s P C → Roof s P C') → ((P : Point) → Along s a c P → Roof s P C')
      → ((u w : ℕ) (P : Point) → E u w → Along s u w P → Along s a c P → Common s a c u w P) → Wires s (Add E a c) C'
  extend {a} {c} {C'} r f g h = record { right = right'; roof = roof'; meet = meet' }
    where
      right' : {u w : ℕ} → Add E a c u w → x u < x w
      right' (was e) = W.right e
      right' new = r

      roof' : {u w : ℕ} {P : Point} → Add E a c u w → Along s u w P → Roof s P C'
      roof' (was e) o = f _ (W.roof e o)
      roof' new o = g _ o

      meet' : {u w k l : ℕ} {P : Point} → Add E a c u w → Add E a c k l → Along s u w P → Along s k l P → Common s u w k l P
      meet' (was e) (was i) o p = W.meet e i o p
      meet' (was e) new o p = flip (h _ _ _ e o p)
      meet' new (was i) o p = h _ _ _ i p o
      meet' new new o p = same refl refl

-- K: the wires, and a contour of them above them
pub record K (s : Places) (E : ℕ → ℕ → Type 0) (C : List ℕ) : Type 0 where
  pub wires : Wires s E C
  pub chain : Chain E C

-- two posts
pub data Ground (a b : ℕ) : ℕ → ℕ → Type 0 where
  ground : Ground a b a b

pub on_ground : (s : Places) (a b : ℕ) → s.x a < s.x b → K s (Ground a b) (a ∷ b ∷ [])
on_ground s a b h = record { wires = record { right = right'; roof = roof'; meet = meet' }; chain = (ground, tt) }
  where
    right' : {u w : ℕ} → Ground a b u w → s.x u < s.x w
    right' ground = h

    roof' : {u w : ℕ} {P : Point} → Ground a b u w → Along s u w P → Roof s P (a ∷ b ∷ [])
    roof' ground o = inl (on_under s h o)

    meet' : {u w k l : ℕ} {P : Point} → Ground a b u w → Ground a b k l → Along s u w P → Along s k l P → Common s u w k l P
    meet' ground ground o p = same refl refl

-- a new post v over the neighbours a and b
module _ (s : Places) (E : ℕ → ℕ → Type 0) (L R : List ℕ) (a b v : ℕ) (k : K s E (L ++ a ∷ b ∷ R)) (av : s.x a < s.x v)
    (vb : s.x v < s.x b) (turn : PositiveArea s a b v) where
  open s use {x, y}

  tail : Chain E (a ∷ b ∷ R)
  tail = chain_at E a L (b ∷ R) k.chain

  abbrev E₁ : ℕ → ℕ → Type 0
  E₁ = Add E a v

  abbrev pub E₂ : ℕ → ℕ → Type 0
  E₂ = Add E₁ v b

  turn' : PositiveArea s v a b
  turn' = omega arith

  ab : x a < x b
  ab = omega arith

  up : (P : Point) → Roof s P (L ++ a ∷ b ∷ R) → Roof s P (L ++ a ∷ v ∷ b ∷ R)
  up P = roof_swap s a P L (b ∷ R) (v ∷ b ∷ R) go
    where
      go : Roof s P (a ∷ b ∷ R) → Roof s P (a ∷ v ∷ b ∷ R)
      go (inl u) = by_le P.X (x v * P.d) (λ h. inl (left_fan s turn ab av u h)) (λ h. inr (inl (right_fan s turn' ab vb u (omega arith))))
      go (inr r) = inr (inr r)

  -- an old wire's point on a new wire
  old_at : (P : Point) {u w : ℕ} → E u w → Along s u w P → (Along s a v P → At s a P) × (Along s v b P → At s b P)
  old_at P e o = go (roof_left s a P L (b ∷ R) (chain_rising s k.wires (L ++ a ∷ b ∷ R) k.chain) (k.wires.roof e o))
    where
      go : (P.X ≤ x a * P.d) ⊎ Roof s P (a ∷ b ∷ R) → (Along s a v P → At s a P) × (Along s v b P → At s b P)
      go (inl h) = (λ p. on_left s av p h, λ p. absurd (omega (arith, (on_under s vb p).from, mul-le-mul_right P.d av, P.positive)))
      go (inr (inl u)) = (left_only s turn ab av u, right_only s turn' ab vb u)
      go (inr (inr r)) =
          let h = roof_right s P b R (chain_rising s k.wires (b ∷ R) tail.1) r in
          (λ p. absurd (omega (arith, (on_under s av p).to, mul-le-mul_right P.d vb, P.positive)), λ p. on_right s vb p h)

  left_wire : Wires s E₁ (L ++ a ∷ v ∷ b ∷ R)
  left_wire =
      extend s k.wires av up (λ P o. roof_in s a P L (v ∷ b ∷ R) (inl (on_under s av o)))
      (λ u w P e o p. let h = (old_at P e o).0 p in shared a (inl refl) (through s k.wires (begins tail.0) e o h) h)

  right_wire : (u w : ℕ) (P : Point) → E₁ u w → Along s u w P → Along s v b P → Common s v b u w P
  right_wire u w P (was e) o p = let h = (old_at P e o).1 p in shared b (inr refl) (through s k.wires (ends tail.0) e o h) h
  right_wire u w P new o p = shared v (inl refl) (inr refl) (on_left s vb p (on_under s av o).to)

  pub split : K s E₂ (L ++ a ∷ v ∷ b ∷ R)
  split =
      record {
        wires = extend s left_wire vb (λ P r. r) (λ P o. roof_in s a P L (v ∷ b ∷ R) (inr (inl (on_under s vb o)))) right_wire;
        chain =
            chain_swap E₂ a L (b ∷ R) (v ∷ b ∷ R) (chain_map (λ c d e. was (was e)) (L ++ a ∷ b ∷ R) k.chain)
            (was new, (new, chain_map {E = E} {F = E₂} (λ c d e. was (was e)) (b ∷ R) tail.1));
      }

-- the neighbour b cut_off off by a wire from a to c
module _ (s : Places) (E : ℕ → ℕ → Type 0) (L R : List ℕ) (a b c : ℕ) (k : K s E (L ++ a ∷ b ∷ c ∷ R)) (turn : PositiveArea s a b c) where
  open s use {x, y}

  tail' : Chain E (a ∷ b ∷ c ∷ R)
  tail' = chain_at E a L (b ∷ c ∷ R) k.chain

  ab' : x a < x b
  ab' = k.wires.right tail'.0

  bc' : x b < x c
  bc' = k.wires.right tail'.1.0

  ac' : x a < x c
  ac' = omega (arith, ab', bc')

  over : (P : Point) → Roof s P (L ++ a ∷ b ∷ c ∷ R) → Roof s P (L ++ a ∷ c ∷ R)
  over P = roof_swap s a P L (b ∷ c ∷ R) (c ∷ R) go
    where
      go : Roof s P (a ∷ b ∷ c ∷ R) → Roof s P (a ∷ c ∷ R)
      go (inl u) = inl (left_fan s turn ab' ac' u (omega (arith, u.to, mul-le-mul_right P.d bc')))
      go (inr (inl u)) = inl (right_fan s turn bc' ac' u (omega (arith, u.from, mul-le-mul_right P.d ab')))
      go (inr (inr r)) = inr r

  cut_meet : (u w : ℕ) (P : Point) → E u w → Along s u w P → Along s a c P → Common s a c u w P
  cut_meet u w P e o p = go (roof_left s a P L (b ∷ c ∷ R) (chain_rising s k.wires (L ++ a ∷ b ∷ c ∷ R) k.chain) (k.wires.roof e o))
    where
      at_a : At s a P → Common s a c u w P
      at_a h = shared a (inl refl) (through s k.wires (begins tail'.0) e o h) h

      at_c : At s c P → Common s a c u w P
      at_c h = shared c (inr refl) (through s k.wires (ends tail'.1.0) e o h) h

      go : (P.X ≤ x a * P.d) ⊎ Roof s P (a ∷ b ∷ c ∷ R) → Common s a c u w P
      go (inl h) = at_a (on_left s ac' p h)
      go (inr (inl i)) = at_a (left_only s turn ab' ac' i p)
      go (inr (inr (inl i))) = at_c (right_only s turn bc' ac' i p)
      go (inr (inr (inr r))) = at_c (on_right s ac' p (roof_right s P c R (chain_rising s k.wires (c ∷ R) tail'.1.1) r))

  pub cut_off : K s (Add E a c) (L ++ a ∷ c ∷ R)
  cut_off =
      record {
        wires = extend s k.wires ac' over (λ P o. roof_in s a P L (c ∷ R) (inl (on_under s ac' o))) cut_meet;
        chain =
            chain_swap (Add E a c) a L (b ∷ c ∷ R) (c ∷ R) (chain_map (λ c d e. was e) (L ++ a ∷ b ∷ c ∷ R) k.chain)
            (new, chain_map {E = E} {F = Add E a c} (λ c d e. was e) (c ∷ R) tail'.1.1);
      }
