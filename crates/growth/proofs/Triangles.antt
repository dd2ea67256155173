-- The faces of any placed posts, by triangles: around a waiting post all triangles lie in one face, and a triangle of placed posts is a face by
-- itself.
use mathlib.Core.Path.{◌≡◌, refl, sym, subst}
use mathlib.Core.Logic.{◌⊎◌, inl, inr}
use mathlib.Core.List.{List}
use Prim.Native.Nat.{ℕ}
use Rattle.words.specs.Lists.{In}
use Rattle.rings.specs.Rings.{ring}
use Rattle.rings.specs.Plane.{Wire, SameTriangle}
use Rattle.rings.proofs.Around.{After, after_follows, around_in}
use Rattle.rings.proofs.Says.{Faces, entry_other, next_corner}
use Rattle.order.proofs.NewRun.{rings}
use Rattle.growth.specs.Co.{Face, Border, Triangular}
use Rattle.growth.specs.Co.Face.{same, turn, cross}
use Rattle.growth.proofs.Walks.{ring_spread}

module _ (G : List (List ℕ)) (A : Faces G) (placed : List ℕ) where
  -- around a waiting post all triangles lie in one face
  pub around_waiting : (p q r x a b : ℕ) → ¬ (In x placed) → After G x a b → Face G placed p q r x a b
      → (c d : ℕ) → After G x c d → Face G placed p q r x c d
  around_waiting p q r x a b m f t c d g =
      ring_spread Q (ring G x) a (around_in (ring G x) a b f).0 start next c (around_in (ring G x) c d g).0 d g
    where
      Q : ℕ → Type 0
      Q c = (d : ℕ) → After G x c d → Face G placed p q r x c d

      start : Q a
      start d g = subst (Face G placed p q r x a) ((rings G A).next_one x a b d f g) t

      next : (c d : ℕ) → After G x c d → Q c → Q d
      next c d f h e g = cross (turn (turn (h d f))) (λ w. m w.1) (after_follows G x d e g)

  -- a triangle of placed posts is a face by itself
  module _ (u v w : ℕ) (f : After G u v w) (iu : In u placed) (iv : In v placed) (iw : In w placed) where
    at_v : After G v w u
    at_v = A.triangle u v w f

    at_w : After G w u v
    at_w = A.triangle v w u at_v

    uv : Wire G placed u v
    uv = (iu, iv, (around_in (ring G u) v w f).0)

    vw : Wire G placed v w
    vw = (iv, iw, (around_in (ring G v) w u at_v).0)

    wu : Wire G placed w u
    wu = (iw, iu, (around_in (ring G w) u v at_w).0)

    wired : {x y z : ℕ} → SameTriangle u v w x y z → Wire G placed x y
    wired (inl e) = rw (e.0, e.1) uv
    wired (inr (inl e)) = rw (e.0, e.1) vw
    wired (inr (inr e)) = rw (e.0, e.1) wu

    alone : {x y z : ℕ} → Face G placed u v w x y z → SameTriangle u v w x y z
    alone same = inl (refl, refl, refl)
    alone (turn t) = next_corner (alone t)
    alone (cross t n g) = absurd (n (wired (alone t)))

    pub all_sides : Border G placed u v w u v × Border G placed u v w v w × Border G placed u v w w u
    all_sides = (
      (uv, (w, after_follows G u v w f, same)),
      (vw, (u, after_follows G v w u at_v, turn same)),
      (wu, (v, after_follows G w u v at_w, turn (turn same))),
    )

    pub sides_only : (x y : ℕ) → Border G placed u v w x y → ((x ≡ u) × (y ≡ v)) ⊎ (((x ≡ v) × (y ≡ w)) ⊎ ((x ≡ w) × (y ≡ u)))
    sides_only x y b =
        elim (alone b.1.2) [
          | inl e ↦ inl (e.0, e.1)
          | inr i ↦ elim i [ inl e ↦ inr (inl (e.0, e.1)) | inr e ↦ inr (inr (e.0, e.1)) ]
        ]

    pub triangular : Triangular G placed u v w
    triangular = record {
      p = u;
      q = v;
      r = w;
      differ_pq = λ e. entry_other G A u v uv.2 (sym e);
      differ_qr = λ e. entry_other G A v w vw.2 (sym e);
      differ_rp = λ e. entry_other G A w u wu.2 (sym e);
      side_pq = all_sides.0;
      side_qr = all_sides.1;
      side_rp = all_sides.2;
      only = sides_only;
    }
