-- Stage 3 in the arrays.
use Prim.Native.Nat.{ℕ, ◌<◌}
use mathlib.Core.Path.{◌≡◌, refl, sym, ◌∙◌, subst⁻¹}
use mathlib.Core.Logic.{inl, inr, ◌≢◌}
use mathlib.Core.List.{List, [], ◌∷◌}
use native.Mathlib.Omega.{arith}
use lib.ListN.{length, get_or, set, length-set}
use lib.Seq.{get_or-set_same, get_or-set_other}
use Rattle.words.specs.Lists.{In, Adj}
use Rattle.words.proofs.Tests.{eqb_same, eqb_other, place_in}
use Rattle.rings.specs.Held.{held}
use Rattle.order.proofs.Fitting.{fits_once}
use Rattle.placing.specs.Stages.{Stage, third}
use Rattle.placing.proofs.Steps.{stage_third}
use Rattle.order.specs.Fitted.{Fitted}
use Rattle.engine.specs.Shows.{Shows, Room, Corners, Holds}
use Rattle.shift.proofs.Every.{three_differ}
use Rattle.engine.proofs.Kept.{on_third}

module _ (v1 v2 v3 : ℕ) (d12 : v1 ≢ v2) (d13 : v1 ≢ v3) (d23 : v2 ≢ v3) where
  -- three stores
  abbrev Set3 : List ℕ → ℕ → ℕ → ℕ → List ℕ
  Set3 l x y z = set (set (set l v1 x) v2 y) v3 z

  module _ (l : List ℕ) (x y z : ℕ) (h1 : v1 < length l) (h2 : v2 < length l) (h3 : v3 < length l) where
    at1 : get_or (Set3 l x y z) v1 0 ≡ x
    at1 = get_or-set_other (set (set l v1 x) v2 y) v3 v1 z 0 d13 ∙ get_or-set_other (set l v1 x) v2 v1 y 0 d12 ∙ get_or-set_same l v1 x 0 h1

    at2 : get_or (Set3 l x y z) v2 0 ≡ y
    at2 = get_or-set_other (set (set l v1 x) v2 y) v3 v2 z 0 d23 ∙ get_or-set_same (set l v1 x) v2 y 0 (rw (length-set l v1 x) h2)

    at3 : get_or (Set3 l x y z) v3 0 ≡ z
    at3 = get_or-set_same (set (set l v1 x) v2 y) v3 z 0 (simp length-set h3)

  abbrev t : Stage
  t = third v1 v2 v3

  x1 : t.x v1 ≡ 0
  unfolding third
  x1 = rw (eqb_other v1 v3 d13, eqb_other v1 v2 d12) refl

  x2 : t.x v2 ≡ 2
  unfolding third
  x2 = rw (eqb_other v2 v3 d23, eqb_same v2) refl

  x3 : t.x v3 ≡ 1
  unfolding third
  x3 = rw (eqb_same v3) refl

  y1 : t.y v1 ≡ 0
  unfolding third
  y1 = rw (eqb_other v1 v3 d13) refl

  y2 : t.y v2 ≡ 0
  unfolding third
  y2 = rw (eqb_other v2 v3 d23) refl

  y3 : t.y v3 ≡ 1
  unfolding third
  y3 = rw (eqb_same v3) refl

  by_adj : {C : Type 0} (a b : ℕ) → (v1 ≡ a → v3 ≡ b → C) → (v3 ≡ a → v2 ≡ b → C) → Adj (v1 ∷ v3 ∷ v2 ∷ []) a b → C
  by_adj a b f g (inl h) = f h.0 h.1
  by_adj a b f g (inr (inl h)) = g h.0 h.1
  by_adj a b f g (inr (inr (inl h))) = absurd h.1
  by_adj a b f g (inr (inr (inr h))) = absurd h

  module _ (n : ℕ) (ys off cover left right : List ℕ) (W : Room n ys off cover left right) (b1 : v1 < n) (b2 : v2 < n) (b3 : v3 < n) where
    pub third_shows : Shows t (Set3 ys 0 0 1) (Set3 off 0 1 1) (Set3 cover v1 v2 v3) (Set3 left v1 v3 v1) (Set3 right v3 v2 v2)
    unfolding third
    third_shows =
        record {
          height = height;
          apart = λ a b. by_adj a b (λ e f. rw (← e, ← f) (omega (arith, x1, x3, at3 off 0 1 1 (omega (arith, W)) (omega (arith, W)) (omega (arith, W)))))
              (λ e f. rw (← e, ← f) (omega (arith, x2, x3, at2 off 0 1 1 (omega (arith, W)) (omega (arith, W)) (omega (arith, W)))));
          from_none = at1 off 0 1 1 (omega (arith, W)) (omega (arith, W)) (omega (arith, W));
          left_is = λ a b. by_adj a b (λ e f. rw (← e, ← f) (at3 left v1 v3 v1 (omega (arith, W)) (omega (arith, W)) (omega (arith, W))))
              (λ e f. rw (← e, ← f) (at2 left v1 v3 v1 (omega (arith, W)) (omega (arith, W)) (omega (arith, W))));
          right_is = λ a b. by_adj a b (λ e f. rw (← e, ← f) (at1 right v3 v2 v2 (omega (arith, W)) (omega (arith, W)) (omega (arith, W))))
              (λ e f. rw (← e, ← f) (at3 right v3 v2 v2 (omega (arith, W)) (omega (arith, W)) (omega (arith, W))));
          first = at1 left v1 v3 v1 (omega (arith, W)) (omega (arith, W)) (omega (arith, W));
          last = at2 right v3 v2 v2 (omega (arith, W)) (omega (arith, W)) (omega (arith, W));
          bare = bare;
          covers = λ u h m. absurd (m (on_third v1 v2 v3 u h));
          hangs = λ u h m. absurd (m (on_third v1 v2 v3 u h));
        }
      where
        height : (u : ℕ) → In u (v1 ∷ v2 ∷ v3 ∷ []) → get_or (Set3 ys 0 0 1) u 0 ≡ t.y u
        height u (inl e) = rw e (at1 ys 0 0 1 (omega (arith, W)) (omega (arith, W)) (omega (arith, W)) ∙ sym y1)
        height u (inr (inl e)) = rw e (at2 ys 0 0 1 (omega (arith, W)) (omega (arith, W)) (omega (arith, W)) ∙ sym y2)
        height u (inr (inr (inl e))) = rw e (at3 ys 0 0 1 (omega (arith, W)) (omega (arith, W)) (omega (arith, W)) ∙ sym y3)
        height u (inr (inr (inr z))) = absurd z

        bare : (u : ℕ) → In u (v1 ∷ v3 ∷ v2 ∷ []) → get_or (Set3 cover v1 v2 v3) u 0 ≡ u
        bare u (inl e) = rw e (at1 cover v1 v2 v3 (omega (arith, W)) (omega (arith, W)) (omega (arith, W)))
        bare u (inr (inl e)) = rw e (at3 cover v1 v2 v3 (omega (arith, W)) (omega (arith, W)) (omega (arith, W)))
        bare u (inr (inr (inl e))) = rw e (at2 cover v1 v2 v3 (omega (arith, W)) (omega (arith, W)) (omega (arith, W)))
        bare u (inr (inr (inr z))) = absurd z

-- as the code has made them
pub start_shows : (v1 v2 v3 : ℕ) (ys off cover left right ys' off' cover' left' right' : List ℕ) → Corners v1 v2 v3 ys off cover left right
    → ys' ≡ set (set (set ys v1 0) v2 0) v3 1 → off' ≡ set (set (set off v1 0) v2 1) v3 1 → cover' ≡ set (set (set cover v1 v1) v2 v2) v3 v3
    → left' ≡ set (set (set left v1 v1) v2 v3) v3 v1 → right' ≡ set (set (set right v1 v3) v2 v2) v3 v2 → Shows (third v1 v2 v3) ys' off' cover' left' right'
start_shows v1 v2 v3 ys off cover left right ys' off' cover' left' right' C e1 e2 e3 e4 e5 =
    rw (e1, e2, e3, e4, e5) (third_shows v1 v2 v3 C.apart12 C.apart13 C.apart23 C.n ys off cover left right C.room
    C.below1 C.below2 C.below3)

-- ---- of a list that fits so far
module _ {at ents vs : List ℕ} (A : Fitted at ents vs) where
  -- three posts of the board, which differ
  pub three_posts : (get_or vs 0 0 < length (held at ents)) × (get_or vs 1 0 < length (held at ents)) × (get_or vs 2 0 < length (held at ents))
      × (get_or vs 0 0 ≢ get_or vs 1 0) × (get_or vs 0 0 ≢ get_or vs 2 0) × (get_or vs 1 0 ≢ get_or vs 2 0)
  three_posts =
      let b = A.fits.below in
      let d = three_differ vs (fits_once (held at ents) A.vn vs A.plane A.fits) A.three in (
        b (get_or vs 0 0) (place_in vs 0 (omega (arith, A.three))),
        b (get_or vs 1 0) (place_in vs 1 (omega (arith, A.three))),
        b (get_or vs 2 0) (place_in vs 2 (omega (arith, A.three))),
        d.0,
        d.1,
        d.2,
      )

  pub third_holds : {ys off cover left right : List ℕ} → Shows (third (get_or vs 0 0) (get_or vs 1 0) (get_or vs 2 0)) ys off cover left right
      → Room (length (held at ents)) ys off cover left right → Holds at ents vs 3 ys off cover left right
  third_holds {ys} {off} {cover} {left} {right} S W =
      record { shows = subst⁻¹ (λ (s : Stage). Shows s ys off cover left right) (stage_third (held at ents) vs A.three) S; room = W }
