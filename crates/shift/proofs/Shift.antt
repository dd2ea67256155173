-- Posts that move right by groups: what is well placed stays so.
use Prim.Native.Nat.{ℕ, ◌+◌, ◌-◌, ◌≤◌, ◌<◌}
use mathlib.Core.Path.{◌≡◌, refl}
use mathlib.Core.Logic.{◌⊎◌, inl, inr}
use mathlib.Core.List.{List, [], ◌∷◌, ◌++◌}
use native.Mathlib.Omega.{arith}
use Rattle.words.specs.Lists.{In}
use Rattle.drawing.specs.Meeting.{Places}
use Rattle.drawing.proofs.Numbers.{by_le}
use Rattle.drawing.specs.Areas.{PositiveArea}
use Rattle.words.proofs.Lists.{in_right, in_run}
use Rattle.words.proofs.Chains.{Chain, chain_map, chain_in}
use Rattle.drawing.proofs.Build.{Build, base, post, Post, Good, on_contour}
use Rattle.shift.proofs.Peaks.{moved_turn, scaled}

-- ---- what is kept. g u: the place on the contour of u's group
pub record Left (s : Places) (g : ℕ → ℕ) (a b : ℕ) : Type 0 where
  pub far : s.x a < s.x b
  pub ord : g a ≤ g b

-- v over two neighbours of its run
pub record HeldPair (s : Places) (g : ℕ → ℕ) (v a b : ℕ) : Type 0 where
  pub turn : PositiveArea s a b v
  pub far : s.x a < s.x b
  pub from : g a ≤ g v
  pub to : g v ≤ g b
  pub low_a : g v < g b → s.y a ≤ s.y v
  pub low_b : g a < g v → s.y b ≤ s.y v

pub record HeldRun (s : Places) (g : ℕ → ℕ) (p : ℕ) (M : List ℕ) (q v : ℕ) : Type 0 where
  pub left : Left s g p v
  pub right : Left s g v q
  pub run : Chain (HeldPair s g v) (p ∷ (M ++ q ∷ []))

abbrev pub HeldAll : Places → (ℕ → ℕ) → {C : List ℕ} → Build C → Type 0
HeldAll s g (base a b) = Left s g a b
HeldAll s g (post L p M q R v B) = HeldRun s g p M q v × HeldAll s g B

pub good : (s : Places) (g : ℕ → ℕ) {C : List ℕ} (B : Build C) → HeldAll s g B → Good s B
good s g (base a b) k = omega (arith, k)
good s g (post L p M q R v B) k = (
  record {
    left = omega (arith, k.0.left);
    right = omega (arith, k.0.right);
    over = chain_map {E = HeldPair s g v} (λ a b h. h.turn) (p ∷ (M ++ q ∷ [])) k.0.run;
  },
  good s g B k.1,
)

-- ---- the shift
module _ (s s' : Places) (g g' : ℕ → ℕ) where
  open s use {x, y}
  open s' use {x as x', y as y'}

  pub record Slides (Here : ℕ → Type 0) : Type 0 where
    pub right : (u : ℕ) → Here u → x u ≤ x' u
    pub level : (u : ℕ) → Here u → y' u ≡ y u
    pub order : (u w : ℕ) → Here u → Here w → g u ≤ g w → (x' u + x w ≤ x' w + x u) × (g' u ≤ g' w)

  module _ {Here : ℕ → Type 0} (m : Slides Here) where
    left_kept : (a b : ℕ) → Here a → Here b → Left s g a b → Left s' g' a b
    left_kept a b ia ib l = omega (arith, l, m.order a b ia ib l.ord)

    held_kept : (v a b : ℕ) → Here v → Here a → Here b → HeldPair s g v a b → HeldPair s' g' v a b
    held_kept v a b iv ia ib h =
        let o = m.order a v ia iv h.from in
        let r = m.order v b iv ib h.to in
        let back_a : g' a < g' v → g a < g v = λ k. by_le (g v) (g a) (λ l. absurd (omega (arith, m.order v a iv ia l))) (λ l. l) in
        let back-b : g' v < g' b → g v < g b = λ k. by_le (g b) (g v) (λ l. absurd (omega (arith, m.order b v ib iv l))) (λ l. l) in
        let γ : ℕ = x' v + x a - (x' a + x v) in
        let β : ℕ = x' b + x v - (x' v + x b) in
        record {
          turn =
              rw (m.level a ia, m.level b ib, m.level v iv)
              (moved_turn (x a) (y a) (x b) (y b) (x v) (y v) (x' a) (x' b) (x' v) (x' a - x a) γ β
              (omega (arith, m.right a ia)) (omega (arith, m.right a ia, o)) (omega (arith, m.right a ia, o, r))
              (scaled γ (λ k. h.low_b (by_le (g v) (g a) (λ l. absurd (omega (arith, m.order v a iv ia l))) (λ l. l))))
              (scaled β (λ k. h.low_a (by_le (g b) (g v) (λ l. absurd (omega (arith, m.order b v ib iv l))) (λ l. l)))) h.turn);
          far = omega (arith, h.far, o, r);
          from = o.1;
          to = r.1;
          low_a = λ k. omega (arith, h.low_a (back-b k), m.level a ia, m.level v iv);
          low_b = λ k. omega (arith, h.low_b (back_a k), m.level b ib, m.level v iv);
        }

  pub kept : {C : List ℕ} (B : Build C) → Slides (Post B) → HeldAll s g B → HeldAll s' g' B
  kept (base a b) m k = left_kept m a b (inl refl) (inr refl) k
  kept (post L p M q R v B) m k = (
    record {
      left = left_kept m p v (there p (inl refl)) (inl refl) k.0.left;
      right = left_kept m v q (inl refl) (there q (inr (in_right q M (q ∷ []) (inl refl)))) k.0.right;
      run = chain_in (p ∷ (M ++ q ∷ [])) (λ a b i j. held_kept m v a b (inl refl) (there a i) (there b j)) k.0.run;
    },
    kept B (record { right = λ u i. m.right u (inr i); level = λ u i. m.level u (inr i); order = λ u w i j. m.order u w (inr i) (inr j) }) k.1,
  )
    where
      there : (u : ℕ) → In u (p ∷ (M ++ q ∷ [])) → (u ≡ v) ⊎ Post B u
      there u i = inr (on_contour B u (in_run u L p M q R i))
