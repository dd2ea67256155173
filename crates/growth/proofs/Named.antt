-- An order that names each post of a triangulated plane graph once, and paths between placed posts.
use mathlib.Core.Path.{◌≡◌, refl, ◌∙◌}
use mathlib.Core.Logic.{◌≢◌}
use mathlib.Core.List.{List}
use Prim.Native.Nat.{ℕ, suc, ◌-◌, ◌≤◌, ◌<◌}
use native.Mathlib.Omega.{arith}
use native.Mathlib.Decide.{ℕ_discrete}
use lib.ListN.{length, take}
use Rattle.words.specs.Lists.{In}
use Rattle.words.specs.Positions.{post}
use Rattle.words.proofs.Lists.{all_there}
use Rattle.words.proofs.Tests.{place_in, in_place, once_different}
use Rattle.words.proofs.Positions.{in_take, take_in, post_suc}
use Rattle.rings.specs.Plane.{Wire}
use Rattle.order.proofs.Growth.{Names}
use Rattle.growth.specs.Co.{Joined}
use Rattle.growth.specs.Co.Joined.{here, along}

-- ---- paths
-- a path to another post has a first step
module _ (G : List (List ℕ)) (placed : List ℕ) (z a : ℕ) where
  pub first_step : {b : ℕ} → Joined G placed z a b → a ≢ b → (c : ℕ) × Wire G placed a c × (c ≢ z)
  first_step here n = absurd (n refl)
  first_step (along {u} {w} r h o) n = go (ℕ_discrete a u) (λ m. first_step r m)
    where
      go : Dec (a ≡ u) → (a ≢ u → (c : ℕ) × Wire G placed a c × (c ≢ z)) → (c : ℕ) × Wire G placed a c × (c ≢ z)
      go (yes e) k = (w, rw e h, o)
      go (no m) k = k m

module _ (vs : List ℕ) where
  pub post_in : (k j : ℕ) → 1 ≤ j → j ≤ k → k ≤ length vs → In (post vs j) (take k vs)
  post_in k j h i l = take_in k vs (j - 1) (omega arith) (omega arith)

module _ (G : List (List ℕ)) (vs : List ℕ) (N : Names (length G) vs) where
  post_below : (k : ℕ) → 1 ≤ k → k ≤ length G → post vs k < length G
  post_below k h i = N.below (post vs k) (place_in vs (k - 1) (omega (arith, N.all)))

  -- length G is no post's name
  pub post_other : (k : ℕ) → 1 ≤ k → k ≤ length G → post vs k ≢ length G
  post_other k h i e = omega (arith, e, post_below k h i)

  post_one : (i j : ℕ) → 1 ≤ i → i ≤ length G → 1 ≤ j → j ≤ length G → post vs i ≡ post vs j → i ≡ j
  post_one i j a b c d e =
      let s = once_different vs N.once (i - 1) (j - 1) (omega (arith, N.all)) (omega (arith, N.all)) e in
      omega arith

  pub post_apart : (i j : ℕ) → 1 ≤ i → i < j → j ≤ length G → post vs i ≢ post vs j
  post_apart i j a b c e = let q = post_one i j a (omega arith) (omega arith) c e in omega arith

  -- every post has a position
  pub position_of_lem : (a : ℕ) → a < length G → (j : ℕ) × (1 ≤ j) × (j ≤ length G) × (post vs j ≡ a)
  position_of_lem a h =
      let i = in_place vs a (all_there (length G) vs N.once N.below (omega (arith, N.all)) a h) in
      (suc i.0, omega arith, omega (arith, i.1, N.all), post_suc vs i.0 ∙ i.2)

  pub not_yet : (k j : ℕ) → k < j → j ≤ length G → ¬ (In (post vs j) (take k vs))
  not_yet k j h l i =
      let t = in_take k vs (post vs j) i in
      let e = once_different vs N.once t.0 (j - 1) t.2 (omega (arith, N.all)) t.3 in
      omega (arith, t.1)
