-- The stage after a new post v over the run p, M, q, computed from the run's parts; and which posts move.
use Prim.Native.Nat.{ℕ, ◌+◌, ◌-◌, ◌/◌, ◌≤◌, ◌<◌}
use mathlib.Core.Path.{◌≡◌, refl, ap}
use mathlib.Core.Logic.{◌⊎◌, inl, inr}
use mathlib.Core.Bool.{cond}
use mathlib.Core.List.{List, [], ◌∷◌, ◌++◌, flat_map, append_assoc}
use native.Mathlib.Omega.{arith}
use lib.Dec.{eqb}
use Rattle.words.specs.Lists.{In, mem, last_of}
use Rattle.words.specs.Positions.{post}
use Rattle.placing.specs.Stages.{Stage, up_to, on_from, inner, place_over}
use Rattle.words.proofs.Lists.{in_cases, in_left, in_right, last_append}
use Rattle.placing.proofs.Steps.{up_to_at, on_from_at, inner_run}
use Rattle.placing.proofs.Placed.{moved_by}
use Rattle.words.proofs.Chains.{chain_to, chain_last}
use Rattle.drawing.proofs.Build.{Build, Post}
use Rattle.words.proofs.Tests.{mem_true, mem_false}
use Rattle.shift.proofs.Groups.{in_groups, groups_in, sides}
use Rattle.shift.proofs.Group.{to_q, from_p, upto_p, onto_q}
use Rattle.shift.proofs.Shifting.{Onward, onward_trans}
use Rattle.shift.proofs.Drawn.{places_of, Drawn}

-- C₁ is the contour up to p, C₂ from q on
unfoldable pub over : Stage → (p q : ℕ) → (M C₁ C₂ : List ℕ) → ℕ → Stage
over t p q M C₁ C₂ v =
    let ones = flat_map t.group M in
    let moved : ℕ → ℕ = λ u. t.x u + moved_by ones (flat_map t.group C₂) u in
    record {
      placed = t.placed ++ v ∷ [];
      contour = C₁ ++ v ∷ C₂;
      group = λ u. cond (eqb u v) (v ∷ ones) (t.group u);
      x = λ u. cond (eqb u v) ((moved p + moved q + t.y q - t.y p) / 2) (moved u);
      y = λ u. cond (eqb u v) ((moved q - moved p + t.y q + t.y p) / 2) (t.y u);
      cover = λ u. cond (mem M u) v (t.cover u);
    }

over_parts : (t : Stage) (w : List ℕ) (v : ℕ)
    → place_over t w v ≡ over t (post w 1) (last_of 0 w) (inner w) (up_to (post w 1) t.contour) (on_from (last_of 0 w) t.contour) v
unfolding place_over over
over_parts t w v = refl

module _ (t : Stage) (X : List ℕ) (p : ℕ) (M : List ℕ) (q : ℕ) (Y : List ℕ) {B : Build (X ++ p ∷ (M ++ q ∷ Y))} (D : Drawn t B) where
  open D use {g}

  abbrev E : ℕ → ℕ → Type 0
  E = Onward (places_of t) g

  abbrev trans : (a b c : ℕ) → E a b → E b c → E a c
  trans = onward_trans (places_of t) g

  abbrev grow : (a b : ℕ) → E a b → g a < g b
  grow a b h = h.ord

  -- the places in the three parts of the contour
  pub before_run : (a : ℕ) → In a (X ++ p ∷ []) → (g a ≤ g p) × In a (X ++ p ∷ (M ++ q ∷ Y))
  before_run = upto_p g X p M q Y E trans grow D.laid.rise

  pub after_run : (a : ℕ) → In a (q ∷ Y) → (g q ≤ g a) × In a (X ++ p ∷ (M ++ q ∷ Y))
  after_run = onto_q g X p M q Y E trans grow D.laid.rise

  pub inside : (a : ℕ) → In a M → (g p < g a) × (g a < g q) × In a (X ++ p ∷ (M ++ q ∷ Y))
  inside a i = (
    (from_p g X p M q Y E trans grow D.laid.rise a (in_left a M (q ∷ []) i)).ord,
    (to_q g X p M q Y E trans grow D.laid.rise a (inr i)).ord,
    in_right a X (p ∷ (M ++ q ∷ Y)) (inr (in_left a M (q ∷ Y) i)),
  )

  pub ends : Onward (places_of t) g p q
  ends = to_q g X p M q Y E trans grow D.laid.rise p (inl refl)

  -- the posts that move by 1
  pub in_ones : (u : ℕ) → In u (flat_map t.group M) → Post B u × (g p < g u) × (g u < g q)
  in_ones u h =
      let r = in_groups t.group u M h in
      let i = inside r.0 r.1 in
      let k = D.in_group r.0 u i.2 r.2 in
      (k.0, omega (arith, i.0, k.1), omega (arith, i.1, k.1))

  pub ones : (u : ℕ) → Post B u → g p < g u → g u < g q → In u (flat_map t.group M)
  ones u h a b = let r = D.headed u h in go r.0 r.1 r.2 (sides r.0 X p M q Y r.1)
    where
      go : (c : ℕ) → In c (X ++ p ∷ (M ++ q ∷ Y)) → g u ≡ g c → In c (X ++ p ∷ []) ⊎ (In c M ⊎ In c (q ∷ Y)) → In u (flat_map t.group M)
      go c i e (inl k) = absurd (omega (arith, (before_run c k).0))
      go c i e (inr (inl k)) = groups_in t.group u c M k (D.grouped c u i h e)
      go c i e (inr (inr k)) = absurd (omega (arith, (after_run c k).0))

  -- the posts that move by 2
  pub in_twos : (u : ℕ) → In u (flat_map t.group (q ∷ Y)) → Post B u × (g q ≤ g u)
  in_twos u h =
      let r = in_groups t.group u (q ∷ Y) h in
      let i = after_run r.0 r.1 in
      let k = D.in_group r.0 u i.1 r.2 in
      (k.0, omega (arith, i.0, k.1))

  pub twos : (u : ℕ) → Post B u → g q ≤ g u → In u (flat_map t.group (q ∷ Y))
  twos u h a = let r = D.headed u h in go r.0 r.1 r.2 (sides r.0 X p M q Y r.1)
    where
      go : (c : ℕ) → In c (X ++ p ∷ (M ++ q ∷ Y)) → g u ≡ g c → In c (X ++ p ∷ []) ⊎ (In c M ⊎ In c (q ∷ Y)) → In u (flat_map t.group (q ∷ Y))
      go c i e (inl k) = absurd (omega (arith, (before_run c k).0, ends.ord))
      go c i e (inr (inl k)) = absurd (omega (arith, (inside c k).1))
      go c i e (inr (inr k)) = groups_in t.group u c (q ∷ Y) k (D.grouped c u i h e)

  -- how far each post moves
  abbrev by : ℕ → ℕ
  by = moved_by (flat_map t.group M) (flat_map t.group (q ∷ Y))

  pub by_0 : (u : ℕ) → g u ≤ g p → by u ≡ 0
  by_0 u h =
      rw (
        mem_false (flat_map t.group M) u (λ i. omega (arith, in_ones u i)),
        mem_false (flat_map t.group (q ∷ Y)) u (λ i. omega (arith, in_twos u i, ends.ord)),
      )

  pub by_1 : (u : ℕ) → Post B u → g p < g u → g u < g q → by u ≡ 1
  by_1 u h a b = rw (mem_true (flat_map t.group M) u (ones u h a b), mem_false (flat_map t.group (q ∷ Y)) u (λ i. omega (arith, in_twos u i)))

  pub by_2 : (u : ℕ) → Post B u → g q ≤ g u → by u ≡ 2
  by_2 u h a = rw (mem_false (flat_map t.group M) u (λ i. omega (arith, in_ones u i)), mem_true (flat_map t.group (q ∷ Y)) u (twos u h a))

  -- the stage after v, from the run's parts
  pub placed_over : (v : ℕ) → place_over t (p ∷ (M ++ q ∷ [])) v ≡ over t p q M (X ++ p ∷ []) (q ∷ Y) v
  placed_over v = rw (over_parts, last_append p M q [], inner_run, D.contour, up, down)
    where
      not_p : ¬ (In p X)
      not_p i = omega (arith, (chain_last E trans X p (chain_to E p X (M ++ q ∷ Y) D.laid.rise) p i).ord)

      up : up_to p (X ++ p ∷ (M ++ q ∷ Y)) ≡ X ++ p ∷ []
      up = up_to_at X p (M ++ q ∷ Y) not_p

      not_q : In q (p ∷ M) → ⊥
      not_q (inl e) = omega (arith, ends.ord, ap g e)
      not_q (inr i) = omega (arith, (inside q i).1)

      down : on_from q (X ++ p ∷ (M ++ q ∷ Y)) ≡ q ∷ Y
      down =
          rw (← (append_assoc X (p ∷ M) (q ∷ Y)))
          (on_from_at (X ++ p ∷ M) q Y (in_cases q X (p ∷ M) (λ i. omega (arith, (before_run q (in_left q X (p ∷ []) i)).0, ends.ord)) not_q))
