-- What placing v does at a step: its run is p ∷ (M ++ q ∷ []), and the contour X ++ p ∷ (M ++ q ∷ Y) becomes X ++ p ∷ v ∷ q ∷ Y.
use mathlib.Core.Path.{◌≡◌, refl, ap, ◌∙◌, subst}
use mathlib.Core.Logic.{inl, inr}
use mathlib.Core.Bool.{cond}
use mathlib.Core.List.{List, [], ◌∷◌, flat_map}
use Prim.Native.Nat.{ℕ, ◌+◌}
use lib.Dec.{eqb}
use Rattle.words.specs.Lists.{In, mem, last_of}
use Rattle.words.proofs.Lists.{Once, in_right, last_append}
use Rattle.words.proofs.Tests.{eqb_other}
use Rattle.order.specs.Order.{run}
use Rattle.placing.specs.Stages.{Stage, on_from, inner, place_over, place}
use Rattle.placing.proofs.Steps.{Step, on_from_run, inner_run}

-- how far u moves, when the posts of `ones` move by 1 and those of `twos` by 2
abbrev pub moved_by : List ℕ → List ℕ → ℕ → ℕ
moved_by ones twos u = cond (mem ones u) 1 0 + cond (mem twos u) 2 0

module _ (G : List (List ℕ)) (t : Stage) (v : ℕ) (s : Step G t v) where
  last_is : last_of 0 (run G t.placed v) ≡ s.q
  last_is = rw s.run_is (last_append s.p s.M s.q [])

  inner_is : inner (run G t.placed v) ≡ s.M
  inner_is = ap inner s.run_is ∙ inner_run s.p s.M s.q

  right_is : on_from (last_of 0 (run G t.placed v)) t.contour ≡ s.q ∷ s.Y
  right_is = ap (λ (q : ℕ). on_from q t.contour) last_is ∙ ap (on_from s.q) s.before
      ∙ on_from_run s.X s.p s.M s.q s.Y (subst Once s.before s.once)

  pub place_group : (u : ℕ) → (place G t v).group u ≡ cond (eqb u v) (v ∷ flat_map t.group s.M) (t.group u)
  unfolding place place_over
  place_group u = ap (λ (l : List ℕ). cond (eqb u v) (v ∷ flat_map t.group l) (t.group u)) inner_is

  pub place_cover : (u : ℕ) → (place G t v).cover u ≡ cond (mem s.M u) v (t.cover u)
  unfolding place place_over
  place_cover u = ap (λ (l : List ℕ). cond (mem l u) v (t.cover u)) inner_is

  -- where the posts stand now
  pub place_x_old : (u : ℕ) → ¬ (u ≡ v) → (place G t v).x u ≡ t.x u + moved_by (flat_map t.group s.M) (flat_map t.group (s.q ∷ s.Y)) u
  unfolding place place_over
  place_x_old u n = rw (eqb_other u v n, inner_is, right_is)

  -- the ends of the run are old posts
  pub p_placed : In s.p t.placed
  p_placed = s.on_placed s.p (rw s.before (in_right s.p s.X _ (inl refl)))

  pub q_placed : In s.q t.placed
  q_placed = s.on_placed s.q (rw s.before (in_right s.q s.X _ (inr (in_right s.q s.M _ (inl refl)))))

  pub p_old : ¬ (s.p ≡ v)
  p_old e = s.new (rw e at p_placed)

  pub q_old : ¬ (s.q ≡ v)
  q_old e = s.new (rw e at q_placed)
