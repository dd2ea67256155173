-- The step from stage k, from the run that the code finds and what placing over it ensures.
use Prim.Native.Nat.{ℕ, ◌+◌, ◌-◌, ◌≤◌, ◌<◌}
use mathlib.Core.Path.{◌≡◌, refl, ap, ◌∙◌, subst, subst⁻¹}
use mathlib.Core.List.{List, [], ◌∷◌, ◌++◌}
use native.Mathlib.Omega.{arith}
use lib.ListN.{length, get_or, take, length-append}
use lib.Seq.{length-take-le}
use Rattle.words.specs.Lists.{In}
use Rattle.words.specs.Positions.{post, earlier}
use Rattle.words.proofs.Tests.{place_in}
use Rattle.words.proofs.Positions.{in_take}
use Rattle.block.specs.Layout.{limit}
use Rattle.rings.specs.Held.{held}
use Rattle.order.specs.Order.{run}
use Rattle.order.specs.Fitted.{Fitted}
use Rattle.order.proofs.Fitting.{fits_few}
use Rattle.placing.specs.Stages.{Stage, stage}
use Rattle.placing.proofs.Steps.{Step, step_at, stage_next, stage_placed}
use Rattle.contour.specs.Arrays.{Ready, Over}
use Rattle.engine.specs.Shows.{Shows, Holds}
use Rattle.engine.proofs.Kept.{Kept, kept_at}
use Rattle.engine.proofs.Shown.{over_ready, shown, roomy}

module _ {at ents vs : List ℕ} (A : Fitted at ents vs) {k : ℕ} (h : 3 ≤ k) (i : k < length vs) where
  abbrev G : List (List ℕ)
  G = held at ents

  abbrev n : ℕ
  n = length (held at ents)

  abbrev t : Stage
  t = stage (held at ents) (take k vs)

  abbrev s : Step (held at ents) (stage (held at ents) (take k vs)) (post vs (k + 1))
  s = step_at (held at ents) A.vn vs A.plane A.fits k h i

  names : (a : ℕ) → In a (stage (held at ents) (take k vs)).placed → a < length (held at ents)
  names a q =
      let w = in_take k vs a (subst (In a) (stage_placed G vs k h (omega arith)) q) in
      subst (λ (c : ℕ). c < length (held at ents)) w.3 (A.fits.below (get_or vs w.0 0) (place_in vs w.0 w.2))

  few : length (stage (held at ents) (take k vs)).placed ≤ limit
  few = omega (arith, ap length (stage_placed G vs k h (omega arith)), length-take-le k vs (omega arith), fits_few G A.vn vs A.plane A.fits, A.most)

  K : Kept (stage (held at ents) (take k vs))
  K = kept_at G A.vn vs A.plane A.fits k h (omega arith)

  run_is : run (held at ents) (earlier vs (k + 1)) (post vs (k + 1)) ≡ s.p ∷ (s.M ++ s.q ∷ [])
  run_is =
      let e : k ≡ k + 1 - 1 = omega arith in
      let placed = stage_placed G vs k h (omega arith) ∙ ap (λ (j : ℕ). take j vs) e in
      subst (λ (l : List ℕ). run (held at ents) l (post vs (k + 1)) ≡ s.p ∷ (s.M ++ s.q ∷ [])) placed s.run_is

  -- v is the next post; its run has m posts, the first is p
  module _ {v p m : ℕ} (ev : v ≡ get_or vs k 0) (ep : p ≡ post (run (held at ents) (earlier vs (k + 1)) (post vs (k + 1))) 1)
      (em : m ≡ length (run (held at ents) (earlier vs (k + 1)) (post vs (k + 1)))) where
    v_is : v ≡ post vs (k + 1)
    v_is = let e : k + 1 - 1 ≡ k = omega arith in ev ∙ rw e refl

    v_below : post vs (k + 1) < length (held at ents)
    v_below = A.fits.below (post vs (k + 1)) (place_in vs (k + 1 - 1) (omega arith))

    p_is : p ≡ s.p
    p_is = ep ∙ ap (λ (l : List ℕ). post l 1) run_is

    m_is : m ≡ length s.M + 2
    m_is = em ∙ ap length run_is ∙ omega (arith, length-append s.M (s.q ∷ []))

    module _ {ys off cover left right : List ℕ} (H : Holds at ents vs k ys off cover left right) where
      pub next_ready : Ready v p m ys off cover left right
      next_ready =
          subst⁻¹ (λ (a : ℕ). Ready a p m ys off cover left right) v_is
          (subst⁻¹ (λ (a : ℕ). Ready (post vs (k + 1)) a m ys off cover left right) p_is
          (over_ready G t (post vs (k + 1)) s K n ys off cover left right H.shows H.room names v_below few m m_is))

      pub next_holds : {ys' off' cover' left' right' : List ℕ} → Over v p m ys off cover left right ys' off' cover' left' right'
          → Holds at ents vs (k + 1) ys' off' cover' left' right'
      next_holds {ys'} {off'} {cover'} {left'} {right'} O =
          let O' : Over (post vs (k + 1)) s.p m ys off cover left right ys' off' cover' left' right' =
          subst (λ (a : ℕ). Over (post vs (k + 1)) a m ys off cover left right ys' off' cover' left' right') p_is
          (subst (λ (a : ℕ). Over a p m ys off cover left right ys' off' cover' left' right') v_is O) in
          record {
            shows =
                subst⁻¹ (λ (z : Stage). Shows z ys' off' cover' left' right') (stage_next G vs k h i)
                (shown G t (post vs (k + 1)) s K n ys off cover left right H.shows H.room names v_below few m m_is ys' off' cover' left' right' O');
            room = roomy G t (post vs (k + 1)) s K n ys off cover left right H.shows H.room names v_below few m m_is ys' off' cover' left' right' O';
          }
