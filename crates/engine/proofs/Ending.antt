-- A run read from what check kept: its first post, its length, and its ends as the record tells them.
use Prim.Native.Nat.{ℕ, suc, ◌+◌, ◌-◌, ◌≤◌, ◌<◌}
use mathlib.Core.Path.{◌≡◌, ap, sym, ◌∙◌}
use mathlib.Core.List.{List}
use native.Mathlib.Omega.{arith}
use lib.ListN.{length, get_or, take}
use Rattle.words.specs.Lists.{In}
use Rattle.words.specs.Positions.{post, earlier}
use Rattle.words.proofs.Lists.{last_at}
use Rattle.words.proofs.Tests.{place_in}
use Rattle.words.proofs.Positions.{in_take, post_suc}
use Rattle.rings.specs.Held.{held}
use Rattle.order.specs.Order.{run}
use Rattle.std.proofs.lemmas.Option.{get_or_from_slice_get}
use Rattle.order.specs.Ranked.{run_found}
use Rattle.order.specs.declared.Run.{Run}
use Rattle.order.specs.Fitted.{Fitted, RunsHeld, RunKept}
use Rattle.placing.specs.Records.{fit_left, fit_right, ends_of}
use Rattle.placing.proofs.Fits.{left_end_lem, right_end_lem, left_own, right_own, left_front, right_front}
use Rattle.placing.proofs.Writing.{twos, twos_same}
use Rattle.shift.proofs.Between.{run_two}

-- the ends of the run of one of the first k posts are those in the whole list
pub front_same : (at ents vs : List ℕ) → Fitted at ents vs → (k : ℕ) → k ≤ length vs → (u : ℕ) → In u (take k vs)
    → (fit_left (held at ents) (take k vs) u ≡ fit_left (held at ents) vs u) × (fit_right (held at ents) (take k vs) u ≡ fit_right (held at ents) vs u)
front_same at ents vs A k i u q =
    let w = in_take k vs u q in
    let j : ℕ = suc w.0 in
    let is : post vs j ≡ u = post_suc vs w.0 ∙ w.3 in
    let l = left_front (held at ents) vs A.fits.once k j (omega arith) (omega (arith, w.1)) i in
    let r = right_front (held at ents) vs A.fits.once k j (omega arith) (omega (arith, w.1)) i in
    (rw is at l, rw is at r)

module _ {at ents vs : List ℕ} (A : Fitted at ents vs) (j : ℕ) (h : 1 ≤ j) (i : j ≤ length vs) where
  abbrev the_run_lem : List ℕ
  the_run_lem = run (held at ents) (earlier vs j) (post vs j)

  -- the first two posts
  pub first_two : j < 3 → (post vs j ≡ fit_left (held at ents) vs (post vs j)) × (post vs j ≡ fit_right (held at ents) vs (post vs j))
  first_two l = (sym (left_own (held at ents) vs A.fits.once j h i l), sym (right_own (held at ents) vs A.fits.once j h i l))

  pub left_is : 3 ≤ j → {a : ℕ} → a ≡ get_or (run (held at ents) (earlier vs j) (post vs j)) 0 0 → a ≡ fit_left (held at ents) vs (post vs j)
  left_is l q = q ∙ sym (left_end_lem (held at ents) vs A.fits.once j h i l)

  -- and those after them, where n is the place of the run in its list
  module _ {runs : List Run} (R : RunsHeld at ents vs runs) (l : 3 ≤ j) (n : ℕ) (e : j ≡ n + 1) (d : Run) where
    run_at : get_or runs n d ≡ run_found (held at ents) (earlier vs j) (post vs j)
    run_at = let q : n ≡ j - 1 = omega arith in rw q (get_or_from_slice_get runs (j - 1) _ d (R.known.kept j l (omega arith)))

    -- it has two posts or more, and is as long as is kept
    pub many_is : (2 ≤ length (run (held at ents) (earlier vs j) (post vs j)))
        × ((get_or runs n d).many ≡ length (run (held at ents) (earlier vs j) (post vs j)))
    many_is = (run_two (held at ents) A.vn vs A.plane A.fits j l i, ap (λ (r : Run). r.many) run_at)

    pub kept_run : {a : ℕ} → a < length (run (held at ents) (earlier vs j) (post vs j)) → RunKept (held at ents) vs (get_or runs n d).begin j a
    kept_run q =
        record {
          least = h;
          most = i;
          low = A.fits.below (post vs j) (place_in vs (j - 1) (omega arith));
          begins = ap (λ (r : Run). r.begin) run_at;
          inside = q;
        }

    pub right_is : {m b : ℕ} → m ≡ (get_or runs n d).many → b ≡ get_or (run (held at ents) (earlier vs j) (post vs j)) (m - 1) 0
        → b ≡ fit_right (held at ents) vs (post vs j)
    right_is em q =
        q ∙ ap (λ (a : ℕ). get_or the_run_lem (a - 1) 0) (em ∙ many_is.1) ∙ sym (last_at 0 the_run_lem (omega (arith, many_is.0)))
        ∙ sym (right_end_lem (held at ents) vs A.fits.once j h i l)

-- the ends of the first k posts, as of the whole list
pub ends_are : (at ents vs : List ℕ) → Fitted at ents vs → (k : ℕ) → k ≤ length vs
    → twos (fit_left (held at ents) vs) (fit_right (held at ents) vs) (take k vs) ≡ ends_of (held at ents) (take k vs)
unfolding ends_of
ends_are at ents vs A k i = twos_same _ _ _ _ (take k vs) same
  where
    same : (u : ℕ) → In u (take k vs) → (fit_left (held at ents) vs u ≡ fit_left (held at ents) (take k vs) u)
        × (fit_right (held at ents) vs u ≡ fit_right (held at ents) (take k vs) u)
    same u q = let e = front_same at ents vs A k i u q in (sym e.0, sym e.1)
