-- Runs kept position by position, as a loop over the positions finds them.
use Prim.Native.Nat.{ℕ, ◌+◌, ◌-◌, ◌≤◌, ◌<◌}
use mathlib.Core.Path.{◌≡◌, ap, ◌∙◌}
use mathlib.Core.List.{List}
use native.Mathlib.Omega.{arith}
use native.Mathlib.Decide.{ℕ_discrete}
use lib.ListN.{length, set}
use lib.Seq.{get_or-set_same, get_or-set_other}
use Rattle.std.specs.Prelude.{Some, slice_get}
use Rattle.std.proofs.lemmas.List.{length-set}
use Rattle.std.proofs.lemmas.Option.{slice_get_within, slice_get-get_or, get_or_from_slice_get}
use Rattle.words.specs.Positions.{post, earlier}
use Rattle.order.specs.Ranked.{run_found, RunsBefore}
use Rattle.order.specs.declared.Run.{Run}

module _ (G : List (List ℕ)) (vs : List ℕ) (runs : List Run) where
  -- one position more, with the run that was found there
  pub runs_more : (k : ℕ) (r : Run) → 1 ≤ k → k ≤ length runs → r ≡ run_found G (earlier vs k) (post vs k) → RunsBefore G vs runs k
      → RunsBefore G vs (set runs (k - 1) r) (k + 1)
  runs_more k r h i er R = record { kept = λ j f g. at j f g (ℕ_discrete j k) }
    where
      is : ℕ → Run
      is j = run_found G (earlier vs j) (post vs j)

      at : (j : ℕ) → 3 ≤ j → j < k + 1 → Dec (j ≡ k) → slice_get (set runs (k - 1) r) (j - 1) ≡ Some (is j)
      at j f g (yes e) =
          let there = slice_get-get_or (set runs (k - 1) r) (k - 1) r (omega (arith, length-set runs (k - 1) r)) in
          rw e (there ∙ ap Some (get_or-set_same runs (k - 1) r r (omega arith) ∙ er))
      at j f g (no n) =
          let old = R.kept j f (omega arith) in
          let within = slice_get_within runs (j - 1) (is j) old in
          slice_get-get_or (set runs (k - 1) r) (j - 1) (is j) (omega (arith, length-set runs (k - 1) r))
          ∙ ap Some (get_or-set_other runs (k - 1) (j - 1) r (is j) (λ e. n (omega arith)) ∙ get_or_from_slice_get runs (j - 1) (is j) (is j) old)
