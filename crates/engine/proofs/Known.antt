-- What the type of the runs says merely, as facts to prove by: whatever the engine shows of a stage has one proof at most.
use Rattle.std.proofs.Common.{ℕ, zero, suc, ◌+◌, ◌-◌, List, [], ◌∷◌, get_or, set}
use Rattle.std.proofs.Props.{props}
use Rattle.std.proofs.Math.Logic.{∥∥₁_elim}
use mathlib.Core.Sum.{⊎_set}
use Rattle.block.specs.Layout.{bias}
use Rattle.order.specs.Fitted.{Fitted, RunsHeld}
use Rattle.order.specs.declared.Runs.{Runs}
use Rattle.contour.specs.Arrays.{Below, SumsFit}
use Rattle.contour.specs.Columns.{column_of, Settles}

pub below_once : (n : ℕ) (l : List ℕ) → IsProp (Below n l)
below_once n [] = hlevel props
below_once n (a ∷ l) = hlevel (props, below_once n l)

pub sums_once : (off l : List ℕ) (s d : ℕ) → IsProp (SumsFit off l s d)
sums_once off [] s d = hlevel props
sums_once off (a ∷ l) s d = hlevel (props, sums_once (set off a (s + get_or off a 0 + bias - d)) l (s + get_or off a 0) d)

pub settles_once : (xs off cover vs : List ℕ) (i : ℕ) → IsProp (Settles xs off cover vs i)
settles_once xs off cover vs zero = hlevel props
settles_once xs off cover vs (suc i) =
    let u = get_or vs i 0 in
    hlevel (props, settles_once (set xs u (column_of xs off u (get_or cover u 0))) off cover vs i)

pub ruleset once = (props, ⊎_set, below_once, sums_once, settles_once)

module _ (r : Runs) {T : Type 0} (p : IsProp T) where
  pub with_plan : (Fitted r.plan.lists.at.now r.plan.lists.ents.now r.plan.vs.now → T) → T
  with_plan f = ∥∥₁_elim r.fitted p f

  pub with_runs
      : (Fitted r.plan.lists.at.now r.plan.lists.ents.now r.plan.vs.now
      → RunsHeld r.plan.lists.at.now r.plan.lists.ents.now r.plan.vs.now r.runs.now
      → T)
      → T
  with_runs f = ∥∥₁_elim r.fitted p (λ A. ∥∥₁_elim r.kept p (f A))
