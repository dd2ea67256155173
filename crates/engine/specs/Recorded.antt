-- A post's record, from the arrays by name.
use Rattle.std.specs.Prelude.{ℕ, ◌+◌, cond, List, eqb, get_or}
use Rattle.placing.specs.declared.Standing.{Standing}
use Rattle.placing.specs.declared.Standing.TheVariants.{Waiting, OnContour, Covered}
use Rattle.placing.specs.declared.Record.{Record}
use Rattle.placing.specs.Records.{fit_left, fit_right}
use Rattle.order.specs.Opens.{before}

-- a post that nobody covers stands on the contour
abbrev pub standing_by : (cover left right : List ℕ) → ℕ → Standing
standing_by cover left right u = cond (eqb (get_or cover u 0) u) (OnContour (get_or left u 0) (get_or right u 0)) (Covered (get_or cover u 0))

-- 0 for both numbers where the post waits (R2)
abbrev pub record_by : List (List ℕ) → (vs rank : List ℕ) → ℕ → (xs ys cover left right : List ℕ) → ℕ → Record
record_by G vs rank k xs ys cover left right u =
    cond (before rank (k + 1) u)
    (record {
      x = get_or xs u 0;
      y = get_or ys u 0;
      standing = standing_by cover left right u;
      leftmost = fit_left G vs u;
      rightmost = fit_right G vs u;
    })
    (record { x = 0; y = 0; standing = Waiting; leftmost = u; rightmost = u })
