-- A post's record, by what the code compared.
use Prim.Native.Nat.{ℕ, ◌+◌}
use mathlib.Core.Path.{◌≡◌, refl}
use mathlib.Core.Bool.{Bool, true, false, not}
use mathlib.Core.List.{List}
use lib.ListN.{get_or}
use borrow.Author.Tests.{not-true, not-false}
use Rattle.placing.specs.declared.Standing.{Standing}
use Rattle.placing.specs.declared.Standing.TheVariants.{Waiting}
use Rattle.placing.specs.Records.{fit_left, fit_right}
use Rattle.order.specs.Opens.{before}
use Rattle.engine.specs.Recorded.{standing_by, record_by}

module _ (G : List (List ℕ)) (vs rank : List ℕ) (k : ℕ) (xs ys cover left right : List ℕ) (u : ℕ) (r : Bool) (er : r ≡ before rank (k + 1) u) where
  pub record_waiting : not r ≡ true
      → record { x = 0; y = 0; standing = Waiting; leftmost = u; rightmost = u } ≡ record_by G vs rank k xs ys cover left right u
  record_waiting t = rw (← er, not-true r t) refl

  pub record_placed : not r ≡ false → (i : ℕ) → i ≡ u → (s : Standing) → s ≡ standing_by cover left right u → (a b : ℕ) → a ≡ fit_left G vs u
      → b ≡ fit_right G vs u
      → record { x = get_or xs i 0; y = get_or ys i 0; standing = s; leftmost = a; rightmost = b } ≡ record_by G vs rank k xs ys cover left right u
  record_placed t i ei s es a b ea eb = rw (← er, not-false r t, ei, es, ea, eb) refl
