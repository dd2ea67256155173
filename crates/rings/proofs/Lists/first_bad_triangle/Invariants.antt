use Prim.Native.Nat.{ℕ, ◌-◌}
use mathlib.Core.Path.{◌≡◌}
use mathlib.Core.Bool.{Bool, not}
use lib.ListN.{drop}
use Rattle.words.specs.First.{first}
use Rattle.rings.specs.Rings.{around, all_next, follows, triangle_rule}
use Rattle.rings.specs.Given.{rings_of}
use Rattle.rings.proofs.Lists.first_bad_triangle.Given as goal

abbrev pub invariant-loop-i : goal.invariant-loop-i
invariant-loop-i l =
    let G = rings_of l.self in
    all_next (λ v w. follows G v w l.u) (drop l.i (around l.list)) ≡ triangle_rule G l.u

abbrev pub invariant-loop-u : goal.invariant-loop-u
invariant-loop-u l =
    let breaks : ℕ → Bool = λ u. not (triangle_rule (rings_of l.self) u) in
    first 0 l.n breaks ≡ first l.u (l.n - l.u) breaks
