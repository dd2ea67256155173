use Prim.Native.Nat.{ℕ, ◌-◌}
use mathlib.Core.Path.{◌≡◌}
use mathlib.Core.Bool.{Bool, not}
use lib.ListN.{length}
use Rattle.words.specs.First.{first}
use Rattle.rings.specs.Rings.{ring_rule}
use Rattle.rings.specs.Faults.{is_bad, first_bad}
use Rattle.rings.specs.Given.{rings_of}
use Rattle.rings.proofs.Lists.first_bad_ring.Given as goal

abbrev pub invariant-loop-i : goal.invariant-loop-i
invariant-loop-i l =
    let G = rings_of l.self in
    first_bad G l.u ≡ first l.i (length l.list - l.i) (is_bad G l.u)

abbrev pub invariant-loop-u : goal.invariant-loop-u
invariant-loop-u l =
    let breaks : ℕ → Bool = λ u. not (ring_rule (rings_of l.self) u) in
    first 0 l.n breaks ≡ first l.u (l.n - l.u) breaks
