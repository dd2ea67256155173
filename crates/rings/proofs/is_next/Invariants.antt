use mathlib.Core.Path.{◌≡◌}
use mathlib.Core.List.{◌∷◌}
use lib.ListN.{drop}
use Rattle.rings.specs.Rings.{around, next}
use Rattle.rings.proofs.is_next.Given as goal

abbrev pub invariant-loop-v : goal.invariant-loop-v
invariant-loop-v l = next l.a l.c (l.before ∷ drop l.v-index l.list) ≡ next l.a l.c (around l.list)
