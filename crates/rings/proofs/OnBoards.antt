-- Board D keeps the rules of rings, triangles and the outer triangle, by computing.
use mathlib.Core.Path.{◌≡◌, refl}
use mathlib.Core.Bool.{true, false, not}
use Rattle.words.specs.First.{first, some}
use Rattle.words.specs.Lists.{mem, all_of, count}
use Rattle.rings.specs.Boards.{lists_d}
use Rattle.rings.specs.Rings.{around, next, all_next, follows, entry_rule, ring_rule, triangle_rule, outer_rule}

pub rings_D : some 0 5 (λ u. not (ring_rule lists_d u)) ≡ false
unfolding first some mem all_of count entry_rule ring_rule
rings_D = refl

pub triangles_D : some 0 5 (λ u. not (triangle_rule lists_d u)) ≡ false
unfolding first some around next all_next follows triangle_rule
triangles_D = refl

-- 4 follows 0 at 1: around the end of the list 4 3 2 0, and counter-clockwise
pub outer_D : outer_rule lists_d 0 1 4 ≡ true
unfolding mem around next follows outer_rule
outer_D = refl
