-- Signed areas on boards T and D, by computing: an inner triangle turns as its ring does, the outer one the other way.
use mathlib.Core.List.{flat_map}
use native.Mathlib.Omega.{arith}
use Rattle.words.specs.First.{first}
use Rattle.words.specs.Lists.{mem, all_of, any_of}
use Rattle.rings.specs.Boards.{order_t, lists_t, order_d, lists_d}
use Rattle.order.specs.Order.{from, lead, rest, leads, begins, run}
use Rattle.placing.specs.Stages.{third, up_to, on_from, place_over, place, place_all, stage}
use Rattle.drawing.specs.Areas.{PositiveArea}
use Rattle.shift.proofs.Drawn.{places_of}

-- v1, v2, v3: 2 follows 1 at 0
pub inner_T : PositiveArea (places_of (stage lists_t order_t)) 0 1 2
unfolding third place_all stage
inner_T = omega arith

-- v2, v1, vn: 2 follows 0 at 1
pub outer_not_T : ¬ (PositiveArea (places_of (stage lists_t order_t)) 1 0 2)
unfolding third place_all stage
outer_not_T h = omega arith

-- 4 follows 3 at 0
pub inner_D : PositiveArea (places_of (stage lists_d order_d)) 0 3 4
unfolding flat_map first mem all_of any_of from lead rest leads begins run third up_to on_from place_over place place_all stage
inner_D = omega arith

-- 4 follows 0 at 1
pub outer_not_D : ¬ (PositiveArea (places_of (stage lists_d order_d)) 1 0 4)
unfolding flat_map first mem all_of any_of from lead rest leads begins run third up_to on_from place_over place place_all stage
outer_not_D h = omega arith
