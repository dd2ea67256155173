-- Small boards, by computing: the new post stands where the diagonals from its run's ends meet, and covered posts move with their groups.
use mathlib.Core.Path.{◌≡◌, refl}
use mathlib.Core.List.{[], ◌∷◌, flat_map}
use Rattle.words.specs.First.{first}
use Rattle.words.specs.Lists.{mem, all_of, any_of}
use Rattle.rings.specs.Boards.{order_d, lists_d}
use Rattle.order.specs.Order.{from, lead, rest, leads, begins, run}
use Rattle.placing.specs.Stages.{third, up_to, on_from, place_over, place, place_all, stage}
use Rattle.placing.specs.Records.{entries_of}

-- board D's last stage
pub entries_D : entries_of (stage lists_d order_d) ≡ 0 ∷ 0 ∷ 6 ∷ 0 ∷ 3 ∷ 1 ∷ 3 ∷ 2 ∷ 3 ∷ 3 ∷ []
unfolding flat_map first mem all_of any_of from lead rest leads begins run third up_to on_from place_over place place_all stage entries_of
entries_D = refl

-- a new post over the slope on the right, from (1,1) down to (2,0), which moves to (4,0): it stands at (2,2)
pub over_right_slope : entries_of (place_over (third 0 1 2) (2 ∷ 1 ∷ []) 3) ≡ 0 ∷ 0 ∷ 4 ∷ 0 ∷ 1 ∷ 1 ∷ 2 ∷ 2 ∷ []
unfolding flat_map mem third up_to on_from place_over entries_of
over_right_slope = refl

-- and over the slope on the left, from (0,0) up to (1,1), which moves to (3,1): again at (2,2)
pub over_left_slope : entries_of (place_over (third 0 1 2) (0 ∷ 2 ∷ []) 3) ≡ 0 ∷ 0 ∷ 4 ∷ 0 ∷ 3 ∷ 1 ∷ 2 ∷ 2 ∷ []
unfolding flat_map mem third up_to on_from place_over entries_of
over_left_slope = refl
