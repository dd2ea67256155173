use mathlib.Core.Path.{refl}
use mathlib.Core.List.{flat_map, flatten}
use Rattle.unit.specs.Starred.{bytes, block_of, L}
use Rattle.cases.proofs.over.board_l.Goals as goal

pub returns : goal.returns
unfolding flat_map flatten bytes block_of L
returns c = refl
