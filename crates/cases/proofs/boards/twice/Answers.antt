use mathlib.Core.Path.{refl}
use mathlib.Core.List.{flat_map, flatten}
use Rattle.unit.specs.Starred.{bytes, block_of, D}
use Rattle.cases.proofs.boards.twice.Goals as goal

pub returns : goal.returns
unfolding flat_map flatten bytes block_of D
returns c = refl
