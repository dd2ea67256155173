use native.Mathlib.Omega.{arith}
use Rattle.std.proofs.Common.{◌≡◌, ◌/◌, ◌%◌}
use mathlib.Core.List.{flat_map, flatten}
use Rattle.unit.specs.Starred.{bytes, block_of, D, DList}
use Rattle.cases.proofs.lists.of_two.Goals as goal

pub returns : goal.returns
unfolding flat_map flatten bytes block_of D DList
returns c =
    let a = c.args in
    let high : a.last / 256 ≡ 0 = omega arith in
    let low : a.last % 256 ≡ a.last = omega arith in
    let top : a.sum / 256 % 256 ≡ a.sum / 256 = omega arith in
    rw (c.board_d-d.ensures, c.to_be_bytes.ensures, high, low, top)
