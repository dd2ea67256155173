use native.Mathlib.Omega.{arith}
use Rattle.std.proofs.Common.{◌≡◌, ◌/◌, ◌%◌}
use mathlib.Core.List.{flat_map, flatten}
use Rattle.unit.specs.Starred.{bytes, block_of, D, DList}
use Rattle.cases.proofs.lists.of_zero.Goals as goal

pub returns : goal.returns
unfolding flat_map flatten bytes block_of D DList
returns c =
    let a = c.args in
    let high : a.second / 256 ≡ 0 = omega arith in
    let low : a.second % 256 ≡ a.second = omega arith in
    let next_high : a.third / 256 ≡ 0 = omega arith in
    let next_low : a.third % 256 ≡ a.third = omega arith in
    let top : a.sum / 256 % 256 ≡ a.sum / 256 = omega arith in
    rw (c.board_d-d.ensures, c.to_be_bytes.ensures, high, low, next_high, next_low, top)
