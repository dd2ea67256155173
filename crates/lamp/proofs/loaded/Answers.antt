use native.Mathlib.Omega.{arith}
use Prim.Native.Nat.{ℕ}
use mathlib.Core.Path.{ap, ◌∙◌, subst, subst⁻¹}
use mathlib.Core.List.{List, ◌++◌}
use Rattle.std.proofs.lemmas.Result.{err_from_is_err_and, on_ok_weaker}
use Rattle.block.specs.Block.{posts}
use Rattle.lamp.specs.Lamp.{ring_rows, triangle_rows, outer_rows}
use Rattle.lamp.specs.Given.{nothing, tried}
use Rattle.lamp.specs.Loaded.{board_rows, loaded_rows, rows_from, Entered, Ordered}
use Rattle.lamp.proofs.Given.{none_left}
use Rattle.lamp.proofs.Tried.{none_applied, stops, goes_on}
use Rattle.lamp.proofs.Loads.{ordered}
use Rattle.lamp.proofs.BoardRows.{ringed}
use Rattle.lamp.proofs.loaded.Goals as goal

pub returns-in_err-sound-clause-reply : goal.returns-in_err-sound-clause-reply
returns-in_err-sound-clause-reply c =
    let told = c.sound.ensures ∙ ap (tried board_rows) c.held-board.ensures in
    let p = err_from_is_err_and c.from_residual.result c.from_residual.ensures.1 in
    rw (p.1, p.2) (stops c.args.b.bytes.now nothing board_rows _ told nothing (rows_from 3 (posts c.args.b.bytes.now)) _ c.in_err-sound.was)

pub fitting-requires : goal.fitting-requires
fitting-requires c =
    let board = c.held-board.result in
    let names = subst⁻¹ Entered c.held-board.ensures c.requires.1 in
    let none = none_applied board.s.now nothing board_rows _ c.sound.ensures _ c.in_ok-sound.was in
    let fine = ringed _ names (none_left ring_rows (triangle_rows ++ outer_rows) _ none) in
    (c.ranks.ensures, fine, omega (arith, board.trimmed.headed.most, c.requires.2.known))

pub returns-clause-reply : goal.returns-clause-reply
returns-clause-reply c =
    let board = c.held-board.result in
    let s = board.s.now in
    c.fitting.ensures.reply
    ∙ ap (λ (n : ℕ). tried (rows_from 3 n) s) board.trimmed.headed.is
    ∙ goes_on s nothing board_rows _ c.sound.ensures nothing (rows_from 3 (posts s)) _ c.in_ok-sound.was
    ∙ ap (λ (z : List ℕ). tried (loaded_rows z) z) c.held-board.ensures

pub returns-clause-kept : goal.returns-clause-kept
returns-clause-kept c =
    let board = c.held-board.result in
    let T = board.trimmed in
    on_ok_weaker c.fitting.result
    (λ K. subst (λ (z : List ℕ). Ordered z c.ranks.new.rank c.fitting.new.runs) c.held-board.ensures
    (ordered board.s.now board.plan.vs.now c.ranks.new.rank c.fitting.new.runs T.headed.is T.orders c.ranks.ensures K))
    c.fitting.ensures.kept
