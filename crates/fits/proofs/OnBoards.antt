-- What is printed for board D, from the starred cases.
use mathlib.Core.Path.{◌≡◌, refl, ◌∙◌}
use mathlib.Core.List.{[], ◌∷◌, flat_map, flatten}
use Rattle.words.specs.First.{first}
use Rattle.words.specs.Lists.{mem, all_of, any_of}
use Rattle.words.specs.Numbers.{words_at}
use Rattle.block.specs.Block.{order, degrees, lists_from, lists}
use Rattle.rings.specs.Boards.{order_d}
use Rattle.order.specs.Order.{from, lead, rest, leads, begins, run}
use Rattle.placing.specs.Records.{run_of, fit_left, fit_right, ends_of}
use Rattle.unit.specs.Replies.{buffer_for, ends_after}
use Rattle.unit.specs.Starred.{bytes, block_of, D, starred}
use Rattle.unit.proofs.Starred.{starred_given}
use Rattle.text.specs.Letters.{letters, decimal}
use Rattle.show.specs.Shown.{lines_to}
use Rattle.show.proofs.Sheets.{checked, none_of}
use Rattle.fits.specs.Fit.{fit_line, fit_text}
use Rattle.fits.proofs.Fitting.{fit_entered}

-- the ends of D's runs, as a call of ends writes them: v1 and v2 count as their own
ends_D : ends_after (D order_d 285) 5 (9 ∷ 9 ∷ 9 ∷ 9 ∷ 9 ∷ 9 ∷ 9 ∷ 9 ∷ 9 ∷ 9 ∷ 9 ∷ []) ≡ 0 ∷ 0 ∷ 1 ∷ 1 ∷ 0 ∷ 1 ∷ 0 ∷ 1 ∷ 0 ∷ 1 ∷ 9 ∷ []
unfolding ends_after buffer_for ends_of fit_left fit_right run_of run begins leads rest lead from mem all_of any_of first lists lists_from
    degrees order words_at
    flat_map flatten bytes block_of D starred
ends_D = rw starred_given.1.1.1.0.0 refl

pub fits_D : fit_text (D order_d 285) ≡ letters "3 2 between 0 1 3 1\n4 3 between 0 1 3 2\n5 4 between 0 1 3 3\n"
unfolding fit_line lines_to decimal first order words_at flat_map flatten bytes block_of D starred
fits_D =
    let row = starred_given.1.1.1.0 in
    let accepts = checked (D order_d 285) 5 (none_of (D order_d 285) 5 _ 10 row.0) in
    fit_entered (D order_d 285) 5 accepts _ _ 10 row.0 10 row.0 ∙ rw (row.1, ends_D) refl
