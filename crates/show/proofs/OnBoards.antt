-- What is printed for board D and for the autumn block, from the starred cases.
use Prim.Native.Nat.{ℕ}
use mathlib.Core.Path.{◌≡◌, refl, ◌∙◌}
use mathlib.Core.List.{List, [], ◌∷◌, ◌++◌, flat_map, flatten}
use Rattle.words.specs.First.{first}
use Rattle.words.specs.Numbers.{words_at}
use Rattle.block.specs.Block.{order}
use Rattle.rings.specs.Boards.{order_d}
use Rattle.unit.specs.Starred.{bytes, block_of, D, starred}
use Rattle.unit.proofs.Starred.{starred_given}
use Rattle.lamp.specs.ReadBack.{refusals_at, with_number}
use Rattle.text.specs.Letters.{letters, decimal, numbered}
use Rattle.reasons.specs.Reasons.{reason_of}
use Rattle.show.specs.Shown.{refusal_text, refusal_line, head_line, position_line, lines_to, last_text}
use Rattle.show.specs.Why.{accepted_line, refused_line, why_text}
use Rattle.show.proofs.Sheets.{checked, none_of, check_refuses, sheet_accepts}
use Rattle.show.proofs.Whys.{why_accepted, why_refused}

pub prints_D : last_text (D order_d 285) ≡ letters "sheet 5 5\n1 0 0 0\n2 1 6 0\n3 2 3 1\n4 3 3 2\n5 4 3 3\n"
unfolding last_text head_line position_line lines_to decimal first order words_at flat_map flatten bytes block_of D starred
prints_D =
    let row = starred_given.1.1.1.0 in
    sheet_accepts (D order_d 285) 5 _ 10 row.0 5 refl ∙ rw row.1 refl

pub prints_autumn : last_text (D (0 ∷ 1 ∷ 3 ∷ 2 ∷ 4 ∷ []) 285) ≡ letters "refused 13 3\n"
unfolding last_text refusal_line refusal_text decimal first starred
prints_autumn = check_refuses (D (0 ∷ 1 ∷ 3 ∷ 2 ∷ 4 ∷ []) 285) _ 13 3 starred_given.1.1.1.1.0

pub explains_D : why_text (D order_d 285) ≡ letters "accepted 5: the board has 5 posts, and on its sheet x goes from 0 to 6 and y from 0 to 3\n"
unfolding accepted_line numbered decimal first order words_at flat_map flatten bytes block_of D starred
explains_D =
    let row = starred_given.1.1.1.0 in
    why_accepted (D order_d 285) 5 (checked (D order_d 285) 5 (none_of (D order_d 285) 5 _ 10 row.0))

abbrev autumn_words : List ℕ
autumn_words =
    letters "refused 13 3: at position 3 of the order: the post's wires to posts fitted before it do not lie side by side; "
    ++ letters "two posts may stand in each other's place\n"

pub explains_autumn : why_text (D (0 ∷ 1 ∷ 3 ∷ 2 ∷ 4 ∷ []) 285) ≡ autumn_words
unfolding refused_line refusal_text refusals_at with_number reason_of numbered flat_map decimal first bytes block_of D starred
explains_autumn = why_refused (D (0 ∷ 1 ∷ 3 ∷ 2 ∷ 4 ∷ []) 285) 5 13 3 starred_given.1.1.1.1.0 (λ h. refl)
