-- Number 14, retired (docs/RULES.md: N14, X1): the table with a row 14, for the statement that no list of bytes is answered 14.
use Rattle.std.specs.Prelude.{ℕ, ◌-◌, ◌≡◌, ◌≢◌, not, ◌&&◌, ltb}
use mathlib.Core.List.{List, [], ◌∷◌, ◌++◌, flat_map}
use Rattle.words.specs.First.{numbers}
use Rattle.words.specs.Positions.{post, later}
use Rattle.block.specs.Block.{posts, order, lists}
use Rattle.order.specs.Order.{one_later}
use Rattle.lamp.specs.Lamp.{Row, block_rows, position_rows, check_rows, stage_rows, room_rows, name_rows, sheet_rows, post_rows}
use Rattle.lamp.specs.Given.{refused, given}
use Rattle.lamp.specs.Refusals.{number_of}
use Rattle.lamp.specs.declared.Refusal.{Refusal}

abbrev pub retired : ℕ
retired = 14

-- the row 14 at position k: O4 is broken there
abbrev pub retired_row : ℕ → Row
retired_row k =
    record { number = retired; when = λ s. ltb k (posts s) && not (one_later (lists s) (later (order s) k) (post (order s) k)); place = λ s. k }

-- the rule per position with 14 after 12 and 13; and check's table with it
abbrev pub paper_position_rows : ℕ → List Row
paper_position_rows k = position_rows k ++ retired_row k ∷ []

abbrev pub paper_fitting_rows : List ℕ → List Row
paper_fitting_rows s = flat_map paper_position_rows (numbers 3 (posts s - 2))

unfoldable pub paper_rows : List ℕ → List Row
paper_rows s = block_rows ++ paper_fitting_rows s

-- the number of each of these rows is so; no row of these has the number
abbrev pub EachNumber : (ℕ → Type 0) → List Row → Type 0
EachNumber P [] = Unit {0}
EachNumber P (r ∷ rows) = P r.number × EachNumber P rows

abbrev pub NoneIs : ℕ → List Row → Type 0
NoneIs number rows = EachNumber (λ m. m ≢ number) rows

pub record Retirement : Type 1 where
  -- No list of bytes is answered 14 by the table that has the row: not by check, nor by sheet and post, whose rows follow, whatever they answer otherwise.
  pub check : {A : Type 0} (answer : List ℕ → A) (s : List ℕ) (place : ℕ) → given (paper_rows s) s answer ≢ refused retired place
  pub sheet : {A : Type 0} (answer : List ℕ → A) (s : List ℕ) (k room place : ℕ)
      → given (paper_rows s ++ (stage_rows k ++ room_rows k room)) s answer ≢ refused retired place
  pub post : {A : Type 0} (answer : List ℕ → A) (s : List ℕ) (k u place : ℕ)
      → given (paper_rows s ++ (stage_rows k ++ name_rows u)) s answer ≢ refused retired place
  -- Its removal changes no reply, whatever rows follow.
  pub same : {A : Type 0} (answer : List ℕ → A) (after : List Row) (s : List ℕ)
      → given (paper_rows s ++ after) s answer ≡ given (check_rows s ++ after) s answer
  -- Its number is not used again: no row of a service has it, and no refusal.
  pub sheet_rows_lem : (s : List ℕ) (k room : ℕ) → NoneIs retired (sheet_rows s k room)
  pub post_rows_lem : (s : List ℕ) (k u : ℕ) → NoneIs retired (post_rows s k u)
  pub refusals : (r : Refusal) → number_of r ≢ retired
