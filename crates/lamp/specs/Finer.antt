-- The four rows of step 9 beside one row for the whole ring rule (docs/RULES.md: X6): they tell which fault it is, and nothing else changes.
use Rattle.std.specs.Prelude.{ℕ, ◌≡◌, Bool, false, cond, ◌&&◌, ◌||◌, List, [], ◌∷◌, ◌++◌, leb}
use Rattle.lamp.specs.Lamp.{Row, name, some_name, ring_fault, ring_rows, fitting_rows, stage_rows, room_rows, name_rows, block_rows_with, check_rows}
use Rattle.lamp.specs.Lamp.{sheet_rows, post_rows}
use Rattle.lamp.specs.Given.{Reply, accepted, refused, given}

-- one row with the number 9: some list breaks the ring rule; and check's table with it in the place of the four
abbrev pub whole_row : Row
whole_row = record { number = 9; when = some_name ring_fault; place = name ring_fault }

abbrev pub whole_rows : List Row
whole_rows = whole_row ∷ []

unfoldable pub coarse_rows : List ℕ → List Row
coarse_rows s = block_rows_with whole_rows ++ fitting_rows s

-- the reply with 9 for 18, 19 and 20
abbrev pub coarse_number : ℕ → ℕ
coarse_number number = cond (leb 18 number && leb number 20) 9 number

abbrev pub coarse : {A : Type 0} → Reply A → Reply A
coarse (accepted a) = accepted a
coarse (refused number place) = refused (coarse_number number) place

-- one of these rows applies
abbrev pub applies : List Row → List ℕ → Bool
applies [] s = false
applies (r ∷ rows) s = r.when s || applies rows s

pub record Finer : Type 1 where
  -- One of the four applies exactly when some list breaks the ring rule.
  pub exactly : (s : List ℕ) → applies ring_rows s ≡ some_name ring_fault s
  -- With 9 for 18 to 20 each service's reply is the one by the table with the one row: the same blocks are accepted, and refused at the same place.
  pub check : {A : Type 0} (answer : List ℕ → A) (s : List ℕ) → coarse (given (check_rows s) s answer) ≡ given (coarse_rows s) s answer
  pub sheet : {A : Type 0} (answer : List ℕ → A) (s : List ℕ) (k room : ℕ)
      → coarse (given (sheet_rows s k room) s answer) ≡ given (coarse_rows s ++ (stage_rows k ++ room_rows k room)) s answer
  pub post : {A : Type 0} (answer : List ℕ → A) (s : List ℕ) (k u : ℕ)
      → coarse (given (post_rows s k u) s answer) ≡ given (coarse_rows s ++ (stage_rows k ++ name_rows u)) s answer
