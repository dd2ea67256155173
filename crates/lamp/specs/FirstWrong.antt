-- What a refusal of step 9 says, by quantifiers (docs/RULES.md: X7): which fault it is, and that no entry before has any.
use Rattle.std.specs.Prelude.{ℕ, ◌≤◌, ◌<◌, ◌≡◌, List, [], ◌∷◌, length}
use Rattle.words.specs.Lists.{In}
use Rattle.block.specs.Block.{lists}
use Rattle.rings.specs.Rings.{ring}
use Rattle.rings.specs.Faults.{entry}
use Rattle.lamp.specs.Lamp.{check_rows, sheet_rows, post_rows}
use Rattle.lamp.specs.Given.{refused, given}

-- entry i of u's list is wrong, in the way that this number tells
pub data Wrong (G : List (List ℕ)) (u i : ℕ) : ℕ → Type 0 where
  high : length G ≤ entry G u i → Wrong G u i 9
  itself : entry G u i ≡ u → Wrong G u i 18
  repeated : (j : ℕ) → j < i → entry G u j ≡ entry G u i → Wrong G u i 19
  unreturned : ¬ (In u (ring G (entry G u i))) → Wrong G u i 20

-- it is wrong in no way
abbrev pub Right : List (List ℕ) → ℕ → ℕ → Type 0
Right G u i = (number : ℕ) → ¬ (Wrong G u i number)

-- u's list is the lowest with a wrong entry, and its first wrong entry is wrong in this way and in none that is tried before: with no lower
-- number, since the four numbers rise as they are tried
pub record FirstWrong (G : List (List ℕ)) (u number : ℕ) : Type 0 where
  pub lower : (w i : ℕ) → w < u → i < length (ring G w) → Right G w i
  pub i : ℕ
  pub inside : i < length (ring G u)
  pub before : (j : ℕ) → j < i → Right G u j
  pub wrong : Wrong G u i number
  pub least : (m : ℕ) → m < number → ¬ (Wrong G u i m)

-- the numbers of step 9
abbrev pub list_numbers : List ℕ
list_numbers = 9 ∷ 18 ∷ 19 ∷ 20 ∷ []

-- each service's refusal with such a number tells what is wrong; and no other number or place could
pub record ToldRight : Type 1 where
  pub check : {A : Type 0} (answer : List ℕ → A) (s : List ℕ) (number place : ℕ) → In number list_numbers
      → given (check_rows s) s answer ≡ refused number place → FirstWrong (lists s) place number
  pub sheet : {A : Type 0} (answer : List ℕ → A) (s : List ℕ) (k room number place : ℕ) → In number list_numbers
      → given (sheet_rows s k room) s answer ≡ refused number place → FirstWrong (lists s) place number
  pub post : {A : Type 0} (answer : List ℕ → A) (s : List ℕ) (k u number place : ℕ) → In number list_numbers
      → given (post_rows s k u) s answer ≡ refused number place → FirstWrong (lists s) place number
  pub one : (G : List (List ℕ)) (u v m number : ℕ) → FirstWrong G u m → FirstWrong G v number → (u ≡ v) × (m ≡ number)
