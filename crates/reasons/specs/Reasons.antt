-- What each refusal means, in plain words (README.md: "When the lamp is red").
use Rattle.std.specs.Prelude.{ℕ, Bool, cond, ◌&&◌, List, ◌++◌, eqb, leb}
use Rattle.block.specs.Layout.{limit}
use Rattle.lamp.specs.Refusals.{number_of, place_of}
use Rattle.lamp.specs.declared.Refusal.{Refusal}
use Rattle.lamp.specs.declared.Refusal.TheVariants.{Short, Mark, Version, Posts, Length, Sum, Order, Degrees, High, Itself}
use Rattle.lamp.specs.declared.Refusal.TheVariants.{Repeated, Unreturned, Triangle, Outer, Few, Broken, Stage, Room, Name}
use Rattle.text.specs.Letters.{letters, numbered}

-- at a position of the order; in a post's list
abbrev pub at_position : List ℕ → List ℕ
at_position t = letters "at position # of the order: " ++ t

abbrev pub in_list : List ℕ → List ℕ
in_list t = letters "in the list of post #: " ++ t

-- the words of a refusal, in which # stands for a number
abbrev pub words_of : Refusal → List ℕ
words_of Short = letters "the block is cut short: it has fewer than 7 bytes"
words_of Mark = letters "this is no block: it does not begin with PGB"
words_of Version = letters "the block is of another version than 1"
words_of Posts = letters "the number of posts is below 3 or above #"
words_of Length = letters "the block has too few or too many bytes for its number of posts"
words_of Sum = letters "the sum at the end is wrong: some byte was changed on the way"
words_of (Order k) = at_position (letters "a name that no post has, or one that came before")
words_of (Degrees u) = letters "the degree of post # is below 2, or so high that there are not that many other posts"
words_of (High u) = in_list (letters "a name that no post has")
words_of (Itself u) = in_list (letters "the post itself")
words_of (Repeated u) = in_list (letters "a name that stands there already")
words_of (Unreturned u) = in_list (letters "a post whose own list does not have post #; either of the two lists may be the wrong one")
words_of (Triangle u) =
    letters "around post #: two neighbours stand side by side in its list, v and then w, but in the list of v post # does not come right after w; "
    ++ letters "perhaps v and w are not wired, or a list is out of sequence or clockwise"
words_of Outer =
    letters "the first two posts of the order are not wired, or in the list of the second, "
    ++ letters "the last post of the order does not come right after the first"
words_of (Few k) = at_position (letters "the post has fewer than two wires to posts fitted before it")
words_of (Broken k) =
    at_position (letters "the post's wires to posts fitted before it do not lie side by side; two posts may stand in each other's place")
words_of Stage = letters "there is no such stage: stages go from 3 to the number of posts"
words_of Room = letters "the sheet buffer is too short: it has fewer than two entries for each post of the stage"
words_of Name = letters "no post has that name"

-- number 8 where the place is the number of posts
abbrev pub all_degrees : List ℕ
all_degrees = letters "the degrees of all # posts together are not 6 times # less 12"

-- what # stands for: the place; in number 4 the limit
abbrev pub number_in : ℕ → ℕ → ℕ
number_in number place = cond (eqb number 4) limit place

-- number 8 at the place n, or another
abbrev pub whole_board : ℕ → ℕ → ℕ → Bool
whole_board n number place = eqb number 8 && leb n place

-- a refusal of a block of n posts
unfoldable pub reason_of : ℕ → Refusal → List ℕ
reason_of n r =
    numbered (number_in (number_of r) (place_of r)) (cond (whole_board n (number_of r) (place_of r)) all_degrees (words_of r))

-- no reason is longer than this, whatever the numbers
abbrev pub longest_reason : ℕ
longest_reason = 243
