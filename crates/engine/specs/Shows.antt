-- How the engine holds a stage, in arrays by name: no post is moved at a step, since differences stay.
use Rattle.std.specs.Prelude.{ℕ, ◌+◌, ◌≤◌, ◌<◌, ◌≡◌, ◌≢◌, List, length, get_or, take}
use Rattle.words.specs.Lists.{In, Adj}
use Rattle.words.specs.Positions.{post}
use Rattle.rings.specs.Held.{held}
use Rattle.placing.specs.Stages.{Stage, stage}
use Rattle.block.specs.Layout.{bias}

pub record Shows (t : Stage) (ys off cover left right : List ℕ) : Type 0 where
  pub height : (u : ℕ) → In u t.placed → get_or ys u 0 ≡ t.y u
  -- two neighbours on the contour: how far apart they stand, and who is left of whom
  pub apart : (a b : ℕ) → Adj t.contour a b → t.x b ≡ t.x a + get_or off b 0
  pub from_none : get_or off (post t.placed 1) 0 ≡ 0
  pub left_is : (a b : ℕ) → Adj t.contour a b → get_or left b 0 ≡ a
  pub right_is : (a b : ℕ) → Adj t.contour a b → get_or right a 0 ≡ b
  pub first : get_or left (post t.placed 1) 0 ≡ post t.placed 1
  pub last : get_or right (post t.placed 2) 0 ≡ post t.placed 2
  pub bare : (u : ℕ) → In u t.contour → get_or cover u 0 ≡ u
  -- a covered post: who covers it, and how far from that post it stands
  pub covers : (u : ℕ) → In u t.placed → ¬ (In u t.contour) → get_or cover u 0 ≡ t.cover u
  pub hangs : (u : ℕ) → In u t.placed → ¬ (In u t.contour) → t.x u + bias ≡ t.x (t.cover u) + get_or off u 0

-- room for n posts in each array
pub record Room (n : ℕ) (ys off cover left right : List ℕ) : Type 0 where
  pub of_ys : n ≤ length ys
  pub of_off : n ≤ length off
  pub of_cover : n ≤ length cover
  pub of_left : n ≤ length left
  pub of_right : n ≤ length right

-- room for the post u in each array that its record is read from
pub record RoomFor (u : ℕ) (ys cover left right xs : List ℕ) : Type 0 where
  pub in_ys : u < length ys
  pub in_cover : u < length cover
  pub in_left : u < length left
  pub in_right : u < length right
  pub in_xs : u < length xs

-- three posts that differ, and have room
pub record Corners (v1 v2 v3 : ℕ) (ys off cover left right : List ℕ) : Type 0 where
  pub n : ℕ
  pub room : Room n ys off cover left right
  pub below1 : v1 < n
  pub below2 : v2 < n
  pub below3 : v3 < n
  pub apart12 : v1 ≢ v2
  pub apart13 : v1 ≢ v3
  pub apart23 : v2 ≢ v3

-- the arrays hold the stage of the first k posts of the list, with room for all posts of the board
pub record Holds (at ents vs : List ℕ) (k : ℕ) (ys off cover left right : List ℕ) : Type 0 where
  pub shows : Shows (stage (held at ents) (take k vs)) ys off cover left right
  pub room : Room (length (held at ents)) ys off cover left right

-- and the columns of its posts
pub record Columned (at ents vs : List ℕ) (k : ℕ) (ys off cover left right xs : List ℕ) : Type 0 where
  pub holds : Holds at ents vs k ys off cover left right
  pub column : (u : ℕ) → In u (stage (held at ents) (take k vs)).placed → get_or xs u 0 ≡ (stage (held at ents) (take k vs)).x u
  pub roomy : length (held at ents) ≤ length xs
