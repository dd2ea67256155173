-- What the programs `sheet` and `stage` print, byte for byte: a function of the block, and of the word that names the stage.
use Rattle.std.specs.Prelude.{ℕ, zero, suc, ◌+◌, ◌*◌, cond, List, [], ◌++◌}
use Rattle.words.specs.Positions.{post}
use Rattle.block.specs.Layout.{limit}
use Rattle.block.specs.Block.{posts, order}
use Rattle.placing.specs.Stages.{Stage}
use Rattle.lamp.specs.Lamp.{check_rows, stage_rows}
use Rattle.lamp.specs.Given.{Reply, accepted, refused, given}
use Rattle.unit.specs.Replies.{stage_at}
use Rattle.text.specs.Letters.{letters, newline, decimal, spaced, is_number, value_of}

-- a refusal: the word, its number and its place; and as a line
unfoldable pub refusal_text : ℕ → ℕ → List ℕ
refusal_text number place = letters "refused" ++ (spaced number ++ spaced place)

unfoldable pub refusal_line : ℕ → ℕ → List ℕ
refusal_line number place = refusal_text number place ++ newline

-- a sheet's first line: the word, the number of posts, the stage
unfoldable pub head_line : ℕ → ℕ → List ℕ
head_line n k = letters "sheet" ++ (spaced n ++ (spaced k ++ newline))

-- the line of a position: position, name, x, y
unfoldable pub position_line : ℕ → ℕ → ℕ → ℕ → List ℕ
position_line i u x y = decimal i ++ (spaced u ++ (spaced x ++ (spaced y ++ newline)))

-- the lines of positions 1 to k
unfoldable pub lines_to : ℕ → (ℕ → List ℕ) → List ℕ
lines_to zero line = []
lines_to (suc k) line = lines_to k line ++ line (suc k)

-- position i of a stage, where the posts stand in this order
abbrev pub stage_line : List ℕ → Stage → ℕ → List ℕ
stage_line vs t i = let u = post vs i in position_line i u (t.x u) (t.y u)

-- the sheet of stage k
unfoldable pub stage_sheet : List ℕ → ℕ → List ℕ
stage_sheet s k = head_line (posts s) k ++ lines_to k (stage_line (order s) (stage_at k s))

-- the sheet or the refusal
unfoldable pub sheet_or : Reply ℕ → List ℕ → ℕ → List ℕ
sheet_or (accepted n) s k = stage_sheet s k
sheet_or (refused number place) s k = refusal_line number place

-- what is printed for stage k: refused by check's rows, then by the stage's
unfoldable pub sheet_text : List ℕ → ℕ → List ℕ
sheet_text s k = sheet_or (given (check_rows s ++ stage_rows k) s posts) s k

-- `sheet` prints the last stage
unfoldable pub last_text : List ℕ → List ℕ
last_text s = sheet_text s (posts s)

-- `stage` prints the stage that its word names, or how it is called
abbrev pub usage : List ℕ
usage = letters "usage: stage K < block, with K the stage, from 3 to the number of posts" ++ newline

unfoldable pub stage_text : List ℕ → List ℕ → List ℕ
stage_text s word = cond (is_number word) (sheet_text s (value_of word)) usage

-- no text of `sheet` and `stage` is longer than this: a sheet's first line has at most 18 bytes, and the line of a position at most 24
abbrev pub longest_text : ℕ
longest_text = 18 + 24 * limit
