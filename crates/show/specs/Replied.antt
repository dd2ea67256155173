-- A service's whole reply as a line of text, for the worked cases.
use Rattle.std.specs.Prelude.{ℕ}
use mathlib.Core.List.{List, ◌++◌, flat_map}
use Rattle.placing.specs.declared.Record.{Record}
use Rattle.placing.specs.declared.Standing.{Standing}
use Rattle.placing.specs.declared.Standing.TheVariants.{Waiting, OnContour, Covered}
use Rattle.lamp.specs.Given.{Reply, accepted, refused, check_reply}
use Rattle.unit.specs.Replies.{sheet_reply, buffer_after, post_reply}
use Rattle.text.specs.Letters.{letters, newline, spaced}
use Rattle.show.specs.Shown.{refusal_text}

-- an answer: accepted with its number, or the refusal
unfoldable pub answer_text : Reply ℕ → List ℕ
answer_text (accepted v) = letters "accepted" ++ spaced v
answer_text (refused number place) = refusal_text number place

unfoldable pub check_line : List ℕ → List ℕ
check_line s = answer_text (check_reply s) ++ newline

-- numbers, a space before each
unfoldable pub spaced_all : List ℕ → List ℕ
spaced_all l = flat_map spaced l

-- the reply, and what stands in the buffer afterwards
unfoldable pub sheet_reply_line : List ℕ → ℕ → List ℕ → List ℕ
sheet_reply_line s k b = answer_text (sheet_reply s k b) ++ (letters ", buffer" ++ (spaced_all (buffer_after s k b) ++ newline))

-- a record: where the post stands, and how; and between which posts it was fitted
unfoldable pub standing_text : Standing → List ℕ
standing_text Waiting = letters " waiting"
standing_text (OnContour l r) = letters " on the contour between" ++ (spaced l ++ spaced r)
standing_text (Covered b) = letters " covered by" ++ spaced b

abbrev pub ends_text : ℕ → ℕ → List ℕ
ends_text l r = letters ", fit between" ++ (spaced l ++ spaced r)

unfoldable pub record_text : Reply Record → List ℕ
record_text (accepted r) =
    letters "at" ++ (spaced r.x ++ (spaced r.y ++ (standing_text r.standing ++ ends_text r.leftmost r.rightmost)))
record_text (refused number place) = refusal_text number place

unfoldable pub post_reply_line : List ℕ → ℕ → ℕ → List ℕ
post_reply_line s k u = record_text (post_reply s k u) ++ newline
