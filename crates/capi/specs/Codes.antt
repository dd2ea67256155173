-- A reply as one number: number * 65536 + value; number 0 is acceptance. A post's reply as seven numbers beside it.
use Rattle.std.specs.Prelude.{ℕ, ◌+◌, ◌*◌, ◌≡◌, List}
use Rattle.placing.specs.declared.Record.{Record}
use Rattle.placing.specs.declared.Standing.{Standing}
use Rattle.placing.specs.declared.Standing.TheVariants.{Waiting, OnContour, Covered}
use Rattle.lamp.specs.Given.{Reply, accepted, refused, check_reply}
use Rattle.unit.specs.Replies.{sheet_reply, buffer_after, post_reply}
use Rattle.capi.specs.declared.PostReply.{PostReply}

abbrev pub refusal_code : ℕ → ℕ → ℕ
refusal_code number place = number * 65536 + place

abbrev pub code_of : Reply ℕ → ℕ
code_of (accepted v) = v
code_of (refused number place) = refusal_code number place

-- standing: 0 waiting, 1 on the contour, 2 covered; first and second: left and right, or the covering post twice
abbrev pub standing_of : Standing → ℕ
standing_of Waiting = 0
standing_of (OnContour l r) = 1
standing_of (Covered b) = 2

abbrev pub first_of : Standing → ℕ
first_of Waiting = 0
first_of (OnContour l r) = l
first_of (Covered b) = b

abbrev pub second_of : Standing → ℕ
second_of Waiting = 0
second_of (OnContour l r) = r
second_of (Covered b) = b

abbrev pub post_of : Reply Record → PostReply
post_of (accepted r) =
    record {
      reply = 0;
      x = r.x;
      y = r.y;
      standing = standing_of r.standing;
      first = first_of r.standing;
      second = second_of r.standing;
      fit_left = r.leftmost;
      fit_right = r.rightmost;
    }
post_of (refused number place) =
    record { reply = refusal_code number place; x = 0; y = 0; standing = 0; first = 0; second = 0; fit_left = 0; fit_right = 0 }

-- What is promised of each C function: of the code, with the buffer after a sheet call, and of a post's struct.
abbrev pub CheckCode : List ℕ → ℕ → Type 0
CheckCode s c = c ≡ code_of (check_reply s)

abbrev pub SheetCode : List ℕ → ℕ → List ℕ → ℕ → List ℕ → Type 0
SheetCode s k b c after = (c ≡ code_of (sheet_reply s k b)) × (after ≡ buffer_after s k b)

abbrev pub PostStruct : List ℕ → ℕ → ℕ → PostReply → Type 0
PostStruct s k u p = p ≡ post_of (post_reply s k u)
