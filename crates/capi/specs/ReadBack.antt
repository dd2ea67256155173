-- A C caller loses nothing: from a code, and from a post's struct, the reply is read back.
use Rattle.std.specs.Prelude.{ℕ, zero, suc, ◌/◌, ◌%◌, ◌<◌, ◌≡◌, cond, List, eqb}
use Rattle.placing.specs.declared.Record.{Record}
use Rattle.placing.specs.declared.Standing.{Standing}
use Rattle.placing.specs.declared.Standing.TheVariants.{Waiting, OnContour, Covered}
use Rattle.lamp.specs.Given.{Reply, accepted, refused, check_reply}
use Rattle.unit.specs.Replies.{sheet_reply, post_reply}
use Rattle.capi.specs.Codes.{code_of, post_of, CheckCode, SheetCode, PostStruct}
use Rattle.capi.specs.declared.PostReply.{PostReply}

-- ---- reading

-- a code's two halves
abbrev pub number_in : ℕ → ℕ
number_in code = code / 65536

abbrev pub value_in : ℕ → ℕ
value_in code = code % 65536

-- number 0 is acceptance with a value; any other is a refusal with its place (which refusal it is: lamp's refusal_of)
abbrev pub read_reply : {A : Type 0} → ℕ → A → Reply A
read_reply code value = cond (eqb (number_in code) 0) (accepted value) (refused (number_in code) (value_in code))

abbrev pub read_code : ℕ → Reply ℕ
read_code code = read_reply code (value_in code)

-- 0 waiting, 1 on the contour, 2 covered
abbrev pub read_standing : ℕ → ℕ → ℕ → Standing
read_standing zero left right = Waiting
read_standing (suc zero) left right = OnContour left right
read_standing (suc (suc more)) left right = Covered left

abbrev pub read_post : PostReply → Reply Record
read_post p =
    read_reply p.reply (record {
      x = p.x;
      y = p.y;
      standing = read_standing p.standing p.first p.second;
      leftmost = p.fit_left;
      rightmost = p.fit_right;
    })

-- ---- what is read is what was replied

-- there is room for it in a code: values and places are below 65,536, and a refusal's number is from 1 to 65,535
abbrev pub Fits : {A : Type 0} → (A → Type 0) → Reply A → Type 0
Fits ValueFits (accepted value) = ValueFits value
Fits ValueFits (refused number place) = (0 < number) × (number < 65536) × (place < 65536)

abbrev pub CodeFits : Reply ℕ → Type 0
CodeFits = Fits (λ value. value < 65536)

-- a record has numbers of its own beside the code
abbrev pub PostFits : Reply Record → Type 0
PostFits = Fits (λ value. Unit {0})

pub record ReadBack : Type 0 where
  -- replies that fit are read back, so no two of them have the same code or struct
  pub codes : (r : Reply ℕ) → CodeFits r → read_code (code_of r) ≡ r
  pub structs : (r : Reply Record) → PostFits r → read_post (post_of r) ≡ r
  pub codes_differ : (r q : Reply ℕ) → CodeFits r → CodeFits q → code_of r ≡ code_of q → r ≡ q
  pub structs_differ : (r q : Reply Record) → PostFits r → PostFits q → post_of r ≡ post_of q → r ≡ q
  -- every reply of a service fits, whatever is handed in: any list of numbers, any stage, buffer and name
  pub check_fits : (s : List ℕ) → CodeFits (check_reply s)
  pub sheet_fits : (s : List ℕ) (k : ℕ) (b : List ℕ) → CodeFits (sheet_reply s k b)
  pub post_fits : (s : List ℕ) (k u : ℕ) → PostFits (post_reply s k u)
  -- so a number or struct that a C function promises tells the reply
  pub check : (s : List ℕ) (c : ℕ) → CheckCode s c → read_code c ≡ check_reply s
  pub sheet : (s : List ℕ) (k : ℕ) (b : List ℕ) (c : ℕ) (after : List ℕ) → SheetCode s k b c after → read_code c ≡ sheet_reply s k b
  pub post : (s : List ℕ) (k u : ℕ) (p : PostReply) → PostStruct s k u p → read_post p ≡ post_reply s k u

-- ---- and it is the only one: two codes, buffers or structs that meet a C function's promise are equal

pub record OneCode : Type 0 where
  pub check : (s : List ℕ) (c d : ℕ) → CheckCode s c → CheckCode s d → c ≡ d
  pub sheet : (s : List ℕ) (k : ℕ) (b : List ℕ) (c d : ℕ) (after other : List ℕ) → SheetCode s k b c after → SheetCode s k b d other
      → (c ≡ d) × (after ≡ other)
  pub post : (s : List ℕ) (k u : ℕ) (p q : PostReply) → PostStruct s k u p → PostStruct s k u q → p ≡ q
