-- What each service promises of the very values that its function answers; and how tight that is: whatever is handed in, two answers that meet
-- a promise are equal, and so are two buffers after a call.
use Rattle.std.specs.Prelude.{ℕ, ◌≡◌, List, Result}
use Rattle.lamp.specs.Given.{reply_of, check_reply}
use Rattle.lamp.specs.declared.Refusal.{Refusal}
use Rattle.placing.specs.declared.Record.{Record}
use Rattle.unit.specs.Replies.{sheet_reply, buffer_after, ends_after, post_reply}

-- what is promised of check's answer; of sheet's and of ends', with the buffer after it; of post's
abbrev pub CheckPromise : List ℕ → Result ℕ Refusal → Type 0
CheckPromise s r = reply_of r ≡ check_reply s

abbrev pub SheetPromise : List ℕ → ℕ → List ℕ → Result ℕ Refusal → List ℕ → Type 0
SheetPromise s k b r after = (reply_of r ≡ sheet_reply s k b) × (after ≡ buffer_after s k b)

abbrev pub EndsPromise : List ℕ → ℕ → List ℕ → Result ℕ Refusal → List ℕ → Type 0
EndsPromise s k b r after = (reply_of r ≡ sheet_reply s k b) × (after ≡ ends_after s k b)

abbrev pub PostPromise : List ℕ → ℕ → ℕ → Result Record Refusal → Type 0
PostPromise s k u r = reply_of r ≡ post_reply s k u

pub record OneReply : Type 0 where
  pub check : (s : List ℕ) (r q : Result ℕ Refusal) → CheckPromise s r → CheckPromise s q → r ≡ q
  pub sheet : (s : List ℕ) (k : ℕ) (b : List ℕ) (r q : Result ℕ Refusal) (after other : List ℕ)
      → SheetPromise s k b r after → SheetPromise s k b q other → (r ≡ q) × (after ≡ other)
  pub ends : (s : List ℕ) (k : ℕ) (b : List ℕ) (r q : Result ℕ Refusal) (after other : List ℕ)
      → EndsPromise s k b r after → EndsPromise s k b q other → (r ≡ q) × (after ≡ other)
  pub post : (s : List ℕ) (k u : ℕ) (r q : Result Record Refusal) → PostPromise s k u r → PostPromise s k u q → r ≡ q
