-- Which line `why` prints, and how long it is.
use Prim.Native.Nat.{ℕ, ◌+◌, ◌*◌, ◌-◌, ◌≤◌, ◌<◌}
use mathlib.Core.Path.{◌≡◌, refl, sym, ◌∙◌}
use mathlib.Core.List.{List, ◌++◌}
use mathlib.Core.Option.{Option, none, some}
use Rattle.std.specs.Prelude.{Option as Maybe, Some, None, MatchOption}
use Rattle.std.specs.Option.{unwrap_or}
use native.Mathlib.Omega.{arith}
use native.Mathlib.Decide.{dec_lt}
use lib.ListN.{length, length-append}
use borrow.Author.Tests.{lt-ltb}
use Rattle.words.specs.Lists.{count}
use Rattle.block.specs.Layout.{order_at}
use Rattle.block.specs.Block.{posts}
use Rattle.lamp.specs.Lamp.{short_row, block_rows, check_rows}
use Rattle.lamp.specs.Given.{Reply, accepted, refused, check_reply}
use Rattle.lamp.specs.ReadBack.{refusals_at, with_number, refusal_of}
use Rattle.lamp.specs.declared.Refusal.{Refusal}
use Rattle.lamp.proofs.Given.{given_stop}
use Rattle.text.specs.Letters.{letters, newline, spaced, numbered}
use Rattle.text.proofs.Numerals.{twenty_at_most, numbered_length}
use Rattle.reasons.specs.Reasons.{longest_reason, reason_of}
use Rattle.reasons.proofs.Meant.{reason_length}
use Rattle.show.specs.Shown.{refusal_text, longest_text}
use Rattle.show.specs.Why.{accepted_line, reason_for, refused_line, why_line, why_text}

pub why_accepted : (s : List ℕ) (n : ℕ) → check_reply s ≡ accepted n → why_text s ≡ accepted_line n
unfolding why_text why_line
why_accepted s n e = rw e refl

-- a block too short to state a number of posts
too_short : (s : List ℕ) → length s < 7 → check_reply s ≡ refused 1 0
unfolding check_reply check_rows block_rows
too_short s h = given_stop s posts short_row _ (lt-ltb (length s) 7 h)

-- a number that long blocks state
pub stated : (o : Maybe ℕ) {n least p : ℕ} → MatchOption o (n < least) (λ m. m ≡ p) → least ≤ n → unwrap_or o 0 ≡ p
stated None h l = absurd (omega arith)
stated (Some m) h l = h

short_alike : (n m : ℕ) → refused_line n 1 0 ≡ refused_line m 1 0
unfolding refused_line refusals_at with_number reason_of
short_alike n m = refl

-- the number of posts is that of the block, if it states one
pub why_refused : (s : List ℕ) (n number place : ℕ) → check_reply s ≡ refused number place → (order_at ≤ length s → n ≡ posts s)
    → why_text s ≡ refused_line n number place
unfolding why_text why_line
why_refused s n number place e is = go (dec_lt (length s) 7)
  where
    go : Dec (length s < 7) → why_line (posts s) (check_reply s) ≡ refused_line n number place
    go (yes h) =
        let told : ◌≡◌ {A = Reply ℕ} (refused number place) (refused 1 0) = sym e ∙ too_short s h in
        let is_number : number ≡ 1 = cc in
        let is-place : place ≡ 0 = cc in
        rw (too_short s h, is_number, is-place) (short_alike (posts s) n)
    go (no h) = rw (e, is (omega arith)) refl

-- ---- its length

spaced_length : (n : ℕ) → length (spaced n) ≤ 21
spaced_length n = omega (arith, twenty_at_most n)

for_length : (n : ℕ) (r : Option Refusal) → length (reason_for n r) ≤ longest_reason
for_length n none = omega arith
for_length n (some r) = reason_length n r

refused_length : (n number place : ℕ) → length (refused_line n number place) ≤ longest_reason + 52
unfolding refused_line refusal_text
refused_length n number place =
    let words = reason_for n (refusal_of number place) in
    let a = length-append (letters "refused" ++ (spaced number ++ spaced place)) (letters ": " ++ (words ++ newline)) in
    let b = length-append (letters "refused") (spaced number ++ spaced place) in
    let c = length-append (spaced number) (spaced place) in
    let d = length-append (letters ": ") (words ++ newline) in
    omega (arith, a, b, c, d, length-append words newline, spaced_length number, spaced_length place, for_length n (refusal_of number place))

accepted_length : (n : ℕ) → length (accepted_line n) ≤ longest_reason + 52
unfolding accepted_line count
accepted_length n =
    let board = numbered n (letters "accepted #: the board has # posts, and on its sheet x goes from 0 to ") in
    let across = numbered (2 * n - 4) (letters "# and y from 0 to ") in
    let up = numbered (n - 2) (letters "#") in
    let a = length-append board (across ++ (up ++ newline)) in
    let b = length-append across (up ++ newline) in
    let c = length-append up newline in
    omega (
      arith,
      a,
      b,
      c,
      numbered_length n (letters "accepted #: the board has # posts, and on its sheet x goes from 0 to "),
      numbered_length (2 * n - 4) (letters "# and y from 0 to "),
      numbered_length (n - 2) (letters "#"),
    )

pub why_length : (s : List ℕ) → length (why_text s) ≤ longest_text
unfolding why_text why_line
why_length s = go (check_reply s)
  where
    go : (r : Reply ℕ) → length (why_line (posts s) r) ≤ longest_text
    go (accepted n) = omega (arith, accepted_length n)
    go (refused number place) = omega (arith, refused_length (posts s) number place)
