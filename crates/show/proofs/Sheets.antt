-- The lines of a sheet, one after the other, and from the entries that an accepted call wrote.
use Prim.Native.Nat.{ℕ, zero, suc, ◌+◌, ◌*◌, ◌-◌, ◌≤◌, ◌<◌}
use mathlib.Core.Path.{◌≡◌, refl, sym, ap, ap₂, ◌∙◌}
use mathlib.Core.Bool.{true}
use mathlib.Core.List.{List, [], ◌++◌, append_assoc}
use native.Mathlib.Numerals.{add-one}
use native.Mathlib.Omega.{arith}
use lib.ListN.{length, get_or, take, drop, length-take}
use lib.Seq.{get_or-take, length-take-le}
use borrow.Author.Tests.{lt-ltb, le-ltb}
use Rattle.block.specs.Layout.{limit}
use Rattle.block.specs.Block.{posts, order, Headed}
use Rattle.lamp.specs.Lamp.{Row, check_rows, sheet_rows, stage_row, stage_rows, room_rows}
use Rattle.lamp.specs.Given.{Reply, accepted, refused, given, check_reply, NoneApplies}
use Rattle.lamp.proofs.Given.{given_none, given_says, given_first, given_refused, refused_any, not_both, none_left, none_right, none_both}
use Rattle.lamp.proofs.Loads.{order_length}
use Rattle.lamp.proofs.Accepts.{none_accepted, accepted_none, accepted_framed, stage_range}
use Rattle.unit.specs.Replies.{stage_at, sheet_reply, buffer_after}
use Rattle.unit.proofs.Calls.{room_passes}
use Rattle.unit.proofs.Written.{written, pairs_x, pairs_y}
use Rattle.show.specs.Shown.{refusal_line, head_line, position_line, lines_to, stage_line, stage_sheet, sheet_or, sheet_text}
use Rattle.show.specs.Entered.{entry_line}

pub lines_none : (line : ℕ → List ℕ) → lines_to 0 line ≡ []
unfolding lines_to
lines_none line = refl

pub lines_more : (k : ℕ) (line : ℕ → List ℕ) → lines_to (suc k) line ≡ lines_to k line ++ line (suc k)
unfolding lines_to
lines_more k line = refl

-- lines that are the same position by position
pub lines_same : (k : ℕ) (f g : ℕ → List ℕ) → ((i : ℕ) → i < k → f (suc i) ≡ g (suc i)) → lines_to k f ≡ lines_to k g
unfolding lines_to
lines_same zero f g same = refl
lines_same (suc k) f g same = ap₂ (λ (a b : List ℕ). a ++ b) (lines_same k f g (λ i h. same i (omega arith))) (same k (omega arith))

pub entry_line_lem : (vs b : List ℕ) (i : ℕ) → position_line (i + 1) (get_or vs i 0) (get_or b (2 * i) 0) (get_or b (2 * i + 1) 0) ≡ entry_line vs b (suc i)
entry_line_lem vs b i = let e : suc i - 1 ≡ i = omega arith in rw (e, add-one) refl

-- the lines of the first k of n names
pub front_lines : (xs b : List ℕ) (k : ℕ) → k ≤ length xs
    → lines_to k (entry_line xs b) ≡ lines_to (length (take k xs)) (entry_line (take k xs) b)
front_lines xs b k h =
    let long : length (take k xs) ≡ k = length-take-le k xs h in
    rw long (lines_same k _ _ same)
  where
    same : (j : ℕ) → j < k → entry_line xs b (suc j) ≡ entry_line (take k xs) b (suc j)
    same j l =
        let less : suc j - 1 ≡ j = omega arith in
        rw (less, get_or-take k xs j 0 l) refl

-- ---- which text it is

-- a block that check refuses gets its refusal, whatever the stage
pub check_refuses : (s : List ℕ) (k number place : ℕ) → check_reply s ≡ refused number place → sheet_text s k ≡ refusal_line number place
unfolding sheet_text sheet_or check_reply
check_refuses s k number place e = rw (given_refused s posts (check_rows s) (stage_rows k) number place e) refl

module _ (s : List ℕ) (k : ℕ) where
  abbrev rows : List Row
  rows = check_rows s ++ stage_rows k

  module _ (none : NoneApplies rows s) where
    checks : NoneApplies (check_rows s) s
    checks = none_left (check_rows s) (stage_rows k) s none

    pub checked : check_reply s ≡ accepted (posts s)
    checked = none_accepted s checks

    range : (3 ≤ k) × (k ≤ posts s)
    range = stage_range s k (none_right (check_rows s) (stage_rows k) s none)

    pub at_least : 3 ≤ k
    at_least = range.0

    pub at_most : k ≤ posts s
    at_most = range.1

    pub headed : Headed s (posts s)
    headed = let F = accepted_framed s (posts s) checked in record { is = refl; least = F.posts_least; most = F.posts_most; sized = F.size_right }

    pub shows_sheet : sheet_text s k ≡ stage_sheet s k
    unfolding sheet_text sheet_or
    shows_sheet = rw (given_none s posts rows none) refl

    -- so do the rows of a buffer with room for the longest sheet
    pub with_room : (b : List ℕ) → length b ≡ 2 * limit → sheet_reply s k b ≡ accepted (2 * k)
    unfolding sheet_reply sheet_rows
    with_room b room =
        let H = headed in
        let here = none_right (check_rows s) (stage_rows k) s none in
        let more = none_both (stage_rows k) (room_rows k (length b)) s here (room_passes s k (length b) (omega (arith, at_most, H.most, room))) in
        given_none s (λ z. 2 * k) (sheet_rows s k (length b)) (none_both (check_rows s) (stage_rows k ++ room_rows k (length b)) s checks more)

  -- what an accepted call says of the rows
  pub none_of : (b : List ℕ) (m : ℕ) → sheet_reply s k b ≡ accepted m → NoneApplies rows s
  unfolding sheet_reply sheet_rows
  none_of b m e =
      let own = stage_rows k ++ room_rows k (length b) in
      let none = given_says s (λ z. 2 * k) (check_rows s ++ own) m e in
      none_both (check_rows s) (stage_rows k) s (none_left (check_rows s) own s none)
      (none_left (stage_rows k) (room_rows k (length b)) s (none_right (check_rows s) own s none))

  -- the refusal of the sheet call, with room for the longest sheet
  pub sheet_refuses : (b : List ℕ) → length b ≡ 2 * limit → (number place : ℕ) → sheet_reply s k b ≡ refused number place
      → sheet_text s k ≡ refusal_line number place
  unfolding sheet_text sheet_or sheet_reply sheet_rows
  sheet_refuses b room number place e = go (given rows s posts) refl
    where
      go : (r : Reply ℕ) → given rows s posts ≡ r → sheet_or r s k ≡ refusal_line number place
      go (accepted n) q = not_both (sym e ∙ with_room (given_says s posts rows n q) b room)
      go (refused a c) q =
          let longer = given_refused s posts rows (room_rows k (length b)) a c q in
          let same = ap (λ (l : List Row). given l s posts) (sym (append_assoc (check_rows s) (stage_rows k) (room_rows k (length b)))) ∙ longer in
          let told = sym (refused_any s posts (λ z. 2 * k) (check_rows s ++ (stage_rows k ++ room_rows k (length b))) a c same) ∙ e in
          let is_number : a ≡ number = cc in
          let is-place : c ≡ place = cc in
          rw (is_number, is-place) refl

  -- what an accepted call wrote for position i + 1
  pub entered : (b : List ℕ) (m : ℕ) → sheet_reply s k b ≡ accepted m → (i : ℕ) → i < k
      → (get_or (buffer_after s k b) (2 * i) 0 ≡ (stage_at k s).x (get_or (order s) i 0))
      × (get_or (buffer_after s k b) (2 * i + 1) 0 ≡ (stage_at k s).y (get_or (order s) i 0))
  entered b m e i h =
      let vs = order s in
      let t = stage_at k s in
      let there : i < length (take k vs) = omega (arith, length-take k vs, order_length s, at_most (none_of b m e)) in
      let is = written s k b (m, e) in
      let u : get_or (take k vs) i 0 ≡ get_or vs i 0 = get_or-take k vs i 0 h in
      let rest = drop (2 * k) b in (
        rw is (pairs_x t.x t.y (take k vs) rest i there ∙ ap t.x u),
        rw is (pairs_y t.x t.y (take k vs) rest i there ∙ ap t.y u),
      )

  -- the lines from the entries that an accepted call wrote are the stage's
  pub entered_lines : (b : List ℕ) (m : ℕ) → sheet_reply s k b ≡ accepted m
      → lines_to k (entry_line (order s) (buffer_after s k b)) ≡ lines_to k (stage_line (order s) (stage_at k s))
  entered_lines b m e = lines_same k _ _ same
    where
      same : (i : ℕ) → i < k → entry_line (order s) (buffer_after s k b) (suc i) ≡ stage_line (order s) (stage_at k s) (suc i)
      same i h =
          let at = entered b m e i h in
          let less : suc i - 1 ≡ i = omega arith in
          rw (less, at.0, at.1) refl

  -- and so an accepted call's text is made of them
  pub sheet_accepts : (b : List ℕ) (m : ℕ) → sheet_reply s k b ≡ accepted m → (n : ℕ) → n ≡ posts s
      → sheet_text s k ≡ head_line n k ++ lines_to k (entry_line (order s) (buffer_after s k b))
  unfolding stage_sheet
  sheet_accepts b m e n is = shows_sheet (none_of b m e) ∙ rw (is, entered_lines b m e) refl

-- a stage beyond the limit is refused; so two of them are refused alike
too_high : (s : List ℕ) (m : ℕ) → limit < m → (n : ℕ) → check_reply s ≡ accepted n → sheet_text s m ≡ refusal_line 15 0
unfolding sheet_text sheet_or
too_high s m i n e =
    let F = accepted_framed s n e in
    let high : (stage_row m).when s ≡ true = rw (le-ltb m 3 (omega arith), lt-ltb (posts s) m (omega (arith, F.posts_most))) refl in
    rw (given_first s posts (check_rows s) (stage_row m) [] (accepted_none s n e) high) refl

pub beyond : (s : List ℕ) (j k : ℕ) → limit < j → limit < k → sheet_text s j ≡ sheet_text s k
beyond s j k h l = go (check_reply s) refl
  where
    go : (r : Reply ℕ) → check_reply s ≡ r → sheet_text s j ≡ sheet_text s k
    go (accepted n) e = too_high s j h n e ∙ sym (too_high s k l n e)
    go (refused number place) e = check_refuses s j number place e ∙ sym (check_refuses s k number place e)
