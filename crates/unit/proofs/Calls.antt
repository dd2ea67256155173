-- What sheet, ends and post reply, by what check answered and what the rows after it gave; and the buffer after a call.
use Prim.Native.Nat.{ℕ, ◌+◌, ◌*◌, ◌≤◌, ◌<◌}
use mathlib.Core.Path.{◌≡◌, refl, sym, ap, ◌∙◌, subst, subst⁻¹}
use mathlib.Core.List.{List, [], ◌++◌}
use native.Mathlib.Omega.{arith}
use lib.ListN.{length, take, drop}
use borrow.Author.Tests.{lt-ltb, le-ltb, le-leb, lt-leb, ltb-false, leb-false}
use Rattle.std.proofs.Common.{Result, Ok, Err}
use Rattle.block.specs.Layout.{limit, entries}
use Rattle.block.specs.Block.{posts, order, lists}
use Rattle.rings.specs.Held.{held}
use Rattle.words.specs.Positions.{post}
use Rattle.order.specs.Ranked.{RankedBelow, Ranked}
use Rattle.order.specs.Fitted.{Fitted, RunsHeld}
use Rattle.order.specs.declared.Run.{Run}
use Rattle.order.proofs.Sound.{Passes}
use Rattle.order.proofs.Fitting.{passes_plane, passes_fits}
use Rattle.placing.specs.Stages.{stage}
use Rattle.placing.specs.Records.{record_of}
use Rattle.placing.specs.declared.Record.{Record}
use Rattle.lamp.specs.Refusals.{number_of, place_of}
use Rattle.lamp.specs.Lamp.{Row, check_rows, stage_row, room_row, name_row, sheet_rows, post_rows, stage_rows, room_rows, name_rows}
use Rattle.lamp.specs.Given.{Reply, accepted, refused, reply_of, given, nothing, tried, check_reply, NoneApplies}
use Rattle.lamp.specs.Loaded.{WideOrder, Trimmed, Checked}
use Rattle.lamp.specs.declared.Refusal.{Refusal}
use Rattle.lamp.specs.declared.Refusal.TheVariants.{Stage, Room, Name}
use Rattle.lamp.proofs.Given.{given_first, given_none, given_past, given_refused, refused_any, none_both}
use Rattle.lamp.proofs.Tried.{counts, none_applied, stops_last}
use Rattle.lamp.proofs.Loads.{trimmed, order_length}
use Rattle.lamp.proofs.Accepts.{lists_count, none_passes, accepted_none, stage_range}
use Rattle.unit.specs.Replies.{stage_at, sheet_reply, buffer_for, post_reply}

-- ---- the rows after check's, by what the code compared

module _ (s : List ℕ) (k : ℕ) where
  pub stage_low : k < 3 → reply_of (Err Stage) ≡ tried (stage_rows k) s
  stage_low h = sym (given_first s nothing [] (stage_row k) [] tt (rw (lt-ltb k 3 h) refl))

  pub stage_high : 3 ≤ k → posts s < k → reply_of (Err Stage) ≡ tried (stage_rows k) s
  stage_high least h = sym (given_first s nothing [] (stage_row k) [] tt (rw (le-ltb k 3 least, lt-ltb (posts s) k h) refl))

  pub stage_passes : 3 ≤ k → k ≤ posts s → NoneApplies (stage_rows k) s
  stage_passes least most = (rw (le-ltb k 3 least, le-ltb (posts s) k most) refl, tt)

  -- where none applies, the stage fits
  pub stage_fits : (rest : List Row) → NoneApplies (stage_rows k ++ rest) s → (3 ≤ k) × (k ≤ posts s)
  stage_fits rest h = stage_range s k (h.0, tt)

  pub no_room : (room : ℕ) → room < 2 * k → given (room_rows k room) s (λ z. 2 * k) ≡ refused (number_of Room) (place_of Room)
  no_room room h = given_first s (λ z. 2 * k) [] (room_row k room) [] tt (lt-ltb room (2 * k) h)

  pub room_passes : (room : ℕ) → 2 * k ≤ room → NoneApplies (room_rows k room) s
  room_passes room h = (le-ltb room (2 * k) h, tt)

  pub room_fits : (room : ℕ) → NoneApplies (stage_rows k ++ room_rows k room) s → 2 * k ≤ room
  room_fits room h = ltb-false room (2 * k) (search)

pub no_name : (s : List ℕ) (u : ℕ) → posts s ≤ u → given (name_rows u) s (λ z. u) ≡ refused (number_of Name) (place_of Name)
no_name s u h = given_first s (λ z. u) [] (name_row u) [] tt (le-leb (posts s) u h)

pub name_passes : (s : List ℕ) (u : ℕ) → u < posts s → NoneApplies (name_rows u) s
name_passes s u h = (lt-leb (posts s) u h, tt)

pub name_fits : (s : List ℕ) (k u : ℕ) → NoneApplies (stage_rows k ++ name_rows u) s → u < posts s
name_fits s k u h = leb-false (posts s) u (search)

-- ---- a service: check's rows, and its own

module _ {A : Type 0} (s : List ℕ) (own : List Row) (answer : List ℕ → A) where
  -- check refuses
  pub check_refuses : (number place : ℕ) → check_reply s ≡ refused number place → refused number place ≡ given (check_rows s ++ own) s answer
  unfolding check_reply
  check_refuses number place e = sym (given_refused s answer (check_rows s) own number place (refused_any s posts answer (check_rows s) number place e))

  -- check accepts, and its own rows are tried
  module _ {B : Type 0} (n : ℕ) (e : check_reply s ≡ accepted n) (mine : List ℕ → B) (q : Result B Refusal) (eq : reply_of q ≡ given own s mine) where
    pub own_refuses : (f : Refusal) → q ≡ Err f → refused (number_of f) (place_of f) ≡ given (check_rows s ++ own) s answer
    own_refuses f is = stops_last s mine own q eq answer f is ∙ sym (given_past s answer (check_rows s) own (accepted_none s n e))

    pub accepts : (v : B) → q ≡ Ok v → accepted (answer s) ≡ given (check_rows s ++ own) s answer
    accepts v is =
        sym (given_none s answer (check_rows s ++ own) (none_both (check_rows s) own s (accepted_none s n e) (none_applied s mine own q eq v is)))

-- ---- the replies of sheet and ends are one; w is what an acceptance writes

module _ (s : List ℕ) (k : ℕ) (b w : List ℕ) where
  own : List Row
  own = stage_rows k ++ room_rows k (length b)

  refuses : (number place : ℕ) → refused number place ≡ given (check_rows s ++ own) s (λ z. 2 * k)
      → (refused number place ≡ sheet_reply s k b) × (b ≡ buffer_for (sheet_reply s k b) w b)
  unfolding sheet_reply sheet_rows buffer_for own
  refuses number place e = (e, ap (λ (r : Reply ℕ). buffer_for r w b) e)

  pub sheet_refused : (number place : ℕ) → check_reply s ≡ refused number place
      → (refused number place ≡ sheet_reply s k b) × (b ≡ buffer_for (sheet_reply s k b) w b)
  sheet_refused number place e = refuses number place (check_refuses s own (λ z. 2 * k) number place e)

  -- an accepted block, and what its stage and the room gave; t is the block as it is held
  module _ (t : List ℕ) (same : t ≡ s) (n : ℕ) (e : check_reply s ≡ accepted n) (q : Result ℕ Refusal)
      (eq : reply_of q ≡ given (stage_rows k ++ room_rows k (length b)) t (λ z. 2 * k)) where
    eq_s : reply_of q ≡ given own s (λ z. 2 * k)
    unfolding own
    eq_s = eq ∙ ap (λ (z : List ℕ). given own z (λ x. 2 * k)) same

    pub room_refused : (f : Refusal) → q ≡ Err f
        → (refused (number_of f) (place_of f) ≡ sheet_reply s k b) × (b ≡ buffer_for (sheet_reply s k b) w b)
    room_refused f is = refuses (number_of f) (place_of f) (own_refuses s own (λ z. 2 * k) n e (λ z. 2 * k) q eq_s f is)

    module _ (v : ℕ) (is : q ≡ Ok v) where
      none : NoneApplies own s
      none = none_applied s (λ z. 2 * k) own q eq_s v is

      pub sheet_written : (accepted v ≡ sheet_reply s k b) × (w ++ drop (2 * k) b ≡ buffer_for (sheet_reply s k b) w b)
      unfolding sheet_reply sheet_rows buffer_for own
      sheet_written =
          let done = accepts s own (λ z. 2 * k) n e (λ z. 2 * k) q eq_s v is in
          (ap accepted (counts s (λ z. 2 * k) own q eq_s v is) ∙ done, ap (λ (r : Reply ℕ). buffer_for r w b) done)

      pub sheet_fits : ((3 ≤ k) × (k ≤ posts s)) × (2 * k ≤ length b)
      unfolding own
      sheet_fits = (stage_fits s k (room_rows k (length b)) none, room_fits s k (length b) none)

-- ---- post's reply

module _ (s : List ℕ) (k u : ℕ) where
  record_at : List ℕ → Record
  record_at z = record_of (lists z) (stage_at k z) u

  pub post_refused : (number place : ℕ) → check_reply s ≡ refused number place → refused number place ≡ post_reply s k u
  unfolding post_reply post_rows record_at
  post_refused number place e = check_refuses s (stage_rows k ++ name_rows u) record_at number place e

  module _ (t : List ℕ) (same : t ≡ s) (n : ℕ) (e : check_reply s ≡ accepted n) (q : Result ℕ Refusal)
      (eq : reply_of q ≡ given (stage_rows k ++ name_rows u) t (λ z. u)) where
    eq_u : reply_of q ≡ given (stage_rows k ++ name_rows u) s (λ z. u)
    eq_u = eq ∙ ap (λ (z : List ℕ). given (stage_rows k ++ name_rows u) z (λ x. u)) same

    pub name_refused : (f : Refusal) → q ≡ Err f → refused (number_of f) (place_of f) ≡ post_reply s k u
    unfolding post_reply post_rows record_at
    name_refused f is = own_refuses s (stage_rows k ++ name_rows u) record_at n e (λ z. u) q eq_u f is

    module _ (v : ℕ) (is : q ≡ Ok v) where
      pub name_is : v ≡ u
      name_is = counts s (λ z. u) (stage_rows k ++ name_rows u) q eq_u v is

      pub post_told : (r : Record) → r ≡ record_of (lists s) (stage_at k s) u → accepted r ≡ post_reply s k u
      unfolding post_reply post_rows record_at
      post_told r h = ap accepted h ∙ accepts s (stage_rows k ++ name_rows u) record_at n e (λ z. u) q eq_u v is

      pub post_fits : ((3 ≤ k) × (k ≤ posts s)) × (u < posts s)
      post_fits =
          let none = none_applied s (λ z. u) (stage_rows k ++ name_rows u) q eq_u v is in
          (stage_fits s k (name_rows u) none, name_fits s k u none)

-- ---- what the engine asks, and what it gives

module _ (s : List ℕ) (n : ℕ) (e : check_reply s ≡ accepted n) (vs at ents rank : List ℕ) (runs : List Run) (R : Checked s n vs at ents rank runs)
    (room : limit < length at) (W : WideOrder rank runs) (m : ℕ) (em : m ≡ entries n) where
  L : Trimmed s (take n vs) (take (n + 1) at) (take m ents)
  L = rw em (trimmed s n vs at ents R.headed room R.loaded)

  pub length_is : length (take n vs) ≡ n
  length_is = L.headed.is ∙ sym R.headed.is

  P : Passes (held (take (n + 1) at) (take m ents)) (take n vs)
  P = subst⁻¹ (λ (G : List (List ℕ)). Passes G (take n vs)) L.rings (subst⁻¹ (Passes (lists s)) L.orders (none_passes s (accepted_none s n e)))

  pub many_is : length (held (take (n + 1) at) (take m ents)) ≡ n
  many_is = sym P.board.all ∙ length_is

  -- an accepted block's order fits to its end
  pub fitted : Fitted (take (n + 1) at) (take m ents) (take n vs)
  fitted =
      let G = held (take (n + 1) at) (take m ents) in
      record {
        vn = post (take n vs) (length G);
        plane = passes_plane G (take n vs) P;
        fits = passes_fits G (take n vs) P;
        cuts = L.cuts;
        three = L.headed.least;
        most = omega (arith, many_is, length_is, L.headed.most);
      }

  -- and check has kept its runs
  pub kept : RunsHeld (take (n + 1) at) (take m ents) (take n vs) runs
  kept = record { room = omega (arith, L.headed.most, W.known); known = rw (L.headed.is, L.rings, L.orders) R.ordered.known }

-- the positions by name, of all posts
pub ranked_below : (s : List ℕ) (G : List (List ℕ)) (vs rank : List ℕ) → G ≡ lists s → vs ≡ order s → Ranked (order s) rank
    → RankedBelow (length G) vs rank
ranked_below s G vs rank rings orders R =
    let many : length (order s) ≡ length (lists s) = omega (arith, order_length s, lists_count s) in
    let below : RankedBelow (length (lists s)) (order s) rank = subst (λ (m : ℕ). RankedBelow m (order s) rank) many R in
    rw (rings, orders) below

-- the stage of the lists and the order that are held
pub stage_same : (s : List ℕ) (k : ℕ) (G : List (List ℕ)) (vs : List ℕ) → G ≡ lists s → vs ≡ order s → stage G (take k vs) ≡ stage_at k s
unfolding stage_at
stage_same s k G vs rings orders = rw (rings, orders) refl
