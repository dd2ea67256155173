-- Beside the demands: what is told of a post's run is so, and "fit between a and b" is true on the sheet (docs/RULES.md: O6, R8, X9). Of any unit with
-- the three services.
use Rattle.std.specs.Prelude.{ℕ, ◌+◌, ◌*◌, ◌-◌, ◌≤◌, ◌<◌, ◌≡◌, ◌⊎◌, ◌↔◌, List, length, get_or, take, Ok}
use Rattle.words.specs.Lists.{In, last_of}
use Rattle.words.specs.Positions.{post, earlier, Earlier}
use Rattle.block.specs.Block.{order, lists}
use Rattle.rings.specs.Rings.{ring}
use Rattle.rings.specs.Plane.{Wire}
use Rattle.order.specs.Order.{from, run_begin, run}
use Rattle.order.specs.Ranked.{fit_of}
use Rattle.placing.specs.declared.Record.{Record}
use Rattle.drawing.specs.Meeting.{Places}
use Rattle.lamp.specs.Given.{accepted}
use Rattle.unit.specs.Replies.{ends_after}
use Rattle.unit.specs.Demands.{Services, Accepted, places, on_sheet}

-- the run of the post in position j of the block's order; where it begins in that post's list, counted from 0; and that list
abbrev pub run_at : List ℕ → ℕ → List ℕ
run_at s j = run (lists s) (earlier (order s) j) (post (order s) j)

abbrev pub begin_at : List ℕ → ℕ → ℕ
begin_at s j = run_begin (lists s) (earlier (order s) j) (post (order s) j)

abbrev pub list_at : List ℕ → ℕ → List ℕ
list_at s j = ring (lists s) (post (order s) j)

-- what the order's rule finds in position j, read off its answer: the run that begins at place b of the list and is m long
pub record RunFound (s : List ℕ) (j b m : ℕ) : Type 0 where
  pub inside : b < length (list_at s j)
  pub two : 2 ≤ m
  -- read around from there, that long, it is the run; and these are the earlier neighbours, all of them
  pub read : take m (from b (list_at s j)) ≡ run_at s j
  pub each : (a : ℕ) → In a (run_at s j) ↔ (In a (list_at s j) × Earlier (order s) j a)

-- a stands left of u, and b right of it
pub record Flanked (now : Places) (a u b : ℕ) : Type 0 where
  pub left : now.x a < now.x u
  pub right : now.x u < now.x b

-- the post in position j, at stage k, between a and b: both are wired to it at that stage and stand left and right of it, and no neighbour that is
-- earlier stands further out
pub record Between (s : List ℕ) (k j : ℕ) (now : Places) (a b : ℕ) : Type 0 where
  pub left_wire : Wire (lists s) (take k (order s)) a (post (order s) j)
  pub right_wire : Wire (lists s) (take k (order s)) (post (order s) j) b
  pub left_earlier : Earlier (order s) j a
  pub right_earlier : Earlier (order s) j b
  pub flanked : Flanked now a (post (order s) j) b
  pub outermost : (c : ℕ) → In c (run_at s j) → (now.x a ≤ now.x c) × (now.x c ≤ now.x b)

pub record FitBetween (U : Services) : Type 0 where
  -- of an accepted block, for each position j from 3 on: what the order's rule finds there
  pub good : (s : List ℕ) (n j : ℕ) → U.check s ≡ accepted n → 3 ≤ j → j ≤ n
      → fit_of (lists s) (earlier (order s) j) (post (order s) j) ≡ Ok (record { begin = begin_at s j; many = length (run_at s j) })
  pub found : (s : List ℕ) (n j : ℕ) → U.check s ≡ accepted n → 3 ≤ j → j ≤ n → RunFound s j (begin_at s j) (length (run_at s j))
  -- the last run begins at v1, and ends at v2
  pub from_first : (s : List ℕ) (n : ℕ) → U.check s ≡ accepted n → get_or (list_at s n) (begin_at s n) 0 ≡ post (order s) 1
  pub to_second : (s : List ℕ) (n : ℕ) → U.check s ≡ accepted n → last_of 0 (run_at s n) ≡ post (order s) 2
  -- the record of a post that stands at stage k has its run's first and last post; that of v1, v2 and a post that waits has its own name twice
  pub told : (s : List ℕ) (k j : ℕ) (r : Record) → 3 ≤ j → j ≤ k → U.post s k (post (order s) j) ≡ accepted r
      → (r.leftmost ≡ post (run_at s j) 1) × (r.rightmost ≡ last_of 0 (run_at s j))
  pub own : (s : List ℕ) (k j : ℕ) (r : Record) → 1 ≤ j → j ≤ length (order s) → (j < 3) ⊎ (k < j) → U.post s k (post (order s) j) ≡ accepted r
      → (r.leftmost ≡ post (order s) j) × (r.rightmost ≡ post (order s) j)
  -- at every stage from its own on, a post stands between the ends that its record tells
  pub stages : (s : List ℕ) (k j : ℕ) (r : Record) → 3 ≤ j → j ≤ k → U.post s k (post (order s) j) ≡ accepted r
      → Between s k j (places s k) r.leftmost r.rightmost
  -- so it does by the columns that the records of the three tell
  pub records : (s : List ℕ) (k j : ℕ) (r a b : Record) → 3 ≤ j → j ≤ k → U.post s k (post (order s) j) ≡ accepted r
      → U.post s k r.leftmost ≡ accepted a → U.post s k r.rightmost ≡ accepted b → (a.x < r.x) × (r.x < b.x)
  -- and by the numbers that a sheet call wrote
  pub sheets : (s : List ℕ) (k j : ℕ) (b : List ℕ) (r : Record) → 3 ≤ j → j ≤ k → Accepted (U.sheet s k b)
      → U.post s k (post (order s) j) ≡ accepted r → Flanked (on_sheet (order s) (U.buffer s k b)) r.leftmost (post (order s) j) r.rightmost
  -- what ends writes for position j is what the record tells
  pub listed : (s : List ℕ) (k j : ℕ) (b : List ℕ) (r : Record) → 1 ≤ j → j ≤ k → Accepted (U.sheet s k b)
      → U.post s k (post (order s) j) ≡ accepted r
      → (get_or (ends_after s k b) (2 * (j - 1)) 0 ≡ r.leftmost) × (get_or (ends_after s k b) (2 * (j - 1) + 1) 0 ≡ r.rightmost)
