-- The three demands (docs/RULES.md: D1 to D3), of any unit with the three services.
use Rattle.std.specs.Prelude.{ℕ, ◌+◌, ◌*◌, ◌-◌, ◌≤◌, ◌<◌, ◌≡◌, ◌↔◌, List, ◌++◌, length, get_or, take, drop}
use Rattle.words.specs.Lists.{In}
use Rattle.words.specs.Positions.{post, position_of}
use Rattle.block.specs.Block.{posts, order, lists, Framed}
use Rattle.rings.specs.Plane.{Plane, Wire}
use Rattle.order.specs.Canonical.{Canonical}
use Rattle.placing.specs.Records.{record_of, entries_of}
use Rattle.placing.specs.declared.Record.{Record}
use Rattle.drawing.specs.Meeting.{Places, OnGrid, NoneMeet}
use Rattle.lamp.specs.Lamp.{check_rows, sheet_rows, post_rows}
use Rattle.lamp.specs.Given.{Reply, accepted, refused, check_reply, Fixed}
use Rattle.unit.specs.Replies.{stage_at, sheet_reply, buffer_after, post_reply}

-- A unit: what each service replies to everything that may be handed in, and the sheet buffer after a sheet call. A block is a list of bytes, a
-- buffer the list of its entries; stages and names are any whole numbers.
pub record Services : Type 0 where
  pub check : List ℕ → Reply ℕ
  pub sheet : List ℕ → ℕ → List ℕ → Reply ℕ
  pub buffer : List ℕ → ℕ → List ℕ → List ℕ
  pub post : List ℕ → ℕ → ℕ → Reply Record

-- the unit that docs/RULES.md describes
abbrev pub the_paper : Services
the_paper = record { check = check_reply; sheet = sheet_reply; buffer = buffer_after; post = post_reply }

abbrev pub Accepted : {A : Type 0} → Reply A → Type 0
Accepted {A} r = (a : A) × (r ≡ accepted a)

abbrev pub Refused : {A : Type 0} → Reply A → Type 0
Refused r = (number place : ℕ) × (r ≡ refused number place)

-- ---- D1. Whatever is handed in, the reply is the one that the table fixes (lamp/specs/Given.antt: Fixed).

pub record Demand1 (U : Services) : Type 0 where
  -- accepted, or refused with number and place of the first row that applies (L1 to L4)
  pub check : (s : List ℕ) → Fixed (check_rows s) s (posts s) (U.check s)
  pub sheet : (s : List ℕ) (k : ℕ) (b : List ℕ) → Fixed (sheet_rows s k (length b)) s (2 * k) (U.sheet s k b)
  pub post : (s : List ℕ) (k u : ℕ) → Fixed (post_rows s k u) s (record_of (lists s) (stage_at k s) u) (U.post s k u)
  -- after a refusal the buffer is as it was lent (L5)
  pub unchanged : (s : List ℕ) (k : ℕ) (b : List ℕ) → Refused (U.sheet s k b) → U.buffer s k b ≡ b

-- ---- D2. Sound: the rings are a triangulated plane board (G7), with v1, v2 and vn outside as G6 says, and the order is canonical (O5).

abbrev pub Sound : List ℕ → Type 0
Sound s = Plane (lists s) (post (order s) 1) (post (order s) 2) (post (order s) (posts s)) × Canonical (lists s) (order s)

pub record Demand2 (U : Services) : Type 0 where
  -- of the blocks that pass 1 to 6 the sound ones are accepted, and no others
  pub exactly : (s : List ℕ) → Framed s → Accepted (U.check s) ↔ Sound s
  -- and all the rest are refused
  pub others : (s : List ℕ) → ¬ (Framed s × Sound s) → Refused (U.check s)
  -- a sheet has the places of the shift method (S4 to S8), and from entry 2k on what the buffer had (R7); a record has its post's place and ends
  pub stands : (s : List ℕ) (k : ℕ) (b : List ℕ) → Accepted (U.sheet s k b) → U.buffer s k b ≡ entries_of (stage_at k s) ++ drop (2 * k) b
  pub recorded : (s : List ℕ) (k u : ℕ) → Accepted (U.post s k u) → U.post s k u ≡ accepted (record_of (lists s) (stage_at k s) u)

-- ---- D3. No stage can short.

-- where the posts stand at stage k; which are v1 to vk
abbrev pub places : List ℕ → ℕ → Places
places s k = record { x = (stage_at k s).x; y = (stage_at k s).y }

abbrev pub Placed : List ℕ → ℕ → ℕ → Type 0
Placed s k u = In u (take k (order s))

-- the post u from one stage to the next: as high as before, and 0, 1 or 2 columns further right
pub record Moves (old new : Places) (u : ℕ) : Type 0 where
  pub height : new.y u ≡ old.y u
  pub never_left : old.x u ≤ new.x u
  pub at_most_two : new.x u ≤ old.x u + 2

pub record Demand3 (U : Services) : Type 0 where
  -- at every stage of an accepted block each post has a point of the stage's grid to itself
  pub grid : (s : List ℕ) (n k : ℕ) → U.check s ≡ accepted n → 3 ≤ k → k ≤ n → OnGrid (places s k) (Placed s k) (2 * k - 4) (k - 2)
  -- two wires of the stage have no point in common but a post at which both end
  pub no_short : (s : List ℕ) (n k : ℕ) → U.check s ≡ accepted n → 3 ≤ k → k ≤ n → NoneMeet (places s k) (Wire (lists s) (take k (order s)))
  -- and this is how posts move from there to the stage that follows
  pub moves : (s : List ℕ) (n k : ℕ) → U.check s ≡ accepted n → 3 ≤ k → k < n → (u : ℕ) → Placed s k u → Moves (places s k) (places s (k + 1)) u

-- ---- The same of the sheets that the class wires from.

-- where a sheet's entries say that the posts stand: x then y of the post in position 1, then of that in position 2, and so on
abbrev pub on_sheet : List ℕ → List ℕ → Places
on_sheet vs b = record { x = λ u. get_or b (2 * (position_of vs u - 1)) 0; y = λ u. get_or b (2 * (position_of vs u - 1) + 1) 0 }

-- by the sheet b of stage k each post has a grid point to itself, and two wires have no point in common but a post at which both end
pub record Safe (s : List ℕ) (k : ℕ) (b : List ℕ) : Type 0 where
  pub grid : OnGrid (on_sheet (order s) b) (Placed s k) (2 * k - 4) (k - 2)
  pub no_short : NoneMeet (on_sheet (order s) b) (Wire (lists s) (take k (order s)))

-- every sheet that the unit writes is safe, and from one stage's sheet to the next posts move as they may
pub record SafeSheets (U : Services) : Type 0 where
  pub safe : (s : List ℕ) (k : ℕ) (b : List ℕ) → Accepted (U.sheet s k b) → Safe s k (U.buffer s k b)
  pub moving : (s : List ℕ) (k : ℕ) (b c : List ℕ) → Accepted (U.sheet s k b) → Accepted (U.sheet s (k + 1) c) → (u : ℕ) → Placed s k u
      → Moves (on_sheet (order s) (U.buffer s k b)) (on_sheet (order s) (U.buffer s (k + 1) c)) u
