-- How the services hold a block whose header is right: its order, its lists, the positions by name, and the runs, each at the front of a longer
-- array.
use Rattle.std.specs.Prelude.{ℕ, ◌+◌, ◌-◌, ◌≤◌, ◌<◌, ◌≡◌, true, false, length, take}
use mathlib.Core.List.{List, ◌++◌, flat_map}
use Rattle.words.specs.First.{numbers}
use Rattle.words.specs.Positions.{post, earlier}
use Rattle.block.specs.Layout.{limit, entries}
use Rattle.block.specs.Block.{posts, order, lists, bad_entry, Headed}
use Rattle.rings.specs.Rings.{ring_rule}
use Rattle.rings.specs.Held.{held, Cuts}
use Rattle.rings.specs.declared.ListFault.{ListFault}
use Rattle.order.specs.Ranked.{Ranked, run_found, RunsBefore}
use Rattle.order.specs.declared.Run.{Run}
use Rattle.lamp.specs.Lamp.{Row, order_rows, degree_rows, ring_rows, triangle_rows, outer_rows, position_rows}
use Rattle.lamp.specs.declared.Refusal.{Refusal}
use Rattle.lamp.specs.declared.Refusal.TheVariants.{High, Itself, Repeated, Unreturned}

-- the rule per position, from position k on
abbrev pub rows_from : ℕ → ℕ → List Row
rows_from k n = flat_map position_rows (numbers k (n + 1 - k))

-- the groups that are tried together: in loading, over the loaded lists, and all that is asked once they are loaded
abbrev pub load_rows : List Row
load_rows = order_rows ++ degree_rows

abbrev pub board_rows : List Row
board_rows = ring_rows ++ triangle_rows ++ outer_rows

abbrev pub loaded_rows : List ℕ → List Row
loaded_rows s = board_rows ++ rows_from 3 (posts s)

-- the refusal for a list's fault, which told_of gives its number and place
abbrev pub refusal_for : ListFault → Refusal
refusal_for (ListFault.High u) = High u
refusal_for (ListFault.Itself u) = Itself u
refusal_for (ListFault.Repeated u) = Repeated u
refusal_for (ListFault.Unreturned u) = Unreturned u

-- what is found in position k: the run of its post
abbrev pub run_here : ℕ → List ℕ → Run
run_here k s = run_found (lists s) (earlier (order s) k) (post (order s) k)

-- there is room for the longest block
pub record Wide (vs at ents : List ℕ) : Type 0 where
  pub names : limit ≤ length vs
  pub places : limit + 1 ≤ length at
  pub all : entries limit ≤ length ents

-- and for what is found of its order
pub record WideOrder (rank : List ℕ) (runs : List Run) : Type 0 where
  pub names : limit ≤ length rank
  pub known : limit ≤ length runs

-- the arrays hold the block's order and lists
pub record Loaded (s : List ℕ) (n : ℕ) (vs at ents : List ℕ) : Type 0 where
  pub orders : take n vs ≡ order s
  pub rings : held (take (n + 1) at) (take (entries n) ents) ≡ lists s
  pub cuts : Cuts (take (n + 1) at) (take (entries n) ents)

-- the same in arrays that are just so long
pub record Trimmed (s vs at ents : List ℕ) : Type 0 where
  pub headed : Headed s (length vs)
  pub orders : vs ≡ order s
  pub rings : held at ents ≡ lists s
  pub cuts : Cuts at ents
  pub places : length at ≡ length vs + 1

-- the order's entries are names, each once
abbrev pub Entered : List ℕ → Type 0
Entered s = (k : ℕ) → 1 ≤ k → k ≤ posts s → bad_entry (posts s) (order s) k ≡ false

-- and the ring rule holds
pub record Ringed (s : List ℕ) : Type 0 where
  pub entries_fine : Entered s
  pub rings_fine : (u : ℕ) → u < posts s → ring_rule (lists s) u ≡ true

-- the positions by name, and the run of each position from 3 on
pub record Ordered (s rank : List ℕ) (runs : List Run) : Type 0 where
  pub ranked : Ranked (order s) rank
  pub known : RunsBefore (lists s) (order s) runs (posts s + 1)

-- a checked block's header, order, lists, positions and runs
pub record Checked (s : List ℕ) (n : ℕ) (vs at ents rank : List ℕ) (runs : List Run) : Type 0 where
  pub headed : Headed s n
  pub loaded : Loaded s n vs at ents
  pub ordered : Ordered s rank runs
