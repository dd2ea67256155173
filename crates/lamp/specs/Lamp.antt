-- Lamp red: the table of refusals. A row has its number, when it applies to a block, and the place it gives. The numbers are in Refusals.antt.
use Rattle.std.specs.Prelude.{ℕ, ◌*◌, ◌-◌, Bool, not, ◌&&◌, ◌||◌, ltb, leb, eqb, length}
use mathlib.Core.List.{List, [], ◌∷◌, ◌++◌, flat_map}
use Rattle.words.specs.Numbers.{sum_of}
use Rattle.words.specs.First.{numbers, first, some}
use Rattle.words.specs.Positions.{post, earlier}
use Rattle.block.specs.Layout.{limit, entries, size}
use Rattle.block.specs.Block.{version, posts, order, degrees, lists, stated_sum, earlier_sum, marked, bad_entry, bad_degree}
use Rattle.rings.specs.Rings.{ring_rule, triangle_rule, outer_rule}
use Rattle.rings.specs.Faults.{is_high, is_itself, is_repeated, is_unreturned, first_bad}
use Rattle.order.specs.Order.{two_placed, one_run}
use Rattle.lamp.specs.Refusals.{number_of, place_of}
use Rattle.lamp.specs.declared.Refusal.{Refusal}
use Rattle.lamp.specs.declared.Refusal.TheVariants.{Short, Mark, Version, Posts, Length, Sum, Order, Degrees, High, Itself}
use Rattle.lamp.specs.declared.Refusal.TheVariants.{Repeated, Unreturned, Triangle, Outer, Few, Broken, Stage, Room, Name}

pub record Row : Type 0 where
  pub number : ℕ
  pub when : List ℕ → Bool
  pub place : List ℕ → ℕ

-- the row of a refusal that needs no place, and of one with a place
abbrev pub row : Refusal → (List ℕ → Bool) → Row
row r when = record { number = number_of r; when = when; place = λ s. place_of r }

abbrev pub row_at : (ℕ → Refusal) → (List ℕ → ℕ) → (List ℕ → Bool) → Row
row_at r place when = record { number = number_of (r 0); when = when; place = λ s. place_of (r (place s)) }

-- the first position at fault, of positions 1 to n; the lowest name at fault, of names 0 to n-1: n if there is none
abbrev pub position : (List ℕ → ℕ → Bool) → List ℕ → ℕ
position fault s = first 1 (posts s) (fault s)

abbrev pub name : (List ℕ → ℕ → Bool) → List ℕ → ℕ
name fault s = first 0 (posts s) (fault s)

abbrev pub some_position : (List ℕ → ℕ → Bool) → List ℕ → Bool
some_position fault s = some 1 (posts s) (fault s)

abbrev pub some_name : (List ℕ → ℕ → Bool) → List ℕ → Bool
some_name fault s = some 0 (posts s) (fault s)

-- steps 7 to 10: what is at fault in position k, at name u
abbrev pub entry_fault : List ℕ → ℕ → Bool
entry_fault s = bad_entry (posts s) (order s)

abbrev pub degree_fault : List ℕ → ℕ → Bool
degree_fault s = bad_degree (posts s) (degrees s)

abbrev pub ring_fault : List ℕ → ℕ → Bool
ring_fault s = let G = lists s in λ u. not (ring_rule G u)

abbrev pub triangle_fault : List ℕ → ℕ → Bool
triangle_fault s = let G = lists s in λ u. not (triangle_rule G u)

-- ---- the rows

abbrev pub short_row : Row
short_row = row Short (λ s. ltb (length s) 7)

abbrev pub mark_row : Row
mark_row = row Mark (λ s. not (marked s))

abbrev pub version_row : Row
version_row = row Version (λ s. not (eqb (version s) 1))

abbrev pub posts_row : Row
posts_row = row Posts (λ s. ltb (posts s) 3 || ltb limit (posts s))

abbrev pub length_row : Row
length_row = row Length (λ s. not (eqb (length s) (size (posts s))))

abbrev pub sum_row : Row
sum_row = row Sum (λ s. not (eqb (stated_sum s) (earlier_sum s)))

abbrev pub entry_row : Row
entry_row = row_at Order (position entry_fault) (some_position entry_fault)

abbrev pub degree_row : Row
degree_row = row_at Degrees (name degree_fault) (λ s. some_name degree_fault s || not (eqb (sum_of (degrees s)) (entries (posts s))))

-- of step 9: the first bad entry in the lowest list that breaks the ring rule has this fault. Its place is that list's name
abbrev pub ring_row : (ℕ → Refusal) → (List (List ℕ) → ℕ → ℕ → Bool) → Row
ring_row r fault =
    row_at r (name ring_fault) (λ s. let G = lists s in let u = name ring_fault s in some_name ring_fault s && fault G u (first_bad G u))

abbrev pub high_row : Row
high_row = ring_row High is_high

abbrev pub itself_row : Row
itself_row = ring_row Itself is_itself

abbrev pub repeated_row : Row
repeated_row = ring_row Repeated is_repeated

abbrev pub unreturned_row : Row
unreturned_row = ring_row Unreturned is_unreturned

abbrev pub triangle_row : Row
triangle_row = row_at Triangle (name triangle_fault) (some_name triangle_fault)

abbrev pub outer_row : Row
outer_row = row Outer (λ s. let vs = order s in not (outer_rule (lists s) (post vs 1) (post vs 2) (post vs (posts s))))

-- at position k
abbrev pub few_row : ℕ → Row
few_row k = row_at Few (λ s. k) (λ s. not (two_placed (lists s) (earlier (order s) k) (post (order s) k)))

abbrev pub broken_row : ℕ → Row
broken_row k = row_at Broken (λ s. k) (λ s. not (one_run (lists s) (earlier (order s) k) (post (order s) k)))

-- for a stage k; for a stage k and a buffer with room for so many entries; for a name u
abbrev pub stage_row : ℕ → Row
stage_row k = row Stage (λ s. ltb k 3 || ltb (posts s) k)

abbrev pub room_row : ℕ → ℕ → Row
room_row k room = row Room (λ s. ltb room (2 * k))

abbrev pub name_row : ℕ → Row
name_row u = row Name (λ s. leb (posts s) u)

-- ---- the groups

abbrev pub opening_rows : List Row
opening_rows = short_row ∷ mark_row ∷ version_row ∷ []

abbrev pub size_rows : List Row
size_rows = posts_row ∷ length_row ∷ []

abbrev pub header_rows : List Row
header_rows = opening_rows ++ size_rows

abbrev pub sum_rows : List Row
sum_rows = sum_row ∷ []

abbrev pub order_rows : List Row
order_rows = entry_row ∷ []

abbrev pub degree_rows : List Row
degree_rows = degree_row ∷ []

abbrev pub ring_rows : List Row
ring_rows = high_row ∷ itself_row ∷ repeated_row ∷ unreturned_row ∷ []

abbrev pub triangle_rows : List Row
triangle_rows = triangle_row ∷ []

abbrev pub outer_rows : List Row
outer_rows = outer_row ∷ []

-- the rule per position: at position k (14 is retired: Retired.antt); and at each position from 3 to n, one after the other (L3)
unfoldable pub position_rows : ℕ → List Row
position_rows k = few_row k ∷ broken_row k ∷ []

abbrev pub fitting_rows : List ℕ → List Row
fitting_rows s = flat_map position_rows (numbers 3 (posts s - 2))

-- for sheet and post
abbrev pub stage_rows : ℕ → List Row
stage_rows k = stage_row k ∷ []

abbrev pub room_rows : ℕ → ℕ → List Row
room_rows k room = room_row k room ∷ []

abbrev pub name_rows : ℕ → List Row
name_rows u = name_row u ∷ []

-- ---- the services' tables

-- what check asks before the rule per position, with these rows for step 9
abbrev pub block_rows_with : List Row → List Row
block_rows_with rings = header_rows ++ sum_rows ++ order_rows ++ degree_rows ++ rings ++ triangle_rows ++ outer_rows

unfoldable pub block_rows : List Row
block_rows = block_rows_with ring_rows

unfoldable pub check_rows : List ℕ → List Row
check_rows s = block_rows ++ fitting_rows s

unfoldable pub sheet_rows : List ℕ → ℕ → ℕ → List Row
sheet_rows s k room = check_rows s ++ (stage_rows k ++ room_rows k room)

unfoldable pub post_rows : List ℕ → ℕ → ℕ → List Row
post_rows s k u = check_rows s ++ (stage_rows k ++ name_rows u)
