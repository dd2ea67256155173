-- The cases with a star of docs/RULES.md (E1 to E9, E11 and E12 to E17), as one table.
use Rattle.std.specs.Prelude.{ℕ, ◌/◌, ◌%◌, ◌≡◌, length, take, set}
use mathlib.Core.List.{List, [], ◌∷◌, ◌++◌, map, flat_map, flatten}
use Rattle.placing.specs.declared.Record.{Record}
use Rattle.placing.specs.declared.Standing.TheVariants.{Waiting, OnContour, Covered}
use Rattle.block.specs.Block.{mark}
use Rattle.rings.specs.Boards.{order_t, lists_t, order_d, lists_d, lists_l}
use Rattle.lamp.specs.Given.{Reply, accepted, refused, check_reply}
use Rattle.unit.specs.Replies.{sheet_reply, buffer_after, ends_after, post_reply}

-- a block from its order, its lists and its sum
unfoldable pub bytes : List ℕ → List ℕ
bytes l = flat_map (λ w. w / 256 ∷ w % 256 ∷ []) l

unfoldable pub block_of : List ℕ → List (List ℕ) → ℕ → List ℕ
block_of order lists sum = mark ++ bytes (1 ∷ length order ∷ order ++ map length lists ++ flatten lists ++ sum ∷ [])

-- Board T, and its sum
unfoldable pub T : ℕ → List ℕ
T sum = block_of order_t lists_t sum

-- Board D, with an order and its sum
unfoldable pub D : List ℕ → ℕ → List ℕ
D order sum = block_of order lists_d sum

-- Board D with another list for post u, and its sum
unfoldable pub DList : ℕ → List ℕ → ℕ → List ℕ
DList u l sum = block_of order_d (set lists_d u l) sum

-- Board L, and its sum
unfoldable pub L : ℕ → List ℕ
L sum = block_of order_d lists_l sum

-- a row: a call, and what it must give. Of a call with a buffer, the buffer before and after
pub data Case : Type 0 where
  check : List ℕ → Reply ℕ → Case
  sheet : List ℕ → ℕ → List ℕ → Reply ℕ → List ℕ → Case
  ends : List ℕ → ℕ → List ℕ → Reply ℕ → List ℕ → Case
  post : List ℕ → ℕ → ℕ → Reply Record → Case

abbrev pub Gives : Case → Type 0
Gives (check s r) = check_reply s ≡ r
Gives (sheet s k b r after) = (sheet_reply s k b ≡ r) × (buffer_after s k b ≡ after)
Gives (ends s k b r after) = (sheet_reply s k b ≡ r) × (ends_after s k b ≡ after)
Gives (post s k u r) = post_reply s k u ≡ r

abbrev pub AllGive : List Case → Type 0
AllGive [] = Unit {0}
AllGive (c ∷ l) = Gives c × AllGive l

-- 17: L, where the run of post 3 goes over the end of its list: posts 3 and 0; the ends of all posts, with room and without
unfoldable pub starred_ends : List Case
starred_ends =
    post (L 287) 4 3 (accepted (record { x = 2; y = 2; standing = OnContour 0 2; leftmost = 0; rightmost = 2 }))
    ∷ post (L 287) 5 3 (accepted (record { x = 3; y = 2; standing = Covered 4; leftmost = 0; rightmost = 2 }))
    ∷ post (L 287) 5 0 (accepted (record { x = 0; y = 0; standing = OnContour 0 4; leftmost = 0; rightmost = 0 }))
    ∷ ends (L 287) 5 (9 ∷ 9 ∷ 9 ∷ 9 ∷ 9 ∷ 9 ∷ 9 ∷ 9 ∷ 9 ∷ 9 ∷ 9 ∷ []) (accepted 10) (0 ∷ 0 ∷ 1 ∷ 1 ∷ 0 ∷ 1 ∷ 0 ∷ 2 ∷ 0 ∷ 1 ∷ 9 ∷ [])
    ∷ ends (L 287) 4 (9 ∷ 9 ∷ 9 ∷ 9 ∷ 9 ∷ 9 ∷ 9 ∷ []) (refused 16 0) (9 ∷ 9 ∷ 9 ∷ 9 ∷ 9 ∷ 9 ∷ 9 ∷ [])
    ∷ []

unfoldable pub starred : List Case
starred =
    -- 1: T, stage 3
    sheet (T 236) 3 (9 ∷ 9 ∷ 9 ∷ 9 ∷ 9 ∷ 9 ∷ 9 ∷ []) (accepted 6) (0 ∷ 0 ∷ 2 ∷ 0 ∷ 1 ∷ 1 ∷ 9 ∷ [])
    -- 2, 3, 4: D, stages 3, 4 and 5
    ∷ sheet (D order_d 285) 3 (9 ∷ 9 ∷ 9 ∷ 9 ∷ 9 ∷ 9 ∷ 9 ∷ []) (accepted 6) (0 ∷ 0 ∷ 2 ∷ 0 ∷ 1 ∷ 1 ∷ 9 ∷ [])
    ∷ sheet (D order_d 285) 4 (9 ∷ 9 ∷ 9 ∷ 9 ∷ 9 ∷ 9 ∷ 9 ∷ 9 ∷ 9 ∷ []) (accepted 8) (0 ∷ 0 ∷ 4 ∷ 0 ∷ 2 ∷ 1 ∷ 2 ∷ 2 ∷ 9 ∷ [])
    ∷ sheet (D order_d 285) 5 (9 ∷ 9 ∷ 9 ∷ 9 ∷ 9 ∷ 9 ∷ 9 ∷ 9 ∷ 9 ∷ 9 ∷ 9 ∷ []) (accepted 10) (0 ∷ 0 ∷ 6 ∷ 0 ∷ 3 ∷ 1 ∷ 3 ∷ 2 ∷ 3 ∷ 3 ∷ 9 ∷ [])
    -- 5: D with two posts in each other's place has the same sum
    ∷ check (D (0 ∷ 1 ∷ 3 ∷ 2 ∷ 4 ∷ []) 285) (refused 13 3)
    -- 6: stage 2 and stage 6; stage 5 with 9 entries, and with 10
    ∷ sheet (D order_d 285) 2 (9 ∷ 9 ∷ 9 ∷ 9 ∷ 9 ∷ []) (refused 15 0) (9 ∷ 9 ∷ 9 ∷ 9 ∷ 9 ∷ [])
    ∷ post (D order_d 285) 2 0 (refused 15 0)
    ∷ sheet (D order_d 285) 6 (9 ∷ 9 ∷ 9 ∷ 9 ∷ 9 ∷ 9 ∷ 9 ∷ 9 ∷ 9 ∷ 9 ∷ 9 ∷ 9 ∷ []) (refused 15 0) (9 ∷ 9 ∷ 9 ∷ 9 ∷ 9 ∷ 9 ∷ 9 ∷ 9 ∷ 9 ∷ 9 ∷ 9 ∷ 9 ∷ [])
    ∷ post (D order_d 285) 6 0 (refused 15 0)
    ∷ sheet (D order_d 285) 5 (9 ∷ 9 ∷ 9 ∷ 9 ∷ 9 ∷ 9 ∷ 9 ∷ 9 ∷ 9 ∷ []) (refused 16 0) (9 ∷ 9 ∷ 9 ∷ 9 ∷ 9 ∷ 9 ∷ 9 ∷ 9 ∷ 9 ∷ [])
    ∷ sheet (D order_d 285) 5 (9 ∷ 9 ∷ 9 ∷ 9 ∷ 9 ∷ 9 ∷ 9 ∷ 9 ∷ 9 ∷ 9 ∷ []) (accepted 10) (0 ∷ 0 ∷ 6 ∷ 0 ∷ 3 ∷ 1 ∷ 3 ∷ 2 ∷ 3 ∷ 3 ∷ [])
    -- 7: D, post 2 at stages 3 and 4
    ∷ post (D order_d 285) 3 2 (accepted (record { x = 1; y = 1; standing = OnContour 0 1; leftmost = 0; rightmost = 1 }))
    ∷ post (D order_d 285) 4 2 (accepted (record { x = 2; y = 1; standing = Covered 3; leftmost = 0; rightmost = 1 }))
    -- 8: D, post 4 at stage 4; name 5
    ∷ post (D order_d 285) 4 4 (accepted (record { x = 0; y = 0; standing = Waiting; leftmost = 4; rightmost = 4 }))
    ∷ post (D order_d 285) 4 5 (refused 17 0)
    -- 9: T with sum 237; T one byte short
    ∷ check (T 237) (refused 6 0)
    ∷ check (take 32 (T 236)) (refused 5 0)
    -- 11: D with a name twice in its order, and a corrected sum
    ∷ check (D (0 ∷ 1 ∷ 2 ∷ 2 ∷ 4 ∷ []) 284) (refused 7 4)
    -- 12, 13, 14, 15: D with an entry in the list of post 2 that no post has for its name, that is 2, that repeats, that is not returned
    ∷ check (DList 2 (0 ∷ 1 ∷ 7 ∷ []) 289) (refused 9 2)
    ∷ check (DList 2 (0 ∷ 1 ∷ 2 ∷ []) 284) (refused 18 2)
    ∷ check (DList 2 (0 ∷ 1 ∷ 1 ∷ []) 283) (refused 19 2)
    ∷ check (DList 2 (0 ∷ 1 ∷ 4 ∷ []) 286) (refused 20 2)
    -- 16: two faults in one list, either one first
    ∷ check (DList 0 (1 ∷ 7 ∷ 1 ∷ 4 ∷ []) 288) (refused 9 0)
    ∷ check (DList 0 (1 ∷ 1 ∷ 7 ∷ 4 ∷ []) 288) (refused 19 0)
    ∷ starred_ends
