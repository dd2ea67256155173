-- The sizes of what is told: a refusal's number is from 1 to 65535, and its place is at most the limit, whatever the list of numbers. Rows that
-- give a place stand behind the row that bounds n.
use Prim.Native.Nat.{ℕ, zero, suc, ◌+◌, ◌-◌, ◌≤◌, ◌<◌}
use mathlib.Core.Path.{◌≡◌, refl, subst}
use mathlib.Core.Bool.{Bool, true, false}
use mathlib.Core.List.{List, [], ◌∷◌, ◌++◌, flat_map, append-nil}
use native.Mathlib.Omega.{arith}
use borrow.Author.Tests.{ltb-true}
use Rattle.words.specs.First.{numbers, first, some}
use Rattle.words.proofs.First.{first_is}
use Rattle.block.specs.Layout.{limit}
use Rattle.block.specs.Block.{posts}
use Rattle.lamp.specs.Lamp.{Row, entry_fault, degree_fault, ring_fault, triangle_fault, opening_rows, size_rows, header_rows, sum_rows, order_rows, degree_rows}
use Rattle.lamp.specs.Lamp.{ring_rows, triangle_rows, outer_rows, position_rows, fitting_rows, block_rows, check_rows}
use Rattle.lamp.specs.Given.{Reply, accepted, refused, given, NoneApplies}
use Rattle.lamp.proofs.Given.{given_end, given_skip, given_stop, none_right}
use Rattle.lamp.proofs.Heads.{size_headed}

-- a refusal's number, and a place of at most m
abbrev pub Sized : ℕ → ℕ → ℕ → Type 0
Sized m number place = (0 < number) × (number < 65536) × (place ≤ m)

-- of a reply, if it is a refusal; of rows, where they apply
abbrev pub SizedReply : {A : Type 0} → ℕ → Reply A → Type 0
SizedReply m (accepted a) = Unit {0}
SizedReply m (refused number place) = Sized m number place

abbrev pub SizedRows : ℕ → List ℕ → List Row → Type 0
SizedRows m s [] = Unit {0}
SizedRows m s (r ∷ rows) = (r.when s ≡ true → Sized m r.number (r.place s)) × SizedRows m s rows

pub sized_both : (m : ℕ) (s : List ℕ) (a b : List Row) → SizedRows m s a → SizedRows m s b → SizedRows m s (a ++ b)
sized_both m s [] b h k = k
sized_both m s (r ∷ a) b h k = (h.0, sized_both m s a b h.1 k)

module _ {A : Type 0} (s : List ℕ) (answer : List ℕ → A) (m : ℕ) where
  -- the first rows are sized, and where they pass so is what the rest gives
  sized_past : (rows rest : List Row) → SizedRows m s rows → (NoneApplies rows s → SizedReply m (given rest s answer))
      → SizedReply m (given (rows ++ rest) s answer)
  sized_past [] rest h f = f tt
  sized_past (r ∷ rows) rest h f = go (r.when s) refl (sized_past rows rest h.1)
    where
      go : (b : Bool) → r.when s ≡ b
          → ((NoneApplies rows s → SizedReply m (given rest s answer)) → SizedReply m (given (rows ++ rest) s answer))
          → SizedReply m (given (r ∷ rows ++ rest) s answer)
      go true e k = rw (given_stop s answer r (rows ++ rest) e) (h.0 e)
      go false e k = rw (given_skip s answer r (rows ++ rest) e) (k (λ none. f (e, none)))

  sized_given : (rows : List Row) → SizedRows m s rows → SizedReply m (given rows s answer)
  sized_given rows h =
      subst (λ (l : List Row). SizedReply m (given l s answer)) (append-nil rows) (sized_past rows [] h (λ none. rw (given_end s answer) tt))

-- ---- the rows

-- those between the header's and the rule per position
abbrev content_rows : List Row
content_rows = sum_rows ++ order_rows ++ degree_rows ++ ring_rows ++ triangle_rows ++ outer_rows

module _ (s : List ℕ) where
  -- the first name at fault is a name or n; the first position at fault, where there is one, a position up to n
  a_name : (p : ℕ → Bool) → first 0 (posts s) p ≤ posts s
  a_name p = omega (arith, (first_is p (posts s) 0).to)

  a_position : (p : ℕ → Bool) → some 1 (posts s) p ≡ true → first 1 (posts s) p ≤ posts s
  unfolding some
  a_position p e = omega (arith, ltb-true (first 1 (posts s) p) (1 + posts s) e)

  abbrev n : ℕ
  n = posts s

  header_sized : (m : ℕ) → SizedRows m s header_rows
  header_sized m = ((λ e. omega arith), ((λ e. omega arith), ((λ e. omega arith), ((λ e. omega arith), ((λ e. omega arith), tt)))))

  rings_sized : SizedRows n s ring_rows
  rings_sized =
      let low = a_name (ring_fault s) in
      ((λ e. omega arith), ((λ e. omega arith), ((λ e. omega arith), ((λ e. omega arith), tt))))

  -- sum, order, degrees; rings; triangles, outer triangle
  content_sized : SizedRows n s content_rows
  content_sized = (
    (λ e. omega arith),
    (
      (λ e. omega (arith, a_position (entry_fault s) e)),
      (
        (λ e. omega (arith, a_name (degree_fault s))),
        sized_both n s ring_rows (triangle_rows ++ outer_rows) rings_sized ((λ e. omega (arith, a_name (triangle_fault s))), ((λ e. omega arith), tt)),
      ),
    ),
  )

  positions_sized : (m k : ℕ) → k + m ≤ n + 1 → SizedRows n s (flat_map position_rows (numbers k m))
  unfolding flat_map numbers position_rows
  positions_sized zero k h = tt
  positions_sized (suc m) k h = ((λ e. omega arith), ((λ e. omega arith), positions_sized m (suc k) (omega arith)))

  -- where the header passes, n is from 3 to the limit
  in_range : NoneApplies header_rows s → (3 ≤ n) × (n ≤ limit)
  in_range h = let H = size_headed s n refl (none_right opening_rows size_rows s h) in (H.least, H.most)

  wider : (l m : ℕ) → l ≤ m → (rows : List Row) → SizedRows l s rows → SizedRows m s rows
  wider l m i [] h = tt
  wider l m i (r ∷ rows) h = ((λ e. omega (arith, h.0 e)), wider l m i rows h.1)

  -- check's rows, and after them any whose places are up to n
  pub told_sized : {A : Type 0} (answer : List ℕ → A) (after : List Row) → SizedRows (posts s) s after
      → SizedReply limit (given (check_rows s ++ after) s answer)
  unfolding check_rows block_rows
  told_sized answer after h =
      let checks = content_rows ++ fitting_rows s in
      sized_past s answer limit header_rows (checks ++ after) (header_sized limit) (λ none.
      let r = in_range none in
      let c = sized_both n s content_rows (fitting_rows s) content_sized (positions_sized (n - 2) 3 (omega arith)) in
      sized_given s answer limit (checks ++ after) (wider n limit r.1 (checks ++ after) (sized_both n s checks after c h)))

  -- check's own
  pub check_sized : {A : Type 0} (answer : List ℕ → A) → SizedReply limit (given (check_rows s) s answer)
  check_sized answer =
      subst (λ (l : List Row). SizedReply limit (given l s answer)) (append-nil (check_rows s)) (told_sized answer [] tt)
