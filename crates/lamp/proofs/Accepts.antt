-- No row of check's table applies exactly when the lists and the order pass the tests.
use Prim.Native.Nat.{ℕ, zero, suc, ◌+◌, ◌*◌, ◌-◌, ◌≤◌, ◌<◌}
use mathlib.Core.Path.{◌≡◌, refl, sym, ap, ◌∙◌, subst}
use mathlib.Core.Bool.{true, false, not}
use mathlib.Core.List.{List, [], ◌∷◌, ◌++◌, map, flat_map}
use native.Mathlib.Omega.{arith}
use native.Mathlib.Decide.{ℕ_discrete}
use lib.ListN.{length}
use lib.Dec.{ltb}
use borrow.Author.Tests.{eq-eqb, not-false, ltb-false}
use Rattle.words.specs.First.{numbers}
use Rattle.words.specs.Numbers.{sum_of}
use Rattle.words.specs.Positions.{post, earlier}
use Rattle.words.proofs.First.{some_none, some_false}
use Rattle.words.proofs.Numbers.{words_length}
use Rattle.words.proofs.Tests.{neither}
use Rattle.block.specs.Layout.{entries, lists_at}
use Rattle.block.specs.Block.{posts, order, degrees, lists_from, lists, Framed}
use Rattle.rings.specs.Rings.{ring_rule, triangle_rule, outer_rule}
use Rattle.order.specs.Order.{two_placed, one_run}
use Rattle.order.proofs.Sound.{Boarded, Passes}
use Rattle.lamp.specs.Lamp.{some_name, entry_fault, degree_fault, ring_fault, triangle_fault, entry_row, degree_row, high_row, itself_row}
use Rattle.lamp.specs.Lamp.{repeated_row, unreturned_row, triangle_row, outer_row, few_row, broken_row, header_rows, sum_rows, order_rows, degree_rows}
use Rattle.lamp.specs.Lamp.{ring_rows, triangle_rows, outer_rows, position_rows}
use Rattle.lamp.specs.Lamp.{fitting_rows, stage_rows, Row, block_rows, check_rows}
use Rattle.lamp.specs.Given.{accepted, check_reply, NoneApplies}
use Rattle.lamp.proofs.Given.{given_says, given_none, accepted_is, none_left, none_right, none_both}
use Rattle.lamp.proofs.Heads.{framed, framed_none}
use Rattle.lamp.proofs.Loads.{order_length, totalled}
use Rattle.lamp.proofs.RingRows.{rings_none, none_rings}

-- ---- the lists are as long as the degrees say

lengths_from : (s : List ℕ) (i : ℕ) (ds : List ℕ) → map length (lists_from s i ds) ≡ ds
unfolding lists_from
lengths_from s i [] = refl
lengths_from s i (d ∷ ds) = rw (words_length s d i, lengths_from s (i + 2 * d) ds) refl

count_from : (s : List ℕ) (i : ℕ) (ds : List ℕ) → length (lists_from s i ds) ≡ length ds
unfolding lists_from
count_from s i [] = refl
count_from s i (d ∷ ds) = ap suc (count_from s (i + 2 * d) ds)

module _ (s : List ℕ) where
  pub lists_degrees : map length (lists s) ≡ degrees s
  unfolding lists
  lists_degrees = lengths_from s (lists_at (posts s)) (degrees s)

  pub lists_count : length (lists s) ≡ posts s
  unfolding lists degrees
  lists_count = count_from s (lists_at (posts s)) (degrees s) ∙ words_length s (posts s) _

-- ---- the rule per position

at_positions : (s : List ℕ) (m k j : ℕ) → NoneApplies (flat_map position_rows (numbers k m)) s → k ≤ j → j < k + m
    → NoneApplies (position_rows j) s
unfolding flat_map numbers
at_positions s zero k j h a b = absurd (omega arith)
at_positions s (suc m) k j h a b = go (ℕ_discrete k j) (at_positions s m (suc k) j)
  where
    others : List Row
    others = flat_map position_rows (numbers (suc k) m)

    go : Dec (k ≡ j) → (NoneApplies others s → suc k ≤ j → j < suc k + m → NoneApplies (position_rows j) s) → NoneApplies (position_rows j) s
    go (yes e) rec = subst (λ (i : ℕ). NoneApplies (position_rows i) s) e (none_left (position_rows k) others s h)
    go (no n) rec = rec (none_right (position_rows k) others s h) (omega arith) (omega arith)

all_positions : (s : List ℕ) (m k : ℕ) → ((j : ℕ) → k ≤ j → j < k + m → NoneApplies (position_rows j) s)
    → NoneApplies (flat_map position_rows (numbers k m)) s
unfolding flat_map numbers
all_positions s zero k f = tt
all_positions s (suc m) k f =
    none_both (position_rows k) (flat_map position_rows (numbers (suc k) m)) s (f k (omega arith) (omega arith))
    (all_positions s m (suc k) (λ j a b. f j (omega arith) (omega arith)))

-- ---- the board

module _ (s : List ℕ) where
  abbrev G : List (List ℕ)
  G = lists s

  abbrev vs : List ℕ
  vs = order s

  pub none_boarded : NoneApplies block_rows s → Boarded (lists s) (order s)
  unfolding block_rows
  none_boarded h =
      let n = lists_count s in
      let entry : entry_row.when s ≡ false = search in
      let degree : degree_row.when s ≡ false = search in
      let high : high_row.when s ≡ false = search in
      let itself : itself_row.when s ≡ false = search in
      let repeated : repeated_row.when s ≡ false = search in
      let unreturned : unreturned_row.when s ≡ false = search in
      let ring = none_rings s (high, (itself, (repeated, (unreturned, tt)))) in
      let triangle : triangle_row.when s ≡ false = search in
      let outer : outer_row.when s ≡ false = search in
      let d = neither (some_name degree_fault s) _ degree in
      record {
        all = order_length s ∙ sym n;
        entries = λ k a b. rw n (some_none (entry_fault s) 1 (posts s) entry k a (omega (arith, n)));
        degrees = λ u a. rw (n, lists_degrees s) (some_none (degree_fault s) 0 (posts s) d.0 u (omega arith) (omega (arith, n)));
        total = rw (lists_degrees s, n) (totalled s (degree, tt));
        rings = λ u a. not-false (ring_rule G u) (some_none (ring_fault s) 0 (posts s) ring u (omega arith) (omega (arith, n)));
        triangles = λ u a. not-false (triangle_rule G u) (some_none (triangle_fault s) 0 (posts s) triangle u (omega arith) (omega (arith, n)));
        outer = rw n (not-false (outer_rule G (post vs 1) (post vs 2) (post vs (posts s))) outer);
      }

  pub none_framed : NoneApplies block_rows s → Framed s
  unfolding block_rows
  none_framed h = framed s (none_left (header_rows ++ sum_rows) (order_rows ++ degree_rows ++ ring_rows ++ triangle_rows ++ outer_rows) s h)

  -- of an accepted block: none applies, and its n is answered
  pub accepted_none : (n : ℕ) → check_reply s ≡ accepted n → NoneApplies (check_rows s) s
  unfolding check_reply
  accepted_none n e = given_says s posts (check_rows s) n e

  pub accepted_posts : (n : ℕ) → check_reply s ≡ accepted n → n ≡ posts s
  unfolding check_reply
  accepted_posts n e = accepted_is s posts (check_rows s) n e

  pub accepted_framed : (n : ℕ) → check_reply s ≡ accepted n → Framed s
  unfolding check_rows
  accepted_framed n e = none_framed (none_left block_rows (fitting_rows s) s (accepted_none n e))

  -- and where none applies it is accepted
  pub none_accepted : NoneApplies (check_rows s) s → check_reply s ≡ accepted (posts s)
  unfolding check_reply
  none_accepted h = given_none s posts (check_rows s) h

  -- a stage that passes its row is one of the block's
  pub stage_range : (k : ℕ) → NoneApplies (stage_rows k) s → (3 ≤ k) × (k ≤ posts s)
  stage_range k h =
      let t = neither (ltb k 3) (ltb (posts s) k) h.0 in
      (ltb-false k 3 t.0, ltb-false (posts s) k t.1)

  -- what 12 and 13 say where they pass at position k
  pub none_position : (k : ℕ) → NoneApplies (position_rows k) s
      → (two_placed G (earlier vs k) (post vs k) ≡ true) × (one_run G (earlier vs k) (post vs k) ≡ true)
  unfolding position_rows
  none_position k h =
      let few : (few_row k).when s ≡ false = search in
      let broken : (broken_row k).when s ≡ false = search in
      (not-false (two_placed G (earlier vs k) (post vs k)) few, not-false (one_run G (earlier vs k) (post vs k)) broken)

  -- the rule per position passes too
  pub both_passes : NoneApplies block_rows s → NoneApplies (fitting_rows s) s → Passes (lists s) (order s)
  both_passes h r =
      let n = lists_count s in
      let q = at_positions s (posts s - 2) 3 in
      record {
        board = none_boarded h;
        two = λ k a b. (none_position k (q k r a (omega (arith, n)))).0;
        run = λ k a b. (none_position k (q k r a (omega (arith, n)))).1;
      }

  pub none_passes : NoneApplies (check_rows s) s → Passes (lists s) (order s)
  unfolding check_rows
  none_passes h = both_passes (none_left block_rows (fitting_rows s) s h) (none_right block_rows (fitting_rows s) s h)

  module _ (P : Passes (lists s) (order s)) where
    n_is : length (lists s) ≡ posts s
    n_is = lists_count s

    abbrev B : Boarded (lists s) (order s)
    B = P.board

    no_entry : entry_row.when s ≡ false
    no_entry = some_false (entry_fault s) 1 (posts s) (λ k a b. rw n_is at (B.entries k a (omega (arith, n_is))))

    no_degree : degree_row.when s ≡ false
    no_degree =
        let each = some_false (degree_fault s) 0 (posts s) (λ u a b. rw (n_is, lists_degrees s) at (B.degrees u (omega (arith, n_is)))) in
        let total : sum_of (degrees s) ≡ entries (posts s) = rw (lists_degrees s, n_is) at B.total in
        rw (each, eq-eqb (sum_of (degrees s)) (entries (posts s)) total) refl

    no_ring : NoneApplies ring_rows s
    no_ring = rings_none s (some_false (ring_fault s) 0 (posts s) (λ u a b. ap not (B.rings u (omega (arith, n_is)))))

    no_triangle : triangle_row.when s ≡ false
    no_triangle = some_false (triangle_fault s) 0 (posts s) (λ u a b. ap not (B.triangles u (omega (arith, n_is))))

    no_outer : outer_row.when s ≡ false
    no_outer = ap not (rw n_is at B.outer)

    position_none : (k : ℕ) → 3 ≤ k → k ≤ posts s → NoneApplies (position_rows k) s
    unfolding position_rows
    position_none k a b = (ap not (P.two k a (omega (arith, n_is))), (ap not (P.run k a (omega (arith, n_is))), tt))

    pub passes_fitting : 3 ≤ posts s → NoneApplies (fitting_rows s) s
    passes_fitting least = all_positions s (posts s - 2) 3 (λ j a b. position_none j a (omega arith))

    block_none : Framed s → NoneApplies block_rows s
    unfolding block_rows
    block_none F =
        none_both (header_rows ++ sum_rows) (order_rows ++ degree_rows ++ ring_rows ++ triangle_rows ++ outer_rows) s (framed_none s F)
        (no_entry, (no_degree, none_both ring_rows (triangle_rows ++ outer_rows) s no_ring (no_triangle, (no_outer, tt))))

    pub passes_none : Framed s → NoneApplies (check_rows s) s
    unfolding check_rows
    passes_none F = none_both block_rows (fitting_rows s) s (block_none F) (passes_fitting F.posts_least)
