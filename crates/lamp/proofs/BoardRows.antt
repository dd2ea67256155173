-- The rows over loaded lists, by what the code found; the rows of positions one after the other.
use Prim.Native.Nat.{ℕ, suc, ◌+◌, ◌-◌, ◌≤◌, ◌<◌}
use mathlib.Core.Path.{◌≡◌, refl, sym, ap, ◌∙◌, subst⁻¹}
use mathlib.Core.Bool.{Bool, true, false, not, cond}
use mathlib.Core.List.{List, [], ◌∷◌, ◌++◌, flat_map}
use native.Mathlib.Omega.{arith}
use native.Mathlib.Numerals.{add-one}
use lib.ListN.{length, get_or}
use borrow.Author.Tests.{not-false}
use Rattle.words.specs.First.{numbers, first_if}
use Rattle.words.specs.Positions.{post, earlier}
use Rattle.words.proofs.First.{first_if_some, first_if_none, some_none}
use Rattle.block.specs.Block.{posts, order, lists}
use Rattle.rings.specs.Rings.{ring_rule, triangle_rule, outer_rule}
use Rattle.rings.specs.Found.{fault_of}
use Rattle.rings.specs.Held.{held}
use Rattle.rings.specs.declared.ListFault.{ListFault}
use Rattle.order.specs.Order.{two_placed, one_run, run}
use Rattle.rings.proofs.Held.{held_length}
use Rattle.order.specs.Ranked.{RankedBelow, Ranked, Listed, fit_of}
use Rattle.order.specs.declared.Run.{Run}
use Rattle.order.specs.declared.Misfit.{Misfit}
use Rattle.order.specs.declared.Misfit.TheVariants.{Few as FewFound, Broken as BrokenFound}
use Rattle.order.proofs.Sound.{position_says}
use Rattle.lamp.specs.Lamp.{ring_fault, triangle_fault, triangle_row, outer_row, few_row, broken_row, ring_rows, triangle_rows}
use Rattle.lamp.specs.Lamp.{outer_rows, position_rows, check_rows, block_rows, header_rows, sum_rows}
use Rattle.std.proofs.Common.{Result, Ok, Err, Option, Some, None}
use Rattle.lamp.specs.Given.{refused, reply_of, given, nothing, tried, check_reply, NoneApplies}
use Rattle.lamp.specs.Loaded.{load_rows, loaded_rows, rows_from, run_here, Trimmed, Entered, Ringed}
use Rattle.lamp.specs.declared.Refusal.{Refusal}
use Rattle.lamp.specs.declared.Refusal.TheVariants.{Triangle, Outer, Few, Broken}
use Rattle.lamp.proofs.Given.{given_first, given_none}
use Rattle.lamp.specs.Refusals.{number_of, place_of}
use Rattle.lamp.proofs.Tried.{stops, goes_on, found, not_found}
use Rattle.lamp.proofs.Accepts.{lists_count}
use Rattle.lamp.proofs.RingRows.{ring_answer, none_rings, fault_reply}

-- what the code answers for what the rule found in position k
abbrev pub answer_at : ℕ → Result Run Misfit → Result Run Refusal
answer_at k (Ok run) = Ok run
answer_at k (Err FewFound) = Err (Few k)
answer_at k (Err BrokenFound) = Err (Broken k)

module _ (s vs at ents : List ℕ) (L : Trimmed s vs at ents) where
  n_is : length vs ≡ posts s
  n_is = L.headed.is

  -- ---- the rings

  pub rings_found : (f : Result (Unit {0}) ListFault) → f ≡ fault_of (held at ents) → reply_of (ring_answer f) ≡ tried ring_rows s
  rings_found f e = ap (λ (g : Result (Unit {0}) ListFault). reply_of (ring_answer g)) (e ∙ ap fault_of L.rings) ∙ fault_reply s (lists_count s)

  -- ---- the triangles

  -- the first name that breaks the rule, of the block's
  triangle_as : first_if 0 (length at - 1) (λ z. not (triangle_rule (held at ents) z)) ≡ first_if 0 (posts s) (triangle_fault s)
  triangle_as =
      let m : length at - 1 ≡ posts s = omega (arith, L.places, n_is) in
      rw (m, L.rings) refl

  module _ (r : Option ℕ) (er : r ≡ first_if 0 (length at - 1) (λ z. not (triangle_rule (held at ents) z))) where
    pub triangle_bad : (u : ℕ) → r ≡ Some u → reply_of (Err (Triangle u)) ≡ tried triangle_rows s
    triangle_bad u e =
        let at = first_if_some _ 0 (posts s) u (sym e ∙ er ∙ triangle_as) in
        ap (λ (z : ℕ). reply_of (Err (Triangle z))) at.0
        ∙ sym (given_first s nothing [] triangle_row [] tt (found (triangle_fault s) 0 (posts s) u at.0 at.1))

    pub triangles_pass : r ≡ None → NoneApplies triangle_rows s
    triangles_pass e =
        let end = first_if_none _ 0 (posts s) (sym e ∙ er ∙ triangle_as) in
        (not_found (triangle_fault s) 0 (posts s) (0 + posts s) end (omega arith), tt)

  -- ---- the outer triangle

  module _ (r : Bool) (er : r ≡ outer_rule (held at ents) (get_or vs 0 0) (get_or vs 1 0) (get_or vs (length vs - 1) 0)) where
    outer_is : r ≡ outer_rule (lists s) (post (order s) 1) (post (order s) 2) (post (order s) (posts s))
    outer_is = rw (← L.orders, ← L.rings, ← n_is) er

    pub outer_bad : r ≡ false → reply_of (Err Outer) ≡ tried outer_rows s
    outer_bad f = sym (given_first s nothing [] outer_row [] tt (rw (← outer_is, f) refl))

    pub outer_passes : r ≡ true → NoneApplies outer_rows s
    outer_passes f = (rw (← outer_is, f) refl, tt)

  -- ---- position k, by what the rule found there

  module _ (k : ℕ) (f : Result Run Misfit) (ef : f ≡ fit_of (held at ents) (earlier vs k) (post vs k)) where
    abbrev a : Bool
    a = two_placed (lists s) (earlier (order s) k) (post (order s) k)

    abbrev b : Bool
    b = one_run (lists s) (earlier (order s) k) (post (order s) k)

    f_is : f ≡ cond a (cond b (Ok (run_here k s)) (Err BrokenFound)) (Err FewFound)
    f_is = rw (← L.orders, ← L.rings) ef

    pub position_found : reply_of (answer_at k f) ≡ given (position_rows k) s (run_here k)
    unfolding position_rows
    position_found = ap (λ (g : Result Run Misfit). reply_of (answer_at k g)) f_is ∙ go a b refl refl
      where
        go : (x y : Bool) → a ≡ x → b ≡ y
            → reply_of (answer_at k (cond x (cond y (Ok (run_here k s)) (Err BrokenFound)) (Err FewFound))) ≡ given (position_rows k) s (run_here k)
        go false y p q = sym (given_first s (run_here k) [] (few_row k) (broken_row k ∷ []) tt (ap not p))
        go true false p q = sym (given_first s (run_here k) (few_row k ∷ []) (broken_row k) [] (ap not p, tt) (ap not q))
        go true true p q = sym (given_none s (run_here k) (few_row k ∷ broken_row k ∷ []) (ap not p, (ap not q, tt)))

  -- what the rule at a position asks
  many : length (held at ents) ≡ length vs
  many = omega (arith, held_length at ents, L.places)

  pub rule_listed : Ringed s → (rank : List ℕ) → Ranked vs rank → Listed (held at ents) vs rank
  rule_listed R rank K =
      record {
        rings = λ u h. rw L.rings (R.rings_fine u (omega (arith, n_is, many)));
        ranked = subst⁻¹ (λ (n : ℕ). RankedBelow n vs rank) many K;
      }

  pub rule_name : Ringed s → (k : ℕ) → 1 ≤ k → k ≤ length vs → post vs k < length (held at ents)
  rule_name R k h i = subst⁻¹ (λ (l : List ℕ). post l k < length (held at ents)) L.orders below
    where
      below : post (order s) k < length (held at ents)
      below = omega (arith, (position_says (posts s) (order s) k (R.entries_fine k h (omega (arith, n_is)))).0, n_is, many)

pub ringed : (s : List ℕ) → Entered s → NoneApplies ring_rows s → Ringed s
ringed s e h =
    record {
      entries_fine = e;
      rings_fine = λ u l. not-false (ring_rule (lists s) u) (some_none (ring_fault s) 0 (posts s) (none_rings s h) u (omega arith) (omega arith));
    }

-- ---- the rows of the positions from k on

rows_next : (k n : ℕ) → k ≤ n → rows_from k n ≡ position_rows k ++ rows_from (k + 1) n
unfolding flat_map numbers
rows_next k n h =
    let e : n + 1 - k ≡ suc (n + 1 - (k + 1)) = omega arith in
    rw (e, add-one k) refl

pub rows_end : (k n : ℕ) → n < k → rows_from k n ≡ []
unfolding flat_map numbers
rows_end k n h = let e : n + 1 - k ≡ 0 = omega arith in rw e refl

-- a position's rows, of those from k on: they refuse, or none of them applies and the next is tried
module _ {A : Type 0} (s : List ℕ) (answer : List ℕ → A) (k n : ℕ) (h : k ≤ n) (r : Result A Refusal) (er : reply_of r ≡ given (position_rows k) s answer) where
  pub rows_refused : (f : Refusal) → r ≡ Err f → refused (number_of f) (place_of f) ≡ tried (rows_from k n) s
  rows_refused f e = rw (rows_next k n h) (stops s answer (position_rows k) r er nothing (rows_from (k + 1) n) f e)

  pub rows_passed : (v : A) → r ≡ Ok v → tried (rows_from k n) s ≡ tried (rows_from (k + 1) n) s
  rows_passed v e = rw (rows_next k n h) (sym (goes_on s answer (position_rows k) r er nothing (rows_from (k + 1) n) v e))

-- check's table in the parts in which the code tries it
pub whole_table : (s : List ℕ) → given ((header_rows ++ sum_rows) ++ (load_rows ++ loaded_rows s)) s posts ≡ check_reply s
unfolding check_reply check_rows block_rows
whole_table s =
    let e : posts s + 1 - 3 ≡ posts s - 2 = omega arith in
    rw e refl
