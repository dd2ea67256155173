-- The order's and the degrees' rows, by what the code found; and the arrays that then hold the block.
use Prim.Native.Nat.{ℕ, ◌+◌, ◌≤◌, ◌<◌}
use mathlib.Core.Path.{◌≡◌, refl, sym, ap, ◌∙◌, subst, subst⁻¹}
use mathlib.Core.Bool.{false}
use mathlib.Core.List.{List, []}
use native.Mathlib.Omega.{arith}
use lib.Dec.{eqb}
use lib.ListN.{length, take}
use lib.Seq.{length-take-le}
use borrow.Author.Tests.{eq-eqb, ne_eqb, eqb-true, not-false}
use Rattle.words.specs.Numbers.{sum_of}
use Rattle.words.specs.First.{first_if}
use Rattle.words.proofs.First.{first_if_some, first_if_none, some_none}
use Rattle.words.proofs.Numbers.{words_length}
use Rattle.words.proofs.Tests.{neither}
use Rattle.block.specs.Layout.{limit, entries}
use Rattle.block.specs.Block.{posts, order, degrees, lists, bad_entry, bad_degree, Headed}
use Rattle.order.specs.Ranked.{Ranked, RunsBefore}
use Rattle.order.specs.declared.Run.{Run}
use Rattle.lamp.specs.Lamp.{position, name, some_name, entry_fault, degree_fault, entry_row, degree_row, order_rows, degree_rows}
use Rattle.lamp.specs.Given.{reply_of, nothing, tried, NoneApplies}
use Rattle.lamp.specs.Loaded.{Loaded, Trimmed, Entered, Ordered}
use Rattle.lamp.specs.declared.Refusal.TheVariants.{Order, Degrees}
use Rattle.std.proofs.Common.{Some, None, Err}
use Rattle.lamp.proofs.Given.{given_first}
use Rattle.lamp.proofs.Tried.{found, not_found}

module _ (s : List ℕ) where
  pub order_length : length (order s) ≡ posts s
  unfolding order
  order_length = words_length s (posts s) _

  -- ---- the order

  module _ (n : ℕ) (is : n ≡ posts s) where
    pub entry_bad : (k : ℕ) → Some k ≡ first_if 1 n (bad_entry n (order s)) → reply_of (Err (Order k)) ≡ tried order_rows s
    entry_bad k e =
        let at = first_if_some _ 1 n k e in
        let q : k ≡ position entry_fault s = rw (← is) at.0 in
        let some = found (entry_fault s) 1 (posts s) k q (omega (arith, at.1, is)) in
        ap (λ (z : ℕ). reply_of (Err (Order z))) q ∙ sym (given_first s nothing [] entry_row [] tt some)

    pub entries_pass : None ≡ first_if 1 n (bad_entry n (order s)) → NoneApplies order_rows s
    entries_pass e =
        let end = first_if_none _ 1 n e in
        let q : 1 + n ≡ position entry_fault s = rw (← is) end in
        (not_found (entry_fault s) 1 (posts s) (1 + n) q (omega (arith, is)), tt)

  pub entered : NoneApplies order_rows s → Entered s
  entered h k from to = some_none (entry_fault s) 1 (posts s) h.0 k from (omega arith)

  -- ---- the degrees

  module _ (n : ℕ) (is : n ≡ posts s) where
    pub degree_bad : (u : ℕ) → Some u ≡ first_if 0 n (bad_degree n (degrees s)) → reply_of (Err (Degrees u)) ≡ tried degree_rows s
    degree_bad u e =
        let at = first_if_some _ 0 n u e in
        let q : u ≡ name degree_fault s = rw (← is) at.0 in
        let some = found (degree_fault s) 0 (posts s) u q (omega (arith, at.1, is)) in
        ap (λ (z : ℕ). reply_of (Err (Degrees z))) q ∙ sym (given_first s nothing [] degree_row [] tt (rw some refl))

    module _ (e : None ≡ first_if 0 n (bad_degree n (degrees s))) where
      name_is : n ≡ name degree_fault s
      name_is = let end = first_if_none _ 0 n e in let q : 0 + n ≡ name degree_fault s = rw (← is) end in omega (arith, q)

      none : some_name degree_fault s ≡ false
      none = not_found (degree_fault s) 0 (posts s) n name_is (omega (arith, is))

      pub total_bad : (sum_of (degrees s) ≡ entries n → ⊥) → reply_of (Err (Degrees n)) ≡ tried degree_rows s
      total_bad h =
          let other = ne_eqb (sum_of (degrees s)) (entries (posts s)) (λ q. h (q ∙ ap entries (sym is))) in
          ap (λ (z : ℕ). reply_of (Err (Degrees z))) name_is ∙ sym (given_first s nothing [] degree_row [] tt (rw (none, other) refl))

      pub degrees_pass : sum_of (degrees s) ≡ entries n → NoneApplies degree_rows s
      degrees_pass h = (rw (none, eq-eqb (sum_of (degrees s)) (entries (posts s)) (h ∙ ap entries is)) refl, tt)

  pub totalled : NoneApplies degree_rows s → sum_of (degrees s) ≡ entries (posts s)
  totalled h =
      let t = neither (some_name degree_fault s) _ h.0 in
      eqb-true (sum_of (degrees s)) (entries (posts s)) (not-false (eqb (sum_of (degrees s)) (entries (posts s))) t.1)

  -- ---- the arrays' fronts are just so long

  pub trimmed : (n : ℕ) (vs at ents : List ℕ) → Headed s n → limit < length at → Loaded s n vs at ents
      → Trimmed s (take n vs) (take (n + 1) at) (take (entries n) ents)
  trimmed n vs at ents H room A =
      let l : length (take n vs) ≡ n = ap length A.orders ∙ order_length ∙ sym H.is in
      record {
        headed = subst⁻¹ (Headed s) l H;
        orders = A.orders;
        rings = A.rings;
        cuts = A.cuts;
        places = length-take-le (n + 1) at (omega (arith, H.most)) ∙ ap (λ (m : ℕ). m + 1) (sym l);
      }

  pub ordered : (vs rank : List ℕ) (runs : List Run) → length vs ≡ posts s → vs ≡ order s → Ranked vs rank
      → RunsBefore (lists s) (order s) runs (length vs + 1) → Ordered s rank runs
  ordered vs rank runs l e R K =
      record {
        ranked = subst (λ (l : List ℕ). Ranked l rank) e R;
        known = subst (λ (m : ℕ). RunsBefore (lists s) (order s) runs (m + 1)) l K;
      }
