-- check goes through its groups of rows: one refuses, or none of it applies and the next is tried.
use Prim.Native.Nat.{ℕ, ◌+◌, ◌≤◌, ◌<◌}
use mathlib.Core.Path.{◌≡◌, sym, ap, ◌∙◌}
use mathlib.Core.Bool.{Bool, true, false}
use mathlib.Core.List.{List, ◌++◌}
use borrow.Author.Tests.{lt-ltb, le-ltb}
use Rattle.words.specs.First.{first, some}
use Rattle.lamp.specs.Refusals.{number_of, place_of}
use Rattle.lamp.specs.Lamp.{Row}
use Rattle.lamp.specs.Given.{accepted, refused, reply_of, given, NoneApplies}
use Rattle.lamp.specs.declared.Refusal.{Refusal}
use Rattle.std.proofs.Common.{Result, Ok, Err}
use Rattle.lamp.proofs.Given.{given_past, given_none, given_says, accepted_is, given_refused, refused_any}

module _ {A : Type 0} (s : List ℕ) (answer : List ℕ → A) (rows : List Row) where
  pub none_stops : NoneApplies rows s → accepted (answer s) ≡ given rows s answer
  none_stops none = sym (given_none s answer rows none)

  module _ (r : Result A Refusal) (er : reply_of r ≡ given rows s answer) where
    pub none_applied : (v : A) → r ≡ Ok v → NoneApplies rows s
    none_applied v e = given_says s answer rows v (sym er ∙ ap reply_of e)

    pub counts : (v : A) → r ≡ Ok v → v ≡ answer s
    counts v e = accepted_is s answer rows v (sym er ∙ ap reply_of e)

    -- whatever the rest would have answered
    module _ {B : Type 0} (own : List ℕ → B) (rest : List Row) where
      pub stops : (f : Refusal) → r ≡ Err f → refused (number_of f) (place_of f) ≡ given (rows ++ rest) s own
      stops f e =
          let mine = refused_any s answer own rows (number_of f) (place_of f) (sym er ∙ ap reply_of e) in
          sym (given_refused s own rows rest (number_of f) (place_of f) mine)

      pub goes_on : (v : A) → r ≡ Ok v → given rest s own ≡ given (rows ++ rest) s own
      goes_on v e = sym (given_past s own rows rest (none_applied v e))

    -- and where nothing is left to try
    module _ {B : Type 0} (own : List ℕ → B) where
      pub stops_last : (f : Refusal) → r ≡ Err f → refused (number_of f) (place_of f) ≡ given rows s own
      stops_last f e = sym (refused_any s answer own rows (number_of f) (place_of f) (sym er ∙ ap reply_of e))

      pub passes_last : (v : A) → r ≡ Ok v → accepted (own s) ≡ given rows s own
      passes_last v e = sym (given_none s own rows (none_applied v e))

-- the first of n from i on that p holds of: whether there is one
module _ (p : ℕ → Bool) (i n u : ℕ) (e : u ≡ first i n p) where
  pub found : u < i + n → some i n p ≡ true
  unfolding some
  found h = rw (← e) (lt-ltb u (i + n) h)

  pub not_found : i + n ≤ u → some i n p ≡ false
  unfolding some
  not_found h = rw (← e) (le-ltb u (i + n) h)
