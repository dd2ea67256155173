-- What the table gives: the first row that applies, or acceptance.
use Rattle.std.specs.Prelude.{ℕ, ◌≡◌, true, false, List, [], ◌∷◌, ◌++◌, Result, Ok, Err}
use Rattle.block.specs.Block.{posts}
use Rattle.lamp.specs.Refusals.{number_of, place_of}
use Rattle.lamp.specs.Lamp.{Row, check_rows}
use Rattle.lamp.specs.declared.Refusal.{Refusal}

-- acceptance with what is answered, or a refusal's number and place
pub data Reply (A : Type 0) : Type 0 where
  accepted : A → Reply A
  refused : ℕ → ℕ → Reply A

-- the reply that an answer stands for: what it answers, as n, 2k or a record, or the refusal's number and place
abbrev pub reply_of : {A : Type 0} → Result A Refusal → Reply A
reply_of (Ok v) = accepted v
reply_of (Err r) = refused (number_of r) (place_of r)

-- L1: the first row that applies refuses the call; if none does, it is accepted.
unfoldable pub given : {A : Type 0} → List Row → List ℕ → (List ℕ → A) → Reply A
given [] s answer = accepted (answer s)
given (r ∷ rows) s answer = elim (r.when s) [ true ↦ refused r.number (r.place s) | false ↦ given rows s answer ]

-- the rows alone: where none applies, nothing is answered
abbrev pub nothing : List ℕ → Unit {0}
nothing s = tt

abbrev pub tried : List Row → List ℕ → Reply (Unit {0})
tried rows s = given rows s nothing

-- check: accepted with n
unfoldable pub check_reply : List ℕ → Reply ℕ
check_reply s = given (check_rows s) s posts

-- none of these rows applies
abbrev pub NoneApplies : List Row → List ℕ → Type 0
NoneApplies [] s = Unit {0}
NoneApplies (r ∷ rows) s = (r.when s ≡ false) × NoneApplies rows s

-- The reply that the table fixes, in its order: a refusal is the number and place of a row that applies while none before it does; and
-- acceptance means that none applies.
pub data Fixed {A : Type 0} (rows : List Row) (s : List ℕ) (answer : A) : Reply A → Type 0 where
  accepts : NoneApplies rows s → Fixed rows s answer (accepted answer)
  refuses : (before : List Row) (r : Row) (after : List Row) → rows ≡ before ++ r ∷ after → NoneApplies before s → r.when s ≡ true
      → Fixed rows s answer (refused r.number (r.place s))
