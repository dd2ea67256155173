-- A refusal is told by a number and a place, and can be read back from them: so no two refusals are told alike, and no two answers.
use Rattle.std.specs.Prelude.{ℕ, ◌≡◌, true, false, List, [], ◌∷◌, eqb, Result}
use Rattle.std.proofs.Math.Option.{Option, none, some}
use Rattle.lamp.specs.Refusals.{told_of, number_of, place_of}
use Rattle.lamp.specs.Given.{reply_of}
use Rattle.lamp.specs.declared.Refusal.{Refusal}
use Rattle.lamp.specs.declared.Refusal.TheVariants.{Short, Mark, Version, Posts, Length, Sum, Order, Degrees, High, Itself}
use Rattle.lamp.specs.declared.Refusal.TheVariants.{Repeated, Unreturned, Triangle, Outer, Few, Broken, Stage, Room, Name}

-- every refusal; the ones that have a place, with this one
unfoldable pub refusals_at : ℕ → List Refusal
refusals_at place =
    Short
    ∷ Mark
    ∷ Version
    ∷ Posts
    ∷ Length
    ∷ Sum
    ∷ Order place
    ∷ Degrees place
    ∷ High place
    ∷ Itself place
    ∷ Repeated place
    ∷ Unreturned place
    ∷ Triangle place
    ∷ Outer
    ∷ Few place
    ∷ Broken place
    ∷ Stage
    ∷ Room
    ∷ Name
    ∷ []

-- the first of them with this number
unfoldable pub with_number : ℕ → List Refusal → Option Refusal
with_number number [] = none
with_number number (r ∷ l) = elim (eqb (number_of r) number) [ true ↦ some r | false ↦ with_number number l ]

-- the refusal that a number and a place tell; none for a number that tells nothing
abbrev pub refusal_of : ℕ → ℕ → Option Refusal
refusal_of number place = with_number number (refusals_at place)

pub record ToldApart : Type 1 where
  -- what is told of a refusal gives it again
  pub read_back : (r : Refusal) → refusal_of (number_of r) (place_of r) ≡ some r
  -- so refusals that are told alike are the same, and so are answers
  pub refusals : (a b : Refusal) → told_of a ≡ told_of b → a ≡ b
  pub answers : {A : Type 0} (a b : Result A Refusal) → reply_of a ≡ reply_of b → a ≡ b
