-- The refusals that the services give, each told by its number (docs/RULES.md: N) and its place: a position, a name, or 0.
use Rattle.std.specs.Prelude.{ℕ}
use Rattle.lamp.specs.declared.Told.{Told}
use Rattle.lamp.specs.declared.Refusal.{Refusal}
use Rattle.lamp.specs.declared.Refusal.TheVariants.{Short, Mark, Version, Posts, Length, Sum, Order, Degrees, High, Itself}
use Rattle.lamp.specs.declared.Refusal.TheVariants.{Repeated, Unreturned, Triangle, Outer, Few, Broken, Stage, Room, Name}

abbrev pub tell : ℕ → ℕ → Told
tell number place = record { number = number; place = place }

abbrev pub told_of : Refusal → Told
told_of Short = tell 1 0
told_of Mark = tell 2 0
told_of Version = tell 3 0
told_of Posts = tell 4 0
told_of Length = tell 5 0
told_of Sum = tell 6 0
told_of (Order k) = tell 7 k
told_of (Degrees u) = tell 8 u
told_of (High u) = tell 9 u
told_of (Itself u) = tell 18 u
told_of (Repeated u) = tell 19 u
told_of (Unreturned u) = tell 20 u
told_of (Triangle u) = tell 10 u
told_of Outer = tell 11 0
told_of (Few k) = tell 12 k
told_of (Broken k) = tell 13 k
told_of Stage = tell 15 0
told_of Room = tell 16 0
told_of Name = tell 17 0

abbrev pub number_of : Refusal → ℕ
number_of r = (told_of r).number

abbrev pub place_of : Refusal → ℕ
place_of r = (told_of r).place
