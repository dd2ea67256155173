-- The rings that running code holds.
use Rattle.std.specs.Prelude.{ℕ, List}
use Rattle.rings.specs.declared.Lists.{Lists}
use Rattle.rings.specs.Held.{held}

abbrev pub rings_of : Lists → List (List ℕ)
rings_of l = held l.at.now l.ents.now
