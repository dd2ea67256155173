-- Numbers with a space before each: one more at the end.
use Prim.Native.Nat.{ℕ}
use mathlib.Core.Path.{◌≡◌}
use mathlib.Core.List.{List, [], ◌∷◌, ◌++◌}
use Rattle.text.specs.Letters.{spaced}
use Rattle.text.proofs.Numerals.{pieces_last}
use Rattle.show.specs.Replied.{spaced_all}

pub spaced_last : (l : List ℕ) (x : ℕ) → spaced_all (l ++ x ∷ []) ≡ spaced_all l ++ spaced x
unfolding spaced_all
spaced_last l x = pieces_last spaced l x
