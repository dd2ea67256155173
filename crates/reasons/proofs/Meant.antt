-- How long the words of a refusal are.
use Prim.Native.Nat.{ℕ, ◌+◌, ◌*◌, ◌≤◌}
use mathlib.Core.Path.{◌≡◌, refl, ap}
use mathlib.Core.Bool.{Bool, true, false, cond}
use mathlib.Core.List.{List, flat_map}
use native.Mathlib.Omega.{arith}
use lib.ListN.{length}
use Rattle.words.specs.First.{numbers}
use Rattle.words.specs.Lists.{count}
use Rattle.lamp.specs.Refusals.{number_of, place_of}
use Rattle.lamp.specs.ReadBack.{refusals_at, with_number}
use Rattle.lamp.specs.declared.Refusal.{Refusal}
use Rattle.lamp.specs.declared.Refusal.TheVariants.{Short, Mark, Version, Posts, Length, Sum, Order, Degrees, High, Itself}
use Rattle.lamp.specs.declared.Refusal.TheVariants.{Repeated, Unreturned, Triangle, Outer, Few, Broken, Stage, Room, Name}
use Rattle.text.specs.Letters.{numbered}
use Rattle.text.proofs.Numerals.{is_mark, numbered_length}
use Rattle.reasons.specs.Reasons.{words_of, all_degrees, number_in, whole_board, reason_of, longest_reason}

-- ---- lengths

-- with twenty digits for each #
abbrev Fits : List ℕ → Type 0
Fits t = length t + 19 * count is_mark t ≤ longest_reason

fits : (r : Refusal) → Fits (words_of r)
unfolding count
fits Short = omega arith
fits Mark = omega arith
fits Version = omega arith
fits Posts = omega arith
fits Length = omega arith
fits Sum = omega arith
fits (Order k) = omega arith
fits (Degrees u) = omega arith
fits (High u) = omega arith
fits (Itself u) = omega arith
fits (Repeated u) = omega arith
fits (Unreturned u) = omega arith
fits (Triangle u) = omega arith
fits Outer = omega arith
fits (Few k) = omega arith
fits (Broken k) = omega arith
fits Stage = omega arith
fits Room = omega arith
fits Name = omega arith

all_fits : Fits all_degrees
unfolding count
all_fits = omega arith

pub reason_length : (n : ℕ) (r : Refusal) → length (reason_of n r) ≤ longest_reason
unfolding reason_of
reason_length n r = within _ _ (either (whole_board n (number_of r) (place_of r)))
  where
    either : (b : Bool) → Fits (cond b all_degrees (words_of r))
    either true = all_fits
    either false = fits r

    within : (x : ℕ) (t : List ℕ) → Fits t → length (numbered x t) ≤ longest_reason
    within x t f = omega (arith, numbered_length x t, f)
