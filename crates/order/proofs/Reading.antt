-- A run read off its ring, around from where it begins.
use Prim.Native.Nat.{ℕ, ◌+◌, ◌-◌, ◌≤◌, ◌<◌}
use mathlib.Core.Path.{◌≡◌, refl, ap, sym, ◌∙◌}
use mathlib.Core.List.{List, ◌++◌}
use native.Mathlib.Omega.{arith}
use lib.ListN.{length, get_or, take, drop, length-append, length-drop, take-append-drop, get_or-append}
use lib.Seq.{take_at, get_or-take, get_or-append-add}
use Rattle.words.specs.Positions.{post, earlier}
use Rattle.words.proofs.First.{first_is}
use Rattle.rings.specs.Rings.{ring}
use Rattle.order.specs.Order.{from, rest, begins, run_begin, run}
use Rattle.order.specs.Fitted.{RunKept}
use Rattle.order.proofs.Tests.{lead_rest}
use Rattle.order.proofs.Begins.{from_inside}

-- ---- a ring read from place s on, by places: as far as its end, and on from its beginning
from_length : (s : ℕ) (l : List ℕ) → length (from s l) ≡ length l
unfolding from
from_length s l = omega (arith, length-append (drop s l) (take s l), ap length (take-append-drop s l), length-append (take s l) (drop s l))

from_over : (l : List ℕ) (s i : ℕ) → s ≤ length l → i < length l → length l ≤ s + i → get_or (from s l) i 0 ≡ get_or l (s + i - length l) 0
unfolding from
from_over l s i h k m =
    let j = s + i - length l in
    let e : i ≡ length (drop s l) + j = omega (arith, length-drop s l) in
    ap (λ (n : ℕ). get_or (drop s l ++ take s l) n 0) e ∙ get_or-append-add (drop s l) (take s l) j 0 ∙ get_or-take s l j 0 (omega arith)

-- ---- the run
module _ (G : List (List ℕ)) (placed : List ℕ) (v : ℕ) where
  abbrev read : List ℕ
  read = from (run_begin G placed v) (ring G v)

  pub begin_most : run_begin G placed v ≤ length (ring G v)
  begin_most = omega (arith, (first_is (begins G placed v) (length (ring G v)) 0).to)

  -- it is the first entries of what is read
  whole : run G placed v ++ rest placed read ≡ read
  unfolding run
  whole = lead_rest placed read

  pub run_most : length (run G placed v) ≤ length (ring G v)
  run_most = omega (arith, ap length whole, length-append (run G placed v) (rest placed read), from_length (run_begin G placed v) (ring G v))

  pub run_read : take (length (run G placed v)) read ≡ run G placed v
  run_read = ap (take (length (run G placed v))) (sym whole) ∙ take_at (run G placed v) (rest placed read) (length (run G placed v)) refl

  run_entry : (i : ℕ) → i < length (run G placed v) → get_or (run G placed v) i 0 ≡ get_or read i 0
  run_entry i h = sym (get_or-append (run G placed v) (rest placed read) 0 i h) ∙ ap (λ (l : List ℕ). get_or l i 0) whole

  pub run_inside : (i : ℕ) → i < length (run G placed v) → run_begin G placed v + i < length (ring G v)
      → get_or (run G placed v) i 0 ≡ get_or (ring G v) (run_begin G placed v + i) 0
  run_inside i h k = run_entry i h ∙ from_inside (ring G v) (run_begin G placed v) i k

  pub run_over : (i : ℕ) → i < length (run G placed v) → length (ring G v) ≤ run_begin G placed v + i
      → get_or (run G placed v) i 0 ≡ get_or (ring G v) (run_begin G placed v + i - length (ring G v)) 0
  run_over i h k = run_entry i h ∙ from_over (ring G v) (run_begin G placed v) i begin_most (omega (arith, run_most)) k

-- ---- as running code reads it: the run of the post in position k begins at place b of its ring
module _ (G : List (List ℕ)) (vs : List ℕ) (begin k i : ℕ) (R : RunKept G vs begin k i) (l : List ℕ) (el : l ≡ ring G (post vs k)) (b : ℕ)
    (eb : b ≡ begin) where
  pub sizes : (b ≤ length l) × (i < length l)
  sizes = rw el (
    omega (arith, R.begins, begin_most G (earlier vs k) (post vs k)),
    omega (arith, R.inside, run_most G (earlier vs k) (post vs k)),
  )

  is : b ≡ run_begin G (earlier vs k) (post vs k)
  is = eb ∙ R.begins

  pub read_inside : b + i < length l → get_or l (b + i) 0 ≡ get_or (run G (earlier vs k) (post vs k)) i 0
  read_inside h = sym (rw (← is, ← el) at (run_inside G (earlier vs k) (post vs k) i R.inside (rw (← is, ← el) h)))

  pub read_over : length l ≤ b + i → get_or l (b + i - length l) 0 ≡ get_or (run G (earlier vs k) (post vs k)) i 0
  read_over h = sym (rw (← is, ← el) at (run_over G (earlier vs k) (post vs k) i R.inside (rw (← is, ← el) h)))
