-- With 9 for 18 to 20, the replies by the four rows of step 9 are those by one row: the same blocks are accepted, and refused at the same place.
use Prim.Native.Nat.{ℕ, ◌≤◌, ◌<◌}
use mathlib.Core.Path.{◌≡◌, refl, sym, ap, ◌∙◌}
use mathlib.Core.Logic.{◌≢◌}
use mathlib.Core.Bool.{Bool, true, false}
use mathlib.Core.List.{List, [], ◌∷◌, ◌++◌, append-nil}
use native.Mathlib.Omega.{arith}
use borrow.Author.Tests.{lt-leb}
use Rattle.block.specs.Block.{lists}
use Rattle.rings.specs.Faults.{is_high, is_itself, is_repeated}
use Rattle.lamp.specs.Lamp.{Row, name, some_name, ring_fault, ring_rows}
use Rattle.lamp.specs.Lamp.{stage_rows, room_rows, name_rows, block_rows, check_rows, sheet_rows, post_rows}
use Rattle.lamp.specs.Given.{refused, given}
use Rattle.lamp.specs.Retired.{EachNumber}
use Rattle.lamp.specs.Finer.{whole_row, whole_rows, coarse_rows, coarse_number, coarse, Finer}
use Rattle.lamp.proofs.Given.{given_end, given_skip, given_stop, given_past}
use Rattle.lamp.proofs.RowNumbers.{each_both, each_before, each_after}
use Rattle.lamp.proofs.RingRows.{before_rings, after_rings, u, i, number_by, exactly, rings_none, ring_given}

-- rows whose numbers stay
abbrev Kept : List Row → Type 0
Kept rows = EachNumber (λ m. coarse_number m ≡ m) rows

stays : (m : ℕ) → m < 18 → coarse_number m ≡ m
stays m h = rw (lt-leb 18 m h) refl

module _ {A : Type 0} (s : List ℕ) (answer : List ℕ → A) where
  -- such rows, and then rests of which the one gives the other's reply
  coarse_past : (rows b c : List Row) → Kept rows → coarse (given b s answer) ≡ given c s answer
      → coarse (given (rows ++ b) s answer) ≡ given (rows ++ c) s answer
  coarse_past [] b c h e = e
  coarse_past (r ∷ rows) b c h e = go (r.when s) refl (coarse_past rows b c h.1 e)
    where
      go : (x : Bool) → r.when s ≡ x → coarse (given (rows ++ b) s answer) ≡ given (rows ++ c) s answer
          → coarse (given (r ∷ rows ++ b) s answer) ≡ given (r ∷ rows ++ c) s answer
      go true w k =
          ap coarse (given_stop s answer r (rows ++ b) w) ∙ ap (λ (m : ℕ). refused m (r.place s)) h.0 ∙ sym (given_stop s answer r (rows ++ c) w)
      go false w k = ap coarse (given_skip s answer r (rows ++ b) w) ∙ k ∙ sym (given_skip s answer r (rows ++ c) w)

  coarse_same : (rows : List Row) → Kept rows → coarse (given rows s answer) ≡ given rows s answer
  coarse_same rows h =
      let e : coarse (given [] s answer) ≡ given [] s answer = ap coarse (given_end s answer) ∙ sym (given_end s answer) in
      let q = ap (λ (l : List Row). given l s answer) (append-nil rows) in
      sym (ap coarse q) ∙ coarse_past rows [] [] h e ∙ q

  nine : (a b c : Bool) → coarse_number (number_by a b c) ≡ 9
  nine true b c = refl
  nine false true c = refl
  nine false false true = refl
  nine false false false = refl

  -- the four rows and the one
  coarse_rings : (rest : List Row) → Kept rest → coarse (given (ring_rows ++ rest) s answer) ≡ given (whole_rows ++ rest) s answer
  coarse_rings rest h = go (some_name ring_fault s) refl
    where
      go : (x : Bool) → some_name ring_fault s ≡ x → coarse (given (ring_rows ++ rest) s answer) ≡ given (whole_rows ++ rest) s answer
      go true t =
          let G = lists s in
          ap coarse (ring_given s answer rest t)
          ∙ ap (λ (m : ℕ). refused m (name ring_fault s)) (nine (is_high G (u s) (i s)) (is_itself G (u s) (i s)) (is_repeated G (u s) (i s)))
          ∙ sym (given_stop s answer whole_row rest t)
      go false t =
          ap coarse (given_past s answer ring_rows rest (rings_none s t)) ∙ coarse_same rest h ∙ sym (given_skip s answer whole_row rest t)

-- ---- the rows of the services

low : (m : ℕ) → 1 ≤ m → m ≤ 13 → m ≢ 9 → coarse_number m ≡ m
low m l h n = stays m (omega arith)

-- check's rows, and after them any whose numbers stay
finer : {A : Type 0} (answer : List ℕ → A) (s : List ℕ) (after : List Row) → Kept after
    → coarse (given (check_rows s ++ after) s answer) ≡ given (coarse_rows s ++ after) s answer
unfolding check_rows block_rows coarse_rows
finer answer s after h =
    let rest = after_rings s ++ after in
    coarse_past s answer before_rings (ring_rows ++ rest) (whole_rows ++ rest) (each_before _ low)
    (coarse_rings s answer rest (each_both _ (after_rings s) after (each_after _ low s) h))

finer_check : {A : Type 0} (answer : List ℕ → A) (s : List ℕ) → coarse (given (check_rows s) s answer) ≡ given (coarse_rows s) s answer
finer_check answer s =
    ap (λ (l : List Row). coarse (given l s answer)) (sym (append-nil (check_rows s))) ∙ finer answer s [] tt
    ∙ ap (λ (l : List Row). given l s answer) (append-nil (coarse_rows s))

finer_sheet : {A : Type 0} (answer : List ℕ → A) (s : List ℕ) (k room : ℕ)
    → coarse (given (sheet_rows s k room) s answer) ≡ given (coarse_rows s ++ (stage_rows k ++ room_rows k room)) s answer
unfolding sheet_rows
finer_sheet answer s k room = finer answer s (stage_rows k ++ room_rows k room) (refl, (refl, tt))

finer_post : {A : Type 0} (answer : List ℕ → A) (s : List ℕ) (k u : ℕ)
    → coarse (given (post_rows s k u) s answer) ≡ given (coarse_rows s ++ (stage_rows k ++ name_rows u)) s answer
unfolding post_rows
finer_post answer s k u = finer answer s (stage_rows k ++ name_rows u) (refl, (refl, tt))

pub finer_rows : Finer
finer_rows = record { exactly = exactly; check = finer_check; sheet = finer_sheet; post = finer_post }
