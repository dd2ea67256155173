-- The numbers of rows: what holds of the number of each; and a refusal has the number of a row.
use Prim.Native.Nat.{ℕ, zero, suc, ◌-◌, ◌≤◌}
use mathlib.Core.Path.{◌≡◌, refl, sym, ap, ◌∙◌}
use mathlib.Core.Logic.{◌≢◌}
use mathlib.Core.Bool.{Bool, true, false, not, ◌&&◌}
use mathlib.Core.List.{List, [], ◌∷◌, ◌++◌, flat_map, append-nil}
use native.Mathlib.Omega.{arith}
use lib.Dec.{ltb, eqb, ltb→lt, T_not}
use Rattle.words.specs.First.{numbers}
use Rattle.words.proofs.Tests.{holds, both}
use Rattle.block.specs.Block.{posts}
use Rattle.lamp.specs.Lamp.{Row, header_rows, sum_rows, order_rows, degree_rows, position_rows}
use Rattle.lamp.specs.Given.{refused, given}
use Rattle.lamp.specs.Retired.{EachNumber, NoneIs}
use Rattle.lamp.proofs.Given.{given_end, given_skip, given_stop, not_both}
use Rattle.lamp.proofs.RingRows.{before_rings, after_rings}

module _ (P : ℕ → Type 0) where
  pub each_both : (a b : List Row) → EachNumber P a → EachNumber P b → EachNumber P (a ++ b)
  each_both [] b h k = k
  each_both (r ∷ a) b h k = (h.0, each_both a b h.1 k)

  -- the rule per position
  pub each_fitting : P 12 → P 13 → (m k : ℕ) → EachNumber P (flat_map position_rows (numbers k m))
  unfolding flat_map numbers position_rows
  each_fitting few broken zero k = tt
  each_fitting few broken (suc m) k = (few, (broken, each_fitting few broken m (suc k)))

  -- check's rows before the four of step 9, and after them
  module _ (f : (m : ℕ) → 1 ≤ m → m ≤ 13 → m ≢ 9 → P m) where
    -- of a number that is one of theirs, by computing
    one : (m : ℕ) → (ltb 0 m && (ltb m 14 && not (eqb m 9))) ≡ true → P m
    one m e =
        let t = holds _ e in
        let u = both (ltb 0 m) _ t in
        let v = both (ltb m 14) _ u.1 in
        let low = ltb→lt 0 m u.0 in
        let high = ltb→lt m 14 v.0 in
        f m (omega arith) (omega arith) (λ q. T_not (eqb m 9) v.1 (rw q tt))

    pub each_before : EachNumber P before_rings
    each_before =
        let header : EachNumber P header_rows = (one _ refl, (one _ refl, (one _ refl, (one _ refl, (one _ refl, tt))))) in
        each_both header_rows (sum_rows ++ order_rows ++ degree_rows) header (one _ refl, (one _ refl, (one _ refl, tt)))

    pub each_after : (s : List ℕ) → EachNumber P (after_rings s)
    each_after s = (one _ refl, (one _ refl, each_fitting (one _ refl) (one _ refl) (posts s - 2) 3))

module _ {A : Type 0} (answer : List ℕ → A) (s : List ℕ) where
  -- rows with other numbers are passed over
  pub past_others : (rows rest : List Row) (number place : ℕ) → NoneIs number rows → given (rows ++ rest) s answer ≡ refused number place
      → given rest s answer ≡ refused number place
  past_others [] rest number place h e = e
  past_others (r ∷ rows) rest number place h e = go (r.when s) refl (past_others rows rest number place h.1)
    where
      go : (x : Bool) → r.when s ≡ x → (given (rows ++ rest) s answer ≡ refused number place → given rest s answer ≡ refused number place)
          → given rest s answer ≡ refused number place
      go true w k = absurd (let f = sym (given_stop s answer r (rows ++ rest) w) ∙ e in let q : r.number ≡ number = cc in h.0 q)
      go false w k = k (sym (given_skip s answer r (rows ++ rest) w) ∙ e)

  -- a refusal's number is that of a row
  pub none_given : (rows : List Row) (number place : ℕ) → NoneIs number rows → given rows s answer ≢ refused number place
  none_given rows number place h e =
      let q = ap (λ (l : List Row). given l s answer) (append-nil rows) ∙ e in
      not_both (sym (past_others rows [] number place h q) ∙ given_end s answer)
