-- Loops that read a stage: what one turn more does.
use Prim.Native.Nat.{ℕ, suc, ◌+◌, ◌-◌, ◌≤◌, ◌<◌}
use mathlib.Core.Path.{◌≡◌, refl, ap, sym, ◌∙◌, subst}
use mathlib.Core.Bool.{Bool, cond}
use mathlib.Core.List.{List, [], ◌∷◌}
use native.Mathlib.Omega.{arith}
use lib.Dec.{eqb}
use Rattle.std.proofs.Common.{reverse, take}
use Rattle.std.proofs.lemmas.List.{length-reverse, length-take-le, get_or-reverse, get_or-take}
use Rattle.std.proofs.lemmas.Grind.{get_or_default_zero}
use lib.ListN.{length, get_or, set, length-set}
use borrow.Author.Tests.{eq-eqb, ne_eqb}
use Rattle.contour.specs.Arrays.{along, Below}
use Rattle.contour.specs.Columns.{until, laid, column_of, settled, ColumnFits, Settles, Rooms}
use Rattle.contour.proofs.Paths.{along_cons}

-- ---- the contour from v1 to v2
until_turn : (right : List ℕ) (a z i k : ℕ) → i < k → until right a z (k - i) ≡ a ∷ cond (eqb a z) [] (until right (get_or right a 0) z (k - (i + 1)))
unfolding until
until_turn right a z i k h = let e : k - i ≡ suc (k - (i + 1)) = omega arith in rw e refl

until_done : (right : List ℕ) (a z i k : ℕ) → k ≤ i → until right a z (k - i) ≡ []
unfolding until
until_done right a z i k h = let e : k - i ≡ 0 = omega arith in rw e refl

laid_cons : (xs off : List ℕ) (s a : ℕ) (l : List ℕ) → laid xs off s (a ∷ l) ≡ laid (set xs a (s + get_or off a 0)) off (s + get_or off a 0) l
unfolding laid
laid_cons xs off s a l = refl

laid_nil : (xs off : List ℕ) (s : ℕ) → laid xs off s [] ≡ xs
unfolding laid
laid_nil xs off s = refl

pub record Spread (right off xs₀ : List ℕ) (v1 v2 k : ℕ) (xs : List ℕ) (a s i : ℕ) : Type 0 where
  pub upto : i ≤ k
  pub small : a < 65536
  pub lays : laid xs off s (until right a v2 (k - i)) ≡ laid xs₀ off 0 (until right v1 v2 k)
  pub sums : s + along off (until right a v2 (k - i)) ≡ along off (until right v1 v2 k)
  pub same : length xs ≡ length xs₀
  pub in_right : Below (length right) (until right a v2 (k - i))
  pub in_off : Below (length off) (until right a v2 (k - i))
  pub in_xs : Below (length xs₀) (until right a v2 (k - i))

module _ {right off xs₀ : List ℕ} {v1 v2 k : ℕ} {xs : List ℕ} {a s i : ℕ} (R : Spread right off xs₀ v1 v2 k xs a s i) where
  pub spread_done : k ≤ i → xs ≡ laid xs₀ off 0 (until right v1 v2 k)
  spread_done h = sym (laid_nil xs off s) ∙ ap (laid xs off s) (sym (until_done right a v2 i k h)) ∙ R.lays

  module _ (h : i < k) {j : ℕ} (ej : j ≡ a) where
    -- the column of a, and the columns once it is stored
    abbrev s' : ℕ
    s' = s + get_or off j 0

    abbrev xs' : List ℕ
    xs' = set xs j s'

    -- what is still to be laid
    abbrev rest : List ℕ
    rest = cond (eqb a v2) [] (until right (get_or right j 0) v2 (k - (i + 1)))

    turn : until right a v2 (k - i) ≡ j ∷ rest
    turn = until_turn right a v2 i k h ∙ rw (← ej) refl

    pub spread_right : j < length right
    spread_right = (subst (Below (length right)) turn R.in_right).0

    pub spread_off : j < length off
    spread_off = (subst (Below (length off)) turn R.in_off).0

    pub spread_xs : j < length xs
    spread_xs = omega (arith, R.same, (subst (Below (length xs₀)) turn R.in_xs).0)

    sums : s' + along off rest ≡ along off (until right v1 v2 k)
    sums = omega (arith, R.sums, ap (along off) turn, along_cons off j rest)

    pub spread_fits : along off (until right v1 v2 k) ≤ 65535 → s' ≤ 65535
    spread_fits f = omega (arith, sums)

    lays : laid xs' off s' rest ≡ laid xs₀ off 0 (until right v1 v2 k)
    lays = sym (laid_cons xs off s j rest) ∙ ap (laid xs off s) (sym turn) ∙ R.lays

    pub spread_end : a ≡ v2 → xs' ≡ laid xs₀ off 0 (until right v1 v2 k)
    spread_end e =
        sym (laid_nil xs' off s')
        ∙ ap (λ (b : Bool). laid xs' off s' (cond b [] (until right (get_or right j 0) v2 (k - (i + 1)))))
        (sym (eq-eqb a v2 e))
        ∙ lays

    pub spread_again : get_or right j 0 < 65536 → (a ≡ v2 → ⊥) → Spread right off xs₀ v1 v2 k xs' (get_or right j 0) s' (i + 1)
    spread_again small n =
        let q = ne_eqb a v2 n in
        record {
          upto = omega arith;
          small = small;
          lays = rw q at lays;
          sums = rw q at sums;
          same = length-set xs j s' ∙ R.same;
          in_right = rw q at (subst (Below (length right)) turn R.in_right).1;
          in_off = rw q at (subst (Below (length off)) turn R.in_off).1;
          in_xs = rw q at (subst (Below (length xs₀)) turn R.in_xs).1;
        }

-- ---- from position k down, where n posts are done
pub record Settling (vs off cover xs₀ : List ℕ) (k : ℕ) (xs : List ℕ) (n : ℕ) : Type 0 where
  pub is : settled xs off cover vs (k - n) ≡ settled xs₀ off cover vs k
  pub fits : Settles xs off cover vs (k - n)
  pub same : length xs ≡ length xs₀

module _ {vs off cover xs₀ : List ℕ} {k : ℕ} (W : Rooms vs off cover xs₀ k) {xs : List ℕ} {n : ℕ} (R : Settling vs off cover xs₀ k xs n) where
  pub settle_done : n ≡ length (reverse (take k vs)) → xs ≡ settled xs₀ off cover vs k
  unfolding settled
  settle_done e =
      let z : k - n ≡ 0 = omega (arith, length-reverse (take k vs), length-take-le k vs W.of_vs) in
      ap (settled xs off cover vs) (sym z) ∙ R.is

  -- v is the next post
  module _ {v : ℕ} (t : (n < length (reverse (take k vs))) × (v ≡ get_or (reverse (take k vs)) n v)) where
    more : n < k
    more = omega (arith, t.0, length-reverse (take k vs), length-take-le k vs W.of_vs)

    settle_at : v ≡ get_or vs (k - (n + 1)) 0
    settle_at =
        let i : length (take k vs) - 1 - n ≡ k - (n + 1) = omega (arith, length-take-le k vs W.of_vs) in
        t.1 ∙ get_or-reverse (take k vs) n v (omega (arith, t.0, length-reverse (take k vs))) ∙ ap (λ (j : ℕ). get_or (take k vs) j v) i
        ∙ get_or-take k vs (k - (n + 1)) v (omega (arith, more))
        ∙ get_or_default_zero vs (k - (n + 1)) v (omega (arith, more, W.of_vs))

    down : k - n ≡ suc (k - (n + 1))
    down = omega (arith, more)

    module _ {u c : ℕ} (eu : u ≡ v) (ec : c ≡ get_or cover u 0) where
      is_at : u ≡ get_or vs (k - (n + 1)) 0
      is_at = eu ∙ settle_at

      step : ColumnFits xs off u c × Settles (set xs u (column_of xs off u c)) off cover vs (k - (n + 1))
      step = rw (ec, is_at) (subst (Settles xs off cover vs) down R.fits)

      pub settle_ready : (u < length xs) × (u < length off) × (c < length xs) × ColumnFits xs off u c
      settle_ready =
          let h : k - (n + 1) < k = omega (arith, more) in (
            rw (is_at, R.same) (W.of_xs (k - (n + 1)) h),
            rw is_at (W.of_off (k - (n + 1)) h),
            rw (ec, is_at, R.same) (W.of_covers (k - (n + 1)) h),
            step.0,
          )

      next : settled xs off cover vs (k - n) ≡ settled (set xs u (column_of xs off u c)) off cover vs (k - (n + 1))
      unfolding settled
      next = ap (settled xs off cover vs) down ∙ rw (ec, is_at) refl

      pub settle_again : {r : ℕ} → r ≡ column_of xs off u c → Settling vs off cover xs₀ k (set xs u r) (n + 1)
      settle_again {r} er = record { is = rw er (sym next ∙ R.is); fits = rw er step.1; same = length-set xs u r ∙ R.same }
