-- Runs on board D, and a list that fits there so far, by computing.
use Prim.Native.Nat.{ℕ, zero, suc, ◌≤◌, ◌<◌}
use mathlib.Core.Path.{◌≡◌, refl}
use mathlib.Core.Logic.{inl, inr}
use mathlib.Core.Bool.{true, false}
use mathlib.Core.List.{List, [], ◌∷◌, ◌++◌}
use native.Mathlib.Omega.{arith}
use lib.ListN.{length, take, length-append}
use Rattle.words.specs.First.{first, some}
use Rattle.words.specs.Lists.{In, mem, all_of, any_of, count}
use Rattle.words.specs.Positions.{post, earlier}
use Rattle.words.proofs.Lists.{Once}
use Rattle.words.proofs.Tests.{once_different}
use Rattle.rings.specs.Boards.{lists_d}
use Rattle.order.specs.Order.{two_placed, from, lead, rest, leads, one_run, begins, run}
use Rattle.order.specs.Fitting.{FitsSoFar}
use Rattle.order.proofs.Fitting.{fits_take, fits_more}

-- the autumn block: after posts 0 and 1, post 3 has two earlier neighbours, and they are not one run
pub two_D : two_placed lists_d (0 ∷ 1 ∷ []) 3 ≡ true
unfolding mem count two_placed
two_D = refl

pub not_one_run_D : one_run lists_d (0 ∷ 1 ∷ []) 3 ≡ false
unfolding first some mem any_of from rest leads one_run
not_one_run_D = refl

-- the run of post 3 after 0, 1 and 2, where its list begins with the run, and where the run crosses the list's end
pub run_D : run lists_d (0 ∷ 1 ∷ 2 ∷ []) 3 ≡ 0 ∷ 2 ∷ 1 ∷ []
unfolding first mem all_of any_of from lead rest leads begins run
run_D = refl

pub run_across : run ([] ∷ [] ∷ [] ∷ (1 ∷ 4 ∷ 0 ∷ 2 ∷ []) ∷ []) (0 ∷ 1 ∷ 2 ∷ []) 3 ≡ 0 ∷ 2 ∷ 1 ∷ []
unfolding first mem all_of any_of from lead rest leads begins run
run_across = refl

-- at the last position the run is the whole ring, from v1 to v2
pub run_last : run ([] ∷ [] ∷ [] ∷ [] ∷ (3 ∷ 1 ∷ 0 ∷ []) ∷ []) (0 ∷ 1 ∷ 2 ∷ 3 ∷ []) 4 ≡ 0 ∷ 3 ∷ 1 ∷ []
unfolding first mem all_of any_of from lead rest leads begins run
run_last = refl

-- three posts of D fit so far: 3 and vn, which is 4, still wait
abbrev begun : List ℕ
begun = 0 ∷ 1 ∷ 2 ∷ []

third : (Q : ℕ → Type 0) → Q 3 → (k : ℕ) → 3 ≤ k → k ≤ length begun → Q k
third Q q zero h i = absurd (omega arith)
third Q q (suc zero) h i = absurd (omega arith)
third Q q (suc (suc zero)) h i = absurd (omega arith)
third Q q (suc (suc (suc zero))) h i = q
third Q q (suc (suc (suc (suc k)))) h i = absurd (omega arith)

pub fits_D : FitsSoFar lists_d 4 begun
unfolding first some mem any_of count from rest leads two_placed one_run
fits_D =
    record {
      below = below;
      once = once_different begun once;
      two = third (λ k. two_placed lists_d (earlier begun k) (post begun k) ≡ true) refl;
      run = third (λ k. one_run lists_d (earlier begun k) (post begun k) ≡ true) refl;
      last = last;
    }
  where
    below : (a : ℕ) → In a begun → a < length lists_d
    below a (inl e) = omega arith
    below a (inr (inl e)) = omega arith
    below a (inr (inr (inl e))) = omega arith
    below a (inr (inr (inr z))) = absurd z

    once : Once begun
    once = (
      elim [ inl e ↦ absurd (omega (arith, e)) | inr (inl e) ↦ absurd (omega (arith, e)) | inr (inr z) ↦ absurd z ],
      (elim [ inl e ↦ absurd (omega (arith, e)) | inr z ↦ absurd z ], ((λ z. z), tt)),
    )

    last : (k : ℕ) → 1 ≤ k → k ≤ length begun → post begun k ≡ 4 → k ≡ length lists_d
    last zero h i e = absurd (omega arith)
    last (suc zero) h i e = absurd (omega (arith, e))
    last (suc (suc zero)) h i e = absurd (omega (arith, e))
    last (suc (suc (suc zero))) h i e = absurd (omega (arith, e))
    last (suc (suc (suc (suc k)))) h i e = absurd (omega arith)

-- post 3 fits next, and taken back again leaves a list that fits
pub fits_D_next : FitsSoFar lists_d 4 (begun ++ 3 ∷ [])
unfolding first some mem any_of count from rest leads two_placed one_run
fits_D_next = fits_more lists_d 4 begun fits_D 3 (omega arith) new refl refl (λ e. absurd (omega (arith, e)))
  where
    new : ¬ (In 3 begun)
    new (inl e) = omega (arith, e)
    new (inr (inl e)) = omega (arith, e)
    new (inr (inr (inl e))) = omega (arith, e)
    new (inr (inr (inr z))) = z

pub fits_D_back : FitsSoFar lists_d 4 (take 3 (begun ++ 3 ∷ []))
fits_D_back = fits_take lists_d 4 (begun ++ 3 ∷ []) fits_D_next 3 (omega (arith, length-append begun (3 ∷ [])))
