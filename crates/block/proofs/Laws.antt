-- Laws of the block's tests: what each answers, by what the code compared.
use Prim.Native.Nat.{ℕ, zero, suc, ◌+◌, ◌-◌, ◌≤◌, ◌<◌}
use mathlib.Core.Path.{◌≡◌, refl, sym}
use mathlib.Core.Bool.{◌||◌, or-true, or-false, or_assoc}
use native.Mathlib.Decide.{ℕ_discrete, dec_lt}
use mathlib.Core.List.{List, [], ◌∷◌, ◌++◌}
use native.Mathlib.Omega.{arith}
use Rattle.std.specs.List.{starts_with}
use Rattle.std.proofs.lemmas.Grind.{common_steps}
use Rattle.std.specs.Ordering.{is_le, is_lt, nat_cmp}
use Rattle.std.proofs.Common.{not, leb, ◌&&◌}
use Rattle.std.proofs.lemmas.Bool.Decides.{nat_tests}
use lib.Dec.{eqb}
use lib.ListN.{length, get_or, take, set, replicate}
use lib.Seq.{take-suc, get_or-set_same, get_or-set_other}
use borrow.Author.Tests.{le-leb, eq-eqb, ne_eqb}
use Rattle.words.specs.Lists.{mem}
use Rattle.words.specs.Positions.{earlier}
use Rattle.block.specs.Block.{marked, bad_entry, bad_degree}

-- ---- the mark

pub mark_starts : (s : List ℕ) → 7 ≤ length s → starts_with eqb s (0x50 ∷ 0x47 ∷ 0x42 ∷ []) ≡ marked s
unfolding marked
mark_starts (a ∷ b ∷ c ∷ s) h = grind (arith, common_steps)
mark_starts [] h = absurd (omega arith)
mark_starts (a ∷ []) h = absurd (omega arith)
mark_starts (a ∷ b ∷ []) h = absurd (omega arith)

-- ---- degrees

-- in the range and not at fault are the same, of a degree d
pub degree_test : (n : ℕ) (ds : List ℕ) (u d : ℕ) → d ≡ get_or ds u 0 → 1 ≤ n → bad_degree n ds u ≡ not (is_le (nat_cmp 2 d) && is_lt (nat_cmp d n))
unfolding bad_degree
degree_test n ds u d is h = rw (← is) (grind (arith, nat_tests))

-- ---- marks: a name is marked if it stands in an earlier position

mem_snoc : (l : List ℕ) (a b : ℕ) → mem (l ++ a ∷ []) b ≡ (mem l b || eqb b a)
unfolding mem
mem_snoc [] a b = or-false (eqb b a)
mem_snoc (x ∷ l) a b = rw (mem_snoc l a b) (sym (or_assoc (eqb b x) (mem l b) (eqb b a)))

abbrev pub Marked : List ℕ → List ℕ → ℕ → Type 0
Marked vs marks k = (a : ℕ) → a < length vs → eqb (get_or marks a 0) 1 ≡ mem (earlier vs k) a

pub unmarked : (vs marks : List ℕ) → ((a : ℕ) → get_or marks a 0 ≡ 0) → Marked vs marks 1
unfolding mem
unmarked vs marks z a h = rw (z a)

-- at position i + 1 the name is a
module _ (vs marks : List ℕ) (i a : ℕ) (is : a ≡ get_or vs i 0) (m : Marked vs marks (i + 1)) where
  -- what the code asks of the entry there
  pub entry_test : bad_entry (length vs) vs (i + 1) ≡ (leb (length vs) a || eqb (get_or marks a 0) 1)
  unfolding bad_entry
  entry_test = let e : i + 1 - 1 ≡ i = omega arith in rw (e, ← is) (rw e at go (dec_lt a (length vs)))
    where
      go : Dec (a < length vs) → (leb (length vs) a || mem (earlier vs (i + 1)) a) ≡ (leb (length vs) a || eqb (get_or marks a 0) 1)
      go (yes h) = rw (m a h)
      go (no n) = rw (le-leb (length vs) a (omega arith))

  pub mark_more : i < length vs → a < length marks → Marked vs (set marks a 1) (i + 1 + 1)
  mark_more to room b h =
      let e : i + 1 + 1 - 1 ≡ suc i = omega arith in
      let f : i + 1 - 1 ≡ i = omega arith in
      rw (e, take-suc vs i 0 to, mem_snoc (take i vs) (get_or vs i 0) b, ← is) (rw f at go (ℕ_discrete b a))
    where
      go : Dec (b ≡ a) → eqb (get_or (set marks a 1) b 0) 1 ≡ (mem (earlier vs (i + 1)) b || eqb b a)
      go (yes q) = rw (eq-eqb b a q, q, get_or-set_same marks a 1 0 room, or-true)
      go (no n) = rw (ne_eqb b a n, get_or-set_other marks a b 1 0 n, or-false) (m b h)

-- ---- no marks

pub zeros_at : (k a : ℕ) → get_or {A = ℕ} (replicate k 0) a 0 ≡ 0
zeros_at zero a = refl
zeros_at (suc k) zero = refl
zeros_at (suc k) (suc a) = zeros_at k a
