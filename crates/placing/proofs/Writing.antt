-- Entries of a buffer, two more at each turn: the sheet's, and the ends of runs.
use Prim.Native.Nat.{ℕ, suc, ◌+◌, ◌*◌, ◌≤◌, ◌<◌}
use mathlib.Core.Path.{◌≡◌, refl, ap, sym, ◌∙◌}
use mathlib.Core.Logic.{inl, inr}
use mathlib.Core.List.{List, [], ◌∷◌, ◌++◌, flat_map, append_assoc}
use native.Mathlib.Omega.{arith}
use native.Mathlib.Numerals.{add-one}
use lib.ListN.{length, get_or, set, take, drop, length-set, length-append}
use lib.Seq.{take-suc, drop-cons, set_at, length-take-le}
use Rattle.words.specs.Lists.{In}
use Rattle.placing.specs.Pairs.{pairs}

-- two numbers of each post of a list
module _ (f g : ℕ → ℕ) where
  abbrev pub twos : List ℕ → List ℕ
  twos l = flat_map (λ u. f u ∷ g u ∷ []) l

  twos_length : (l : List ℕ) → length (twos l) ≡ 2 * length l
  unfolding flat_map
  twos_length [] = refl
  twos_length (u ∷ l) = omega (arith, twos_length l)

  twos_append : (l : List ℕ) (u : ℕ) → twos (l ++ u ∷ []) ≡ twos l ++ f u ∷ g u ∷ []
  unfolding flat_map
  twos_append [] u = refl
  twos_append (w ∷ l) u = ap (λ (r : List ℕ). f w ∷ g w ∷ r) (twos_append l u)

  twos_none : twos [] ≡ []
  unfolding flat_map
  twos_none = refl

-- lists of numbers that agree for each post
pub twos_same : (f g p q : ℕ → ℕ) (l : List ℕ) → ((u : ℕ) → In u l → (f u ≡ p u) × (g u ≡ q u)) → twos f g l ≡ twos p q l
unfolding flat_map
twos_same f g p q [] h = refl
twos_same f g p q (u ∷ l) h = let e = h u (inl refl) in rw (e.0, e.1, twos_same f g p q l (λ w i. h w (inr i))) refl

pub pairs_twos : (xs ys l : List ℕ) → pairs xs ys l ≡ twos (λ u. get_or xs u 0) (λ u. get_or ys u 0) l
unfolding pairs flat_map
pairs_twos xs ys [] = refl
pairs_twos xs ys (u ∷ l) = ap (λ (r : List ℕ). get_or xs u 0 ∷ get_or ys u 0 ∷ r) (pairs_twos xs ys l)

two_more : (P B : List ℕ) (n x y : ℕ) → length P ≡ n → n + 1 < length B → set (set (P ++ drop n B) n x) (n + 1) y ≡ (P ++ x ∷ y ∷ []) ++ drop (n + 2) B
two_more P B n x y e h =
    let d : drop n B ≡ get_or B n 0 ∷ get_or B (suc n) 0 ∷ drop (suc (suc n)) B =
    drop-cons B n 0 (omega arith) ∙ ap (λ (r : List ℕ). get_or B n 0 ∷ r) (drop-cons B (suc n) 0 (omega arith)) in
    let a : set (P ++ drop n B) n x ≡ P ++ x ∷ get_or B (suc n) 0 ∷ drop (suc (suc n)) B =
    ap (λ (r : List ℕ). set (P ++ r) n x) d ∙ set_at P (get_or B n 0) (get_or B (suc n) 0 ∷ drop (suc (suc n)) B) x n e in
    let b : P ++ x ∷ get_or B (suc n) 0 ∷ drop (suc (suc n)) B ≡ (P ++ x ∷ []) ++ get_or B (suc n) 0 ∷ drop (suc (suc n)) B =
    sym (append_assoc P (x ∷ []) (get_or B (suc n) 0 ∷ drop (suc (suc n)) B)) in
    let f : set ((P ++ x ∷ []) ++ get_or B (suc n) 0 ∷ drop (suc (suc n)) B) (n + 1) y ≡ (P ++ x ∷ []) ++ y ∷ drop (suc (suc n)) B =
    set_at (P ++ x ∷ []) (get_or B (suc n) 0) (drop (suc (suc n)) B) y (n + 1) (omega (arith, length-append P (x ∷ []))) in
    let g : suc (suc n) ≡ n + 2 = omega arith in
    ap (λ (r : List ℕ). set r (n + 1) y) (a ∙ b) ∙ f ∙ append_assoc P (x ∷ []) (y ∷ drop (suc (suc n)) B)
    ∙ sym (append_assoc P (x ∷ y ∷ []) (drop (suc (suc n)) B))
    ∙ ap (λ (m : ℕ). (P ++ x ∷ y ∷ []) ++ drop m B) g

-- two numbers for each of the first i posts, and the rest of the buffer as it came
pub record Writing (f g : ℕ → ℕ) (vs : List ℕ) (k : ℕ) (buffer₀ buffer : List ℕ) (i : ℕ) : Type 0 where
  pub upto : i ≤ k
  pub is : buffer ≡ twos f g (take i vs) ++ drop (2 * i) buffer₀
  pub same : length buffer ≡ length buffer₀

pub write_start : (f g : ℕ → ℕ) (vs : List ℕ) (k : ℕ) (buffer₀ : List ℕ) → Writing f g vs k buffer₀ buffer₀ 0
write_start f g vs k buffer₀ = record { upto = omega arith; is = rw (twos_none f g) refl; same = refl }

module _ {f g : ℕ → ℕ} {vs : List ℕ} {k : ℕ} {buffer₀ buffer : List ℕ} {i : ℕ} (R : Writing f g vs k buffer₀ buffer i) where
  pub write_done : k ≤ i → buffer ≡ twos f g (take k vs) ++ drop (2 * k) buffer₀
  write_done h = let e : k ≡ i = omega (arith, R.upto) in rw e R.is

  pub write_again : i < k → k ≤ length vs → 2 * k ≤ length buffer₀ → {x y : ℕ} → x ≡ f (get_or vs i 0) → y ≡ g (get_or vs i 0)
      → Writing f g vs k buffer₀ (set (set buffer (2 * i) x) (2 * i + 1) y) (i + 1)
  write_again h l b {x} {y} ex ey =
      let n : length (twos f g (take i vs)) ≡ 2 * i = omega (arith, twos_length f g (take i vs), length-take-le i vs (omega arith)) in
      let m : 2 * (i + 1) ≡ 2 * i + 2 = omega arith in
      let t : twos f g (take (i + 1) vs) ≡ twos f g (take i vs) ++ x ∷ y ∷ [] =
      rw (add-one, take-suc vs i 0 (omega arith), ex, ey) (twos_append f g (take i vs) (get_or vs i 0)) in
      record {
        upto = omega arith;
        is = rw (t, m, R.is) (two_more (twos f g (take i vs)) buffer₀ (2 * i) x y n (omega arith));
        same = simp length-set R.same;
      }
