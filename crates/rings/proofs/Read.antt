-- Reading the neighbour lists: what stands in the arrays is the block's lists.
use Prim.Native.Nat.{ℕ, zero, suc, ◌+◌, ◌*◌, ◌≤◌, ◌<◌}
use mathlib.Core.Path.{◌≡◌, refl, sym, ap, ◌∙◌}
use mathlib.Core.List.{List, [], ◌∷◌}
use native.Mathlib.Omega.{arith}
use lib.ListN.{length, get_or, take, drop}
use lib.Seq.{slice, get_or-take, length-take-le}
use Rattle.words.specs.Numbers.{word_at, words_at, sum_of}
use Rattle.words.proofs.Numbers.{words_length, sum_part, sum_step}
use Rattle.block.specs.Layout.{entries, lists_at}
use Rattle.block.specs.Block.{posts, degrees, lists_from, lists}
use Rattle.rings.specs.Held.{held, Cuts}

-- a part of the numbers from byte i on
take_words : (s : List ℕ) (b m i : ℕ) → b ≤ m → take b (words_at s i m) ≡ words_at s i b
unfolding words_at
take_words s zero m i h = refl
take_words s (suc b) zero i h = absurd (omega arith)
take_words s (suc b) (suc m) i h = ap (λ (l : List ℕ). word_at s i ∷ l) (take_words s b m (i + 2) (omega arith))

drop_words : (s : List ℕ) (a d i : ℕ) → drop a (words_at s i (a + d)) ≡ words_at s (i + 2 * a) d
unfolding words_at
drop_words s zero d i = let e : 0 + d ≡ d = omega arith in let f : i + 2 * 0 ≡ i = omega arith in rw (e, f) refl
drop_words s (suc a) d i =
    let e : suc a + d ≡ suc (a + d) = omega arith in
    let f : i + 2 + 2 * a ≡ i + 2 * suc a = omega arith in
    rw e (drop_words s a d (i + 2) ∙ ap (λ (j : ℕ). words_at s j d) f)

part_words : (s : List ℕ) (a d m i : ℕ) → a + d ≤ m → slice a (a + d) (words_at s i m) ≡ words_at s (i + 2 * a) d
part_words s a d m i h = ap (drop a) (take_words s (a + d) m i h) ∙ drop_words s a d i

-- lists that begin at the running sums of their degrees
held_lists : (s : List ℕ) (i m : ℕ) (ds at : List ℕ) (o : ℕ) → length at ≡ length ds + 1
    → ((u : ℕ) → u ≤ length ds → get_or at u 0 ≡ o + sum_of (take u ds)) → o + sum_of ds ≤ m → held at (words_at s i m) ≡ lists_from s (i + 2 * o) ds
unfolding held lists_from sum_of
held_lists s i m [] [] o l f h = absurd (omega arith)
held_lists s i m [] (a ∷ []) o l f h = refl
held_lists s i m [] (a ∷ b ∷ at) o l f h = absurd (omega arith)
held_lists s i m (d ∷ ds) [] o l f h = absurd (omega arith)
held_lists s i m (d ∷ ds) (a ∷ []) o l f h = absurd (omega arith)
held_lists s i m (d ∷ ds) (a ∷ b ∷ at) o l f h =
    let p : a ≡ o = omega (arith, f 0 (omega arith)) in
    let q : b ≡ o + d = omega (arith, f 1 (omega arith)) in
    let z : i + 2 * (o + d) ≡ i + 2 * o + 2 * d = omega arith in
    let r = held_lists s i m ds (b ∷ at) (o + d) (omega arith) (λ u k. omega (arith, f (suc u) (omega arith))) (omega arith) in
    let first = ap (λ (y : ℕ). slice y b (words_at s i m)) p ∙ ap (λ (y : ℕ). slice o y (words_at s i m)) q ∙ part_words s o d m i (omega arith) in
    ap (λ (y : List ℕ). y ∷ held (b ∷ at) (words_at s i m)) first
    ∙ ap (λ (y : List (List ℕ)). words_at s (i + 2 * o) d ∷ y) (r ∙ ap (λ (y : ℕ). lists_from s y ds) z)

-- the sum of one degree more
sum_rise : (ds : List ℕ) (u : ℕ) → u < length ds → sum_of (take u ds) ≤ sum_of (take (u + 1) ds)
sum_rise ds u h = omega (arith, sum_step ds u h)

module _ (s at ents ds : List ℕ) (n i : ℕ) (is : n ≡ posts s) (ei : i ≡ lists_at n) (ed : ds ≡ degrees s) (total : sum_of ds ≡ entries n) (room : n < length at)
    (starts : (u : ℕ) → u ≤ length ds → get_or at u 0 ≡ sum_of (take u ds)) (unpacked : take (entries n) ents ≡ words_at s i (entries n)) where
  all : length ds ≡ n
  unfolding degrees
  all = ap length ed ∙ words_length s (posts s) _ ∙ sym is

  long : length (take (n + 1) at) ≡ n + 1
  long = length-take-le (n + 1) at (omega arith)

  at_is : (u : ℕ) → u ≤ n → get_or (take (n + 1) at) u 0 ≡ sum_of (take u ds)
  at_is u h = get_or-take (n + 1) at u 0 (omega arith) ∙ starts u (omega (arith, all))

  pub read_lists : held (take (n + 1) at) (take (entries n) ents) ≡ lists s
  unfolding lists
  read_lists =
      let e : i + 2 * 0 ≡ lists_at (posts s) = omega (arith, ei, is) in
      let read = held_lists s i (entries n) ds (take (n + 1) at) 0 (omega (arith, long, all)) (λ u h. omega (arith, at_is u (omega (arith, all)))) in
      rw unpacked (read (omega (arith, total)) ∙ ap (λ (y : ℕ). lists_from s y ds) e ∙ ap (lists_from s (lists_at (posts s))) ed)

  pub read_cuts : Cuts (take (n + 1) at) (take (entries n) ents)
  read_cuts =
      record {
        rise = λ u h. omega (arith, at_is u (omega (arith, long)), at_is (u + 1) (omega (arith, long)), sum_rise ds u (omega (arith, long, all)));
        within = λ u h. omega (arith, at_is u (omega (arith, long)), sum_part ds u, total, ap length unpacked, words_length s (entries n) i);
      }

pub degrees_count : (s ds : List ℕ) → ds ≡ degrees s → length ds ≡ posts s
unfolding degrees
degrees_count s ds e = ap length e ∙ words_length s (posts s) _
