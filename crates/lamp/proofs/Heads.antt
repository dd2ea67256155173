-- The header's groups, by what the code compared; and what their passing means.
use Prim.Native.Nat.{ℕ, ◌≤◌, ◌<◌}
use mathlib.Core.Path.{◌≡◌, refl, sym, ap, ◌∙◌}
use mathlib.Core.Bool.{Bool, true, false, not, ◌&&◌, true≢false}
use mathlib.Core.List.{List, [], ◌∷◌, ◌++◌}
use native.Mathlib.Omega.{arith}
use lib.Dec.{ltb, eqb}
use lib.ListN.{length, get_or, take}
use lib.Seq.{get_or-take}
use borrow.Author.Tests.{lt-ltb, le-ltb, eq-eqb, ne_eqb, ltb-false, eqb-true, not-false}
use Rattle.words.proofs.Tests.{neither}
use Rattle.block.specs.Layout.{limit, size}
use Rattle.block.specs.Block.{mark, version, posts, stated_sum, earlier_sum, marked, Framed, Headed}
use Rattle.lamp.specs.Lamp.{short_row, mark_row, version_row, posts_row, length_row, sum_row, opening_rows, size_rows, header_rows, sum_rows}
use Rattle.lamp.specs.Given.{reply_of, given, nothing, tried, NoneApplies}
use Rattle.lamp.specs.declared.Refusal.TheVariants.{Short, Mark, Version, Posts, Length, Sum}
use Rattle.std.proofs.Common.{Err}
use Rattle.lamp.proofs.Given.{given_first, none_left, none_right}

both_true : (x y : Bool) → x && y ≡ true → (x ≡ true) × (y ≡ true)
both_true true y e = (refl, e)
both_true false y e = absurd (true≢false (sym e))

-- the mark, by its letters and as the first three bytes
mark_is : (s : List ℕ) → 7 ≤ length s → marked s ≡ true → take 3 s ≡ mark
unfolding marked
mark_is [] h t = absurd (omega arith)
mark_is (a ∷ []) h t = absurd (omega arith)
mark_is (a ∷ b ∷ []) h t = absurd (omega arith)
mark_is (a ∷ b ∷ c ∷ s) h t =
    let x = both_true (eqb a 0x50) (eqb b 0x47 && eqb c 0x42) t in
    let y = both_true (eqb b 0x47) (eqb c 0x42) x.1 in
    rw (eqb-true a 0x50 x.0, eqb-true b 0x47 y.0, eqb-true c 0x42 y.1) refl

letter : (s : List ℕ) (i : ℕ) → i < 3 → take 3 s ≡ mark → get_or s i 0 ≡ get_or mark i 0
letter s i h e = sym (get_or-take 3 s i 0 h) ∙ ap (λ (l : List ℕ). get_or l i 0) e

is_marked : (s : List ℕ) → take 3 s ≡ mark → marked s ≡ true
unfolding marked
is_marked s e =
    let a = eq-eqb (get_or s 0 0) 0x50 (letter s 0 (omega arith) e) in
    let b = eq-eqb (get_or s 1 0) 0x47 (letter s 1 (omega arith) e) in
    let c = eq-eqb (get_or s 2 0) 0x42 (letter s 2 (omega arith) e) in
    rw (a, b, c) refl

module _ (s : List ℕ) where
  -- ---- the opening

  pub short : length s < 7 → reply_of (Err Short) ≡ given opening_rows s posts
  short h = sym (given_first s posts [] short_row (mark_row ∷ version_row ∷ []) tt (lt-ltb (length s) 7 h))

  module _ (long : 7 ≤ length s) where
    not_short : short_row.when s ≡ false
    not_short = le-ltb (length s) 7 long

    pub no_mark : marked s ≡ false → reply_of (Err Mark) ≡ given opening_rows s posts
    no_mark m = sym (given_first s posts (short_row ∷ []) mark_row (version_row ∷ []) (not_short, tt) (ap not m))

    module _ (mark : marked s ≡ true) where
      pub other_version : (version s ≡ 1 → ⊥) → reply_of (Err Version) ≡ given opening_rows s posts
      other_version v =
          sym (given_first s posts (short_row ∷ mark_row ∷ []) version_row [] (not_short, (ap not mark, tt)) (ap not (ne_eqb (version s) 1 v)))

      pub opening_passes : version s ≡ 1 → NoneApplies opening_rows s
      opening_passes one = (not_short, (ap not mark, (ap not (eq-eqb (version s) 1 one), tt)))

  -- ---- the size

  pub few_posts : posts s < 3 → reply_of (Err Posts) ≡ tried size_rows s
  few_posts h = sym (given_first s nothing [] posts_row (length_row ∷ []) tt (rw (lt-ltb (posts s) 3 h) refl))

  module _ (least : 3 ≤ posts s) where
    pub many_posts : limit < posts s → reply_of (Err Posts) ≡ tried size_rows s
    many_posts h = sym (given_first s nothing [] posts_row (length_row ∷ []) tt (rw (le-ltb (posts s) 3 least, lt-ltb limit (posts s) h) refl))

    module _ (most : posts s ≤ limit) where
      in_range : posts_row.when s ≡ false
      in_range = rw (le-ltb (posts s) 3 least, le-ltb limit (posts s) most) refl

      pub other_length : (length s ≡ size (posts s) → ⊥) → reply_of (Err Length) ≡ tried size_rows s
      other_length h = sym (given_first s nothing (posts_row ∷ []) length_row [] (in_range, tt) (ap not (ne_eqb (length s) (size (posts s)) h)))

      pub size_passes : length s ≡ size (posts s) → NoneApplies size_rows s
      size_passes sized = (in_range, (ap not (eq-eqb (length s) (size (posts s)) sized), tt))

  pub size_headed : (n : ℕ) → n ≡ posts s → NoneApplies size_rows s → Headed s n
  size_headed n is h =
      let range = neither (ltb (posts s) 3) (ltb limit (posts s)) h.0 in
      let all : length_row.when s ≡ false = search in
      let sized = eqb-true (length s) (size (posts s)) (not-false (eqb (length s) (size (posts s))) all) in
      record {
        is = is;
        least = omega (arith, ltb-false (posts s) 3 range.0, is);
        most = omega (arith, ltb-false limit (posts s) range.1, is);
        sized = sized ∙ ap size (sym is);
      }

  -- ---- the sum

  pub other_sum : (stated_sum s ≡ earlier_sum s → ⊥) → reply_of (Err Sum) ≡ tried sum_rows s
  other_sum h = sym (given_first s nothing [] sum_row [] tt (ap not (ne_eqb (stated_sum s) (earlier_sum s) h)))

  pub sum_passes : stated_sum s ≡ earlier_sum s → NoneApplies sum_rows s
  sum_passes h = (ap not (eq-eqb (stated_sum s) (earlier_sum s) h), tt)

  -- ---- where all pass, the mark, version, size and sum are right

  pub framed : NoneApplies (header_rows ++ sum_rows) s → Framed s
  framed h =
      let long : short_row.when s ≡ false = search in
      let marks : mark_row.when s ≡ false = search in
      let one : version_row.when s ≡ false = search in
      let range : posts_row.when s ≡ false = search in
      let all : length_row.when s ≡ false = search in
      let sum : sum_row.when s ≡ false = search in
      let r = neither (ltb (posts s) 3) (ltb limit (posts s)) range in
      record {
        mark_right = mark_is s (ltb-false (length s) 7 long) (not-false (marked s) marks);
        version_right = eqb-true (version s) 1 (not-false (eqb (version s) 1) one);
        posts_least = ltb-false (posts s) 3 r.0;
        posts_most = ltb-false limit (posts s) r.1;
        size_right = eqb-true (length s) (size (posts s)) (not-false (eqb (length s) (size (posts s))) all);
        sum_right = eqb-true (stated_sum s) (earlier_sum s) (not-false (eqb (stated_sum s) (earlier_sum s)) sum);
      }

  pub framed_headed : (n : ℕ) → n ≡ posts s → NoneApplies (header_rows ++ sum_rows) s → Headed s n
  framed_headed n is h = size_headed n is (none_left size_rows sum_rows s (none_right opening_rows (size_rows ++ sum_rows) s h))

  -- and the other way round
  pub framed_none : Framed s → NoneApplies (header_rows ++ sum_rows) s
  framed_none F =
      let long : 7 ≤ length s = omega (arith, F.size_right, F.posts_least) in
      let a : NoneApplies opening_rows s = opening_passes long (is_marked s F.mark_right) F.version_right in
      let b : NoneApplies size_rows s = size_passes F.posts_least F.posts_most F.size_right in
      let c : NoneApplies sum_rows s = sum_passes F.sum_right in
      search
