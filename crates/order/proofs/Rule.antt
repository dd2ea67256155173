-- The rule at a position, by what the pass over the ring of the post there found.
use Prim.Native.Nat.{ℕ, ◌+◌, ◌-◌, ◌≤◌, ◌<◌}
use mathlib.Core.Path.{◌≡◌, refl, ap, ap₂, sym, ◌∙◌}
use mathlib.Core.Logic.{◌≢◌, ◌⊎◌, inl, inr}
use mathlib.Core.Bool.{Bool, true, false}
use mathlib.Core.List.{List}
use native.Mathlib.Omega.{arith}
use lib.Dec.{leb, eqb}
use lib.ListN.{length, get_or}
use lib.Seq.{get_or-take}
use borrow.Author.Tests.{le-leb, lt-leb}
use native.Mathlib.Decide.{dec_lt}
use Rattle.std.specs.Prelude.{Result, Ok, Err}
use Rattle.std.specs.List.{position}
use Rattle.std.specs.Option.{unwrap_or}
use Rattle.words.specs.First.{first, first_if}
use Rattle.words.specs.Lists.{mem, count}
use Rattle.words.specs.Positions.{post, earlier}
use Rattle.words.proofs.First.{first_is, some_first_if, none_first_if, first_position}
use Rattle.words.proofs.Lists.{Once}
use Rattle.words.proofs.Tests.{is_true, is_false, mem_in, count_length, count_two, place_in, different_once}
use Rattle.words.proofs.Positions.{in_earlier}
use Rattle.rings.specs.Rings.{ring, around}
use Rattle.rings.proofs.Says.{RingKept, ring_says}
use Rattle.order.specs.Order.{two_placed, one_run, run_begin, run}
use Rattle.order.specs.Opens.{before, openings, last_opening}
use Rattle.order.specs.Ranked.{NamesBelow, Listed, fit_of}
use Rattle.order.specs.declared.Run.{Run}
use Rattle.order.specs.declared.Misfit.{Misfit}
use Rattle.order.specs.declared.Misfit.TheVariants.{Few, Broken}
use Rattle.order.proofs.Starts.{starts, one_run_starts, starts_one_run}
use Rattle.order.proofs.Opens.{pass_same, openings_starts, opened, all_placed}
use Rattle.order.proofs.Begins.{run_at_lem, run_whole_begin, run_whole_length}
use Rattle.order.proofs.Ranked.{before_says}

-- the place of the first entry that passes, or the list's length
module _ (p : ℕ → Bool) (l : List ℕ) where
  abbrev passes : ℕ → Bool
  passes u = p (get_or l u 0)

  place_is : unwrap_or (position p l) (length l) ≡ first 0 (length l) passes
  place_is = rw (first_position p l) (go (dec_lt (first 0 (length l) passes) (length l)))
    where
      go : Dec (first 0 (length l) passes < length l) → unwrap_or (first_if 0 (length l) passes) (length l) ≡ first 0 (length l) passes
      go (yes h) = rw (← some_first_if passes 0 (length l) (first 0 (length l) passes) refl (omega arith)) refl
      go (no n) =
          let e : 0 + length l ≡ first 0 (length l) passes = omega (arith, (first_is passes (length l) 0).to) in
          rw (← none_first_if passes 0 (length l) e) (omega arith)

-- of the post in position k, and its ring
module _ (G : List (List ℕ)) (vs rank : List ℕ) (L : Listed G vs rank) (k : ℕ) (to : k ≤ length vs) (low : post vs k < length G) where
  abbrev R : List ℕ
  R = ring G (post vs k)

  abbrev P : List ℕ
  P = earlier vs k

  kept : RingKept G (post vs k)
  kept = ring_says G (post vs k) (L.rings (post vs k) low)

  once : Once (ring G (post vs k))
  once = different_once R kept.once

  -- its entries are names whose positions are known
  pub ready : NamesBelow (ring G (post vs k)) (length rank)
  ready i h = omega (arith, kept.below (get_or R i 0) (place_in R i h), L.ranked.room)

  -- what the pass found is said of the posts placed
  abbrev Found : (ℕ → Bool) → ℕ → ℕ → ℕ → Type 0
  Found p many runs begin = (many ≡ count p (ring G (post vs k))) × (runs ≡ openings p (ring G (post vs k))) × (begin ≡ last_opening p (ring G (post vs k)))

  abbrev got : Run → Result Run Misfit
  got r = Ok r

  abbrev found : Result Run Misfit
  found = fit_of G (earlier vs k) (post vs k)

  -- v1's place in the ring
  abbrev first_place : ℕ
  first_place = unwrap_or (position (λ x. eqb x (get_or vs 0 0)) (ring G (post vs k))) (length (ring G (post vs k)))

  module _ (many runs begin : ℕ) (f0 : Found (before rank k) many runs begin) where
    f : Found (mem (earlier vs k)) many runs begin
    f =
        let same = pass_same (before rank k) (mem P) R (λ a i. before_says (length G) vs rank L.ranked a (kept.below a i) k (omega arith)) in
        (f0.0 ∙ same.0, f0.1 ∙ same.1, f0.2 ∙ same.2)

    two_is : two_placed G (earlier vs k) (post vs k) ≡ leb 2 many
    unfolding two_placed
    two_is = rw f.0 refl

    pub rule_few : many < 2 → Err Few ≡ found
    rule_few few = rw (two_is, lt-leb 2 many few) refl

    -- a number in a ring is no larger than it is long
    pub many_most : many ≤ length (ring G (post vs k))
    many_most = omega (arith, f.0, count_length (mem P) R)

    module _ (enough : 2 ≤ many) where
      starts_are : starts (earlier vs k) (around (ring G (post vs k))) ≡ runs
      starts_are = sym (f.1 ∙ openings_starts P R)

      pub rule_broken : 1 < runs → Err Broken ≡ found
      rule_broken more =
          let one = one_run G P (post vs k) in
          let no : one ≡ false = is_false one (λ t. omega (arith, starts_are, one_run_starts G P (post vs k) (is_true one t))) in
          rw (two_is, le-leb 2 many enough, no) refl

      one_yes : runs ≤ 1 → one_run G (earlier vs k) (post vs k) ≡ true
      one_yes few = starts_one_run G P (post vs k) (omega (arith, f.0, count_length (mem P) R)) (omega (arith, starts_are))

      good : runs ≤ 1 → (s : ℕ) → (run_begin G (earlier vs k) (post vs k) ≡ s)
          × (length (run G (earlier vs k) (post vs k)) ≡ count (mem (earlier vs k)) (ring G (post vs k)))
          → Ok (record { begin = s; many = many }) ≡ found
      good few s r =
          rw (two_is, le-leb 2 many enough, one_yes few)
          (ap₂ (λ (b m : ℕ). got (record { begin = b; many = m })) (sym r.0) (f.0 ∙ sym r.1))

      -- the run begins at the place found
      at_opening : runs ≡ 1 → (begin < length (ring G (post vs k))) × (Ok (record { begin = begin; many = many }) ≡ found)
      at_opening one =
          let o = opened P R (omega (arith, f.1)) in
          let r = run_at_lem G P (post vs k) once (one_yes (omega arith)) (last_opening (mem P) R) o.0 o.1.0 o.1.1 o.1.2 o.2 in
          (omega (arith, o.0, f.2), good (omega arith) begin (r.0 ∙ sym f.2, r.1))

      -- the whole ring is placed, and the run begins at v1's place
      at_first : runs ≢ 1 → runs ≤ 1 → (s : ℕ) → s ≡ first_place
          → (s ≤ length (ring G (post vs k))) × (Ok (record { begin = s; many = many }) ≡ found)
      at_first other few s es =
          let none : runs ≡ 0 = omega arith in
          let w = count_two (mem P) R once (omega (arith, f.0)) in
          let on = mem_in P w.0 w.5 in
          let all = all_placed P R (sym f.1 ∙ none) w.0 w.3 on in
          let v1 : post P 1 ≡ get_or vs 0 0 = get_or-take (k - 1) vs 0 0 (omega (arith, (in_earlier vs k w.0 on).1, (in_earlier vs k w.0 on).2)) in
          let at_v1 = run_whole_begin G P (post vs k) all ∙ ap (λ (a : ℕ). first 0 (length R) (λ s. eqb (get_or R s 0) a)) v1 in
          let placed = es ∙ place_is (λ x. eqb x (get_or vs 0 0)) R in (
            omega (arith, placed, (first_is (λ s. eqb (get_or R s 0) (get_or vs 0 0)) (length R) 0).to),
            good (omega arith) s (at_v1 ∙ sym placed, run_whole_length G P (post vs k) all),
          )

      pub rule_good : runs ≤ 1 → (s : ℕ) → ((runs ≡ 1) × (s ≡ begin)) ⊎ ((runs ≢ 1) × (s ≡ first_place))
          → (s ≤ length (ring G (post vs k))) × (Ok (record { begin = s; many = many }) ≡ found)
      rule_good few s (inl (one, e)) = let r = at_opening one in rw e (omega (arith, r.0), r.1)
      rule_good few s (inr (other, e)) = at_first other few s e
