-- The ends of a post's run, by its position; and what a record has.
use Prim.Native.Nat.{ℕ, ◌-◌, ◌≤◌, ◌<◌}
use mathlib.Core.Path.{◌≡◌, refl, ap, ap₂, sym, ◌∙◌}
use mathlib.Core.List.{List}
use native.Mathlib.Omega.{arith}
use native.Mathlib.Decide.{dec_lt}
use lib.ListN.{length, take}
use lib.Seq.{get_or-take, length-take-le, take-take}
use borrow.Author.Tests.{le-leb, lt-leb}
use Rattle.words.specs.Lists.{In, mem, Different, last_of}
use Rattle.words.specs.Positions.{post, earlier}
use Rattle.words.proofs.Tests.{is_true, is_false, in_mem, mem_in}
use Rattle.words.proofs.Positions.{position_at}
use Rattle.order.specs.Order.{run}
use Rattle.placing.specs.Records.{standing, run_of, fit_left, fit_right, record_of}
use Rattle.placing.specs.Stages.{Stage}
use Rattle.placing.specs.declared.Standing.TheVariants.{Waiting}

module _ (G : List (List ℕ)) where
  module _ (vs : List ℕ) (d : Different vs) (j : ℕ) (h : 1 ≤ j) (i : j ≤ length vs) where
    run_of_lem : run_of G vs (post vs j) ≡ run G (earlier vs j) (post vs j)
    unfolding run_of
    run_of_lem = rw (position_at vs d j h i) refl

    -- from position 3 on, the run's first and last post
    pub left_end_lem : 3 ≤ j → fit_left G vs (post vs j) ≡ post (run G (earlier vs j) (post vs j)) 1
    unfolding fit_left
    left_end_lem l = rw (position_at vs d j h i, le-leb 3 j l) (ap (λ (w : List ℕ). post w 1) run_of_lem)

    pub right_end_lem : 3 ≤ j → fit_right G vs (post vs j) ≡ last_of 0 (run G (earlier vs j) (post vs j))
    unfolding fit_right
    right_end_lem l = rw (position_at vs d j h i, le-leb 3 j l) (ap (last_of 0) run_of_lem)

    -- before it, the post's own name
    pub left_own : j < 3 → fit_left G vs (post vs j) ≡ post vs j
    unfolding fit_left
    left_own l = rw (position_at vs d j h i, lt-leb 3 j l) refl

    pub right_own : j < 3 → fit_right G vs (post vs j) ≡ post vs j
    unfolding fit_right
    right_own l = rw (position_at vs d j h i, lt-leb 3 j l) refl

  -- later posts of the list change nothing
  module _ (vs : List ℕ) (d : Different vs) (k j : ℕ) (h : 1 ≤ j) (l : j ≤ k) (i : k ≤ length vs) where
    front : Different (take k vs)
    front a b f g e =
        let n = length-take-le k vs i in
        d a b (omega arith) (omega arith) (sym (get_or-take k vs a 0 (omega arith)) ∙ e ∙ get_or-take k vs b 0 (omega arith))

    same_post : post (take k vs) j ≡ post vs j
    same_post = get_or-take k vs (j - 1) 0 (omega arith)

    same_run : run G (earlier (take k vs) j) (post (take k vs) j) ≡ run G (earlier vs j) (post vs j)
    same_run = ap₂ (λ (p : List ℕ) (v : ℕ). run G p v) (take-take (j - 1) k vs (omega arith)) same_post

    within : j ≤ length (take k vs)
    within = let n = length-take-le k vs i in omega arith

    pub left_front : fit_left G (take k vs) (post vs j) ≡ fit_left G vs (post vs j)
    left_front = go (dec_lt j 3)
      where
        go : Dec (j < 3) → fit_left G (take k vs) (post vs j) ≡ fit_left G vs (post vs j)
        go (yes s) = rw same_post at (left_own (take k vs) front j h within s) ∙ sym (left_own vs d j h (omega arith) s)
        go (no s) =
            rw same_post at (left_end_lem (take k vs) front j h within (omega arith)) ∙ ap (λ (w : List ℕ). post w 1) (rw same_post at same_run)
            ∙ sym (left_end_lem vs d j h (omega arith) (omega arith))

    pub right_front : fit_right G (take k vs) (post vs j) ≡ fit_right G vs (post vs j)
    right_front = go (dec_lt j 3)
      where
        go : Dec (j < 3) → fit_right G (take k vs) (post vs j) ≡ fit_right G vs (post vs j)
        go (yes s) = rw same_post at (right_own (take k vs) front j h within s) ∙ sym (right_own vs d j h (omega arith) s)
        go (no s) =
            rw same_post at (right_end_lem (take k vs) front j h within (omega arith)) ∙ ap (last_of 0) (rw same_post at same_run)
            ∙ sym (right_end_lem vs d j h (omega arith) (omega arith))

-- ---- a record, of a post that is placed and of one that waits
module _ (G : List (List ℕ)) (t : Stage) (u : ℕ) where
  pub recorded : In u t.placed
      → record_of G t u ≡ record { x = t.x u; y = t.y u; standing = standing t u; leftmost = fit_left G t.placed u; rightmost = fit_right G t.placed u }
  unfolding record_of
  recorded h = rw (is_true (mem t.placed u) (in_mem t.placed u h)) refl

  pub unplaced : ¬ (In u t.placed) → record_of G t u ≡ record { x = 0; y = 0; standing = Waiting; leftmost = u; rightmost = u }
  unfolding record_of
  unplaced n = rw (is_false (mem t.placed u) (λ h. n (mem_in t.placed u h))) refl
