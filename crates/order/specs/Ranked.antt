-- How running code holds an order, and what it finds in a ring.
use Rattle.std.specs.Prelude.{ℕ, ◌-◌, ◌≤◌, ◌<◌, ◌≡◌, true, cond, List, length, get_or, Some, Result, Ok, Err, slice_get}
use Rattle.words.specs.Lists.{In}
use Rattle.words.specs.Positions.{post, earlier}
use Rattle.rings.specs.Rings.{ring_rule}
use Rattle.order.specs.Order.{two_placed, one_run, run_begin, run}
use Rattle.order.specs.declared.Run.{Run}
use Rattle.order.specs.declared.Misfit.{Misfit}
use Rattle.order.specs.declared.Misfit.TheVariants.{Few, Broken}

-- the position of each name below n: a post of the list has its own there, any other name has one beyond the list
pub record RankedBelow (n : ℕ) (vs rank : List ℕ) : Type 0 where
  pub room : n ≤ length rank
  pub position : (k : ℕ) → 1 ≤ k → k ≤ length vs → get_or rank (post vs k) 0 ≡ k
  pub beyond : (a : ℕ) → a < n → ¬ (In a vs) → length vs < get_or rank a 0

-- where the list names each post
abbrev pub Ranked : List ℕ → List ℕ → Type 0
Ranked vs rank = RankedBelow (length vs) vs rank

-- the entries are names below n
abbrev pub NamesBelow : List ℕ → ℕ → Type 0
NamesBelow ring n = (i : ℕ) → i < length ring → get_or ring i 0 < n

-- rings that keep the ring rule, and a list of posts with the positions by name
pub record Listed (G : List (List ℕ)) (vs rank : List ℕ) : Type 0 where
  pub rings : (u : ℕ) → u < length G → ring_rule G u ≡ true
  pub ranked : RankedBelow (length G) vs rank

-- the run of v, the next post: where it begins in v's list, and how long it is. Where the whole ring is placed and the first post is not in it, the
-- begin is beyond the list
abbrev pub run_found : List (List ℕ) → List ℕ → ℕ → Run
run_found G placed v = record { begin = run_begin G placed v; many = length (run G placed v) }

-- for positions from 3 on and before m: the run of the post in position k is the k-th of a list
pub record RunsBefore (G : List (List ℕ)) (vs : List ℕ) (runs : List Run) (m : ℕ) : Type 0 where
  pub kept : (k : ℕ) → 3 ≤ k → k < m → slice_get runs (k - 1) ≡ Some (run_found G (earlier vs k) (post vs k))

-- what 12 and 13 find in v: its run; or fewer than two placed neighbours; or not one run
abbrev pub fit_of : List (List ℕ) → List ℕ → ℕ → Result Run Misfit
fit_of G placed v = cond (two_placed G placed v) (cond (one_run G placed v) (Ok (run_found G placed v)) (Err Broken)) (Err Few)
