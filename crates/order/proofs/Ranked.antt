-- Positions by name: earlier and later as comparisons of positions.
use Prim.Native.Nat.{ℕ, suc, ◌+◌, ◌-◌, ◌≤◌, ◌<◌}
use mathlib.Core.Path.{◌≡◌, sym, ap, ◌∙◌, subst}
use mathlib.Core.Bool.{true, false}
use mathlib.Core.List.{List}
use native.Mathlib.Omega.{arith}
use native.Mathlib.Decide.{ℕ_discrete, dec_lt}
use lib.Dec.{ltb}
use lib.ListN.{length, get_or, take, set}
use lib.Seq.{get_or-set_same, get_or-set_other}
use borrow.Author.Tests.{ltb-true, lt-ltb, le-ltb}
use Rattle.words.specs.Lists.{In, mem}
use Rattle.words.specs.Positions.{post, earlier, Earlier}
use Rattle.words.proofs.Lists.{in_dec, all_there}
use Rattle.words.proofs.Tests.{is_true, is_false, mem_in, in_mem, in_place, different_once}
use Rattle.words.proofs.Positions.{earlier_in, in_earlier, post_suc}
use Rattle.block.specs.Block.{bad_entry}
use Rattle.order.specs.Opens.{before}
use Rattle.order.specs.Ranked.{RankedBelow, Ranked}
use Rattle.order.proofs.Sound.{position_says, order_below, order_once}

module _ (n : ℕ) (vs rank : List ℕ) (R : RankedBelow n vs rank) (a : ℕ) (h : a < n) (k : ℕ) (to : k ≤ length vs + 1) where
  -- the position of a, in the list or beyond it: a stands before position k exactly if that is below k
  by_position : (Earlier vs k a → get_or rank a 0 < k) × (get_or rank a 0 < k → Earlier vs k a)
  by_position = (λ e. rw (← e.3, R.position e.0 e.1 (omega (arith, e.2))) e.2, λ l. go l (in_dec a vs))
    where
      go : get_or rank a 0 < k → Dec (In a vs) → Earlier vs k a
      go l (no m) = absurd (omega (arith, R.beyond a h m))
      go l (yes i) =
          let t = in_place vs a i in
          let p : post vs (suc t.0) ≡ a = post_suc vs t.0 ∙ t.2 in
          let e : get_or rank a 0 ≡ suc t.0 = rw p at (R.position (suc t.0) (omega arith) (omega (arith, t.1))) in
          (suc t.0, omega arith, omega arith, p)

  pub before_says : ltb (get_or rank a 0) k ≡ mem (earlier vs k) a
  before_says = go (dec_lt (get_or rank a 0) k)
    where
      go : Dec (get_or rank a 0 < k) → ltb (get_or rank a 0) k ≡ mem (earlier vs k) a
      go (yes l) =
          lt-ltb (get_or rank a 0) k l ∙ sym (is_true (mem (earlier vs k) a) (in_mem (earlier vs k) a (earlier_in vs k a (omega arith) (by_position.1 l))))
      go (no m) =
          le-ltb (get_or rank a 0) k (omega arith)
          ∙ sym (is_false (mem (earlier vs k) a) (λ t. m (by_position.0 (in_earlier vs k a (mem_in (earlier vs k) a t)))))

  -- what stands before position k is a post of the list, and has its position there
  pub position_of_lem : before rank k a ≡ true → (1 ≤ get_or rank a 0) × (get_or rank a 0 ≤ length vs) × (post vs (get_or rank a 0) ≡ a)
  position_of_lem t =
      let e = by_position.1 (ltb-true (get_or rank a 0) k t) in
      let q : get_or rank a 0 ≡ e.0 = rw e.3 at (R.position e.0 e.1 (omega (arith, e.2))) in
      (omega (arith, e.1), omega (arith, e.2), ap (post vs) q ∙ e.3)

-- a post placed, by its position
pub placed_by : (n : ℕ) (vs rank : List ℕ) → RankedBelow n vs rank → (k : ℕ) → k ≤ length vs → (a : ℕ) → a < n → mem (take k vs) a ≡ before rank (k + 1) a
placed_by n vs rank r k i a h =
    let e : k + 1 - 1 ≡ k = omega arith in
    sym (before_says n vs rank r a h (k + 1) (omega arith) ∙ ap (λ (j : ℕ). mem (take j vs) a) e)

-- ---- filling in the positions

abbrev pub RankedTo : List ℕ → List ℕ → ℕ → Type 0
RankedTo vs rank k = (j : ℕ) → 1 ≤ j → j < k → get_or rank (post vs j) 0 ≡ j

module _ (vs rank : List ℕ) (room : length vs ≤ length rank) (good : (k : ℕ) → 1 ≤ k → k ≤ length vs → bad_entry (length vs) vs k ≡ false) where
  named : (i : ℕ) → i < length vs → (get_or vs i 0 < length vs) × ¬ (In (get_or vs i 0) (earlier vs (i + 1)))
  named i h =
      let e : i + 1 - 1 ≡ i = omega arith in
      subst (λ (j : ℕ). (get_or vs j 0 < length vs) × ¬ (In (get_or vs j 0) (earlier vs (i + 1)))) e
      (position_says (length vs) vs (i + 1) (good (i + 1) (omega arith) (omega arith)))

  -- a name stands in the array
  pub name_within : (i a : ℕ) → i < length vs → a ≡ get_or vs i 0 → a < length rank
  name_within i a h is = omega (arith, named i h)

  -- one position more, of the name a
  pub rank_more : (i a : ℕ) → i < length vs → a ≡ get_or vs i 0 → RankedTo vs rank (i + 1) → RankedTo vs (set rank a (i + 1)) (i + 1 + 1)
  rank_more i a to is r j h l = go (ℕ_discrete j (i + 1))
    where
      go : Dec (j ≡ i + 1) → get_or (set rank a (i + 1)) (post vs j) 0 ≡ j
      go (yes e) =
          let q : i + 1 - 1 ≡ i = omega arith in
          rw (e, q, is) (get_or-set_same rank (get_or vs i 0) (i + 1) 0 (omega (arith, named i to)))
      go (no n) =
          rw is (get_or-set_other rank (get_or vs i 0) (post vs j) (i + 1) 0
          (λ e. (named i to).1 (earlier_in vs (i + 1) (get_or vs i 0) (omega arith) (j, h, omega arith, e))))
          ∙ r j h (omega arith)

  -- the list names each post, so none is beyond it
  pub all_ranked : RankedTo vs rank (length vs + 1) → Ranked vs rank
  all_ranked r =
      let once = different_once vs (order_once (length vs) vs good) in
      record {
        room = room;
        position = λ k h i. r k h (omega arith);
        beyond = λ a h m. absurd (m (all_there (length vs) vs once (order_below (length vs) vs good) (omega arith) a h));
      }
