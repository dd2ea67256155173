-- Number 14 is never given: where the rows before it pass, a post below n has a later neighbour. So a table without it gives the same replies.
use Prim.Native.Nat.{ℕ, zero, suc, ◌-◌, ◌≤◌, ◌<◌}
use mathlib.Core.Path.{◌≡◌, refl, sym, ap, ◌∙◌}
use mathlib.Core.Logic.{◌≢◌}
use mathlib.Core.Bool.{Bool, true, false, not, ◌&&◌, true≢false}
use mathlib.Core.List.{List, [], ◌∷◌, ◌++◌, map, flat_map, append_assoc, append-nil}
use native.Mathlib.Omega.{arith}
use native.Mathlib.Decide.{ℕ_discrete}
use lib.Dec.{ltb, eqb}
use borrow.Author.Tests.{ltb-true, eq-eqb}
use Rattle.words.specs.First.{numbers}
use Rattle.words.specs.Lists.{mem}
use Rattle.words.proofs.Tests.{neither}
use Rattle.words.specs.Positions.{post, earlier, later}
use Rattle.block.specs.Block.{posts, order, lists}
use Rattle.order.specs.Order.{two_placed, one_run, one_later}
use Rattle.order.proofs.Growth.{later_follows}
use Rattle.order.proofs.Sound.{boarded_names, boarded_faces, boarded_outer}
use Rattle.lamp.specs.Lamp.{Row, block_rows, position_rows, fitting_rows, check_rows, sheet_rows, post_rows, stage_rows, room_rows, name_rows}
use Rattle.lamp.specs.Given.{refused, given, NoneApplies}
use Rattle.lamp.specs.Refusals.{number_of}
use Rattle.lamp.specs.declared.Refusal.{Refusal}
use Rattle.lamp.specs.declared.Refusal.TheVariants.{Short, Mark, Version, Posts, Length, Sum, Order, Degrees, High, Itself}
use Rattle.lamp.specs.declared.Refusal.TheVariants.{Repeated, Unreturned, Triangle, Outer, Few, Broken, Stage, Room, Name}
use Rattle.lamp.specs.Retired.{retired, retired_row, paper_position_rows, paper_fitting_rows, paper_rows, NoneIs, Retirement}
use Rattle.lamp.proofs.Given.{given_skip, given_alike, given_none, given_says}
use Rattle.lamp.proofs.Accepts.{lists_count, none_boarded, none_position}
use Rattle.lamp.proofs.RowNumbers.{each_both, each_fitting, none_given}

-- ---- no row has the number: by computing
abbrev Another : ℕ → Type 0
Another m = m ≢ retired

mem_none : (number : ℕ) (rows : List Row) → mem (map (λ r. r.number) rows) number ≡ false → NoneIs number rows
unfolding mem
mem_none number [] e = tt
mem_none number (r ∷ rows) e =
    let t = neither (eqb number r.number) (mem (map (λ q. q.number) rows) number) e in
    ((λ q. true≢false (sym (eq-eqb number r.number (sym q)) ∙ t.0)), mem_none number rows t.1)

block_rows_lem : NoneIs retired block_rows
unfolding block_rows mem
block_rows_lem = mem_none retired block_rows refl

check_rows_lem : (s : List ℕ) → NoneIs retired (check_rows s)
unfolding check_rows
check_rows_lem s =
    each_both Another block_rows (fitting_rows s) block_rows_lem (each_fitting Another (λ e. omega arith) (λ e. omega arith) (posts s - 2) 3)

sheet_rows_lem : (s : List ℕ) (k room : ℕ) → NoneIs retired (sheet_rows s k room)
unfolding sheet_rows
sheet_rows_lem s k room =
    each_both Another (check_rows s) (stage_rows k ++ room_rows k room) (check_rows_lem s)
    (each_both Another (stage_rows k) (room_rows k room) ((λ e. omega arith), tt) ((λ e. omega arith), tt))

post_rows_lem : (s : List ℕ) (k u : ℕ) → NoneIs retired (post_rows s k u)
unfolding post_rows
post_rows_lem s k u =
    each_both Another (check_rows s) (stage_rows k ++ name_rows u) (check_rows_lem s)
    (each_both Another (stage_rows k) (name_rows u) ((λ e. omega arith), tt) ((λ e. omega arith), tt))

refusals : (r : Refusal) → number_of r ≢ retired
refusals Short e = omega arith
refusals Mark e = omega arith
refusals Version e = omega arith
refusals Posts e = omega arith
refusals Length e = omega arith
refusals Sum e = omega arith
refusals (Order k) e = omega arith
refusals (Degrees u) e = omega arith
refusals (High u) e = omega arith
refusals (Itself u) e = omega arith
refusals (Repeated u) e = omega arith
refusals (Unreturned u) e = omega arith
refusals (Triangle u) e = omega arith
refusals Outer e = omega arith
refusals (Few k) e = omega arith
refusals (Broken k) e = omega arith
refusals Stage e = omega arith
refusals Room e = omega arith
refusals Name e = omega arith

-- ---- the table with 14 gives what the one without it gives
false_and : (x y : Bool) → (x ≡ true → y ≡ false) → x && y ≡ false
false_and true y f = f refl
false_and false y f = refl

module _ (s : List ℕ) (h : NoneApplies block_rows s) where
  abbrev G : List (List ℕ)
  G = lists s

  abbrev vs : List ℕ
  vs = order s

  -- 12 and 13 pass before position k
  abbrev PassedBefore : ℕ → Type 0
  PassedBefore k = (j : ℕ) → 3 ≤ j → j < k → (two_placed G (earlier vs j) (post vs j) ≡ true) × (one_run G (earlier vs j) (post vs j) ≡ true)

  passed : (k : ℕ) → 3 ≤ k → PassedBefore k → NoneApplies (position_rows k) s → (retired_row k).when s ≡ false
  passed k l b p =
      let B = none_boarded s h in
      let n = lists_count s in
      let F = boarded_faces G vs B in
      let o = boarded_outer G vs B in
      let N = boarded_names G vs B in
      false_and (ltb k (posts s)) (not (one_later G (later vs k) (post vs k)))
      (λ t. ap not (later_follows G vs F o N k l (omega (arith, ltb-true k (posts s) t, n)) b (none_position s k p).0))

  next : (k : ℕ) → PassedBefore k → NoneApplies (position_rows k) s → PassedBefore (suc k)
  next k b p j l m = go (ℕ_discrete j k)
    where
      go : Dec (j ≡ k) → (two_placed G (earlier vs j) (post vs j) ≡ true) × (one_run G (earlier vs j) (post vs j) ≡ true)
      go (yes e) = rw e (none_position s k p)
      go (no n) = b j l (omega arith)

  module _ {A : Type 0} (answer : List ℕ → A) (after : List Row) where
    from_position : (m k : ℕ) → 3 ≤ k → PassedBefore k
        → given (flat_map paper_position_rows (numbers k m) ++ after) s answer ≡ given (flat_map position_rows (numbers k m) ++ after) s answer
    unfolding flat_map numbers
    from_position zero k l b = refl
    from_position (suc m) k l b =
        let P = flat_map paper_position_rows (numbers (suc k) m) in
        let Q = flat_map position_rows (numbers (suc k) m) in
        let r = retired_row k in
        let left : ((position_rows k ++ r ∷ []) ++ P) ++ after ≡ position_rows k ++ (r ∷ (P ++ after)) =
        append_assoc (position_rows k ++ r ∷ []) P after ∙ append_assoc (position_rows k) (r ∷ []) (P ++ after) in
        ap (λ (l : List Row). given l s answer) left
        ∙ given_alike s answer (position_rows k) (r ∷ (P ++ after)) (Q ++ after)
        (λ p. given_skip s answer r (P ++ after) (passed k l b p) ∙ from_position m (suc k) (omega arith) (next k b p))
        ∙ ap (λ (l : List Row). given l s answer) (sym (append_assoc (position_rows k) Q after))

-- the rule per position with 14 applies nowhere exactly if the one without it does not
module _ (s : List ℕ) (h : NoneApplies block_rows s) where
  alike : given (paper_fitting_rows s) s posts ≡ given (fitting_rows s) s posts
  alike =
      ap (λ (l : List Row). given l s posts) (sym (append-nil (paper_fitting_rows s)))
      ∙ from_position s h posts [] (posts s - 2) 3 (omega arith) (λ j a b. absurd (omega arith))
      ∙ ap (λ (l : List Row). given l s posts) (append-nil (fitting_rows s))

  pub paper_fitting : NoneApplies (fitting_rows s) s → NoneApplies (paper_fitting_rows s) s
  paper_fitting r = given_says s posts (paper_fitting_rows s) (posts s) (alike ∙ given_none s posts (fitting_rows s) r)

  pub fitting_paper : NoneApplies (paper_fitting_rows s) s → NoneApplies (fitting_rows s) s
  fitting_paper r = given_says s posts (fitting_rows s) (posts s) (sym alike ∙ given_none s posts (paper_fitting_rows s) r)

same : {A : Type 0} (answer : List ℕ → A) (after : List Row) (s : List ℕ) → given (paper_rows s ++ after) s answer ≡ given (check_rows s ++ after) s answer
unfolding paper_rows check_rows
same answer after s =
    ap (λ (l : List Row). given l s answer) (append_assoc block_rows (paper_fitting_rows s) after)
    ∙ given_alike s answer block_rows (paper_fitting_rows s ++ after) (fitting_rows s ++ after)
    (λ h. from_position s h answer after (posts s - 2) 3 (omega arith) (λ j a b. absurd (omega arith)))
    ∙ ap (λ (l : List Row). given l s answer) (sym (append_assoc block_rows (fitting_rows s) after))

sheet_never : {A : Type 0} (answer : List ℕ → A) (s : List ℕ) (k room place : ℕ)
    → given (check_rows s ++ (stage_rows k ++ room_rows k room)) s answer ≢ refused retired place
unfolding sheet_rows
sheet_never answer s k room place = none_given answer s (check_rows s ++ (stage_rows k ++ room_rows k room)) retired place (sheet_rows_lem s k room)

post_never : {A : Type 0} (answer : List ℕ → A) (s : List ℕ) (k u place : ℕ)
    → given (check_rows s ++ (stage_rows k ++ name_rows u)) s answer ≢ refused retired place
unfolding post_rows
post_never answer s k u place = none_given answer s (check_rows s ++ (stage_rows k ++ name_rows u)) retired place (post_rows_lem s k u)

pub retirement : Retirement
retirement =
    record {
      check = λ answer s place e.
          none_given answer s (check_rows s ++ []) retired place (each_both Another (check_rows s) [] (check_rows_lem s) tt)
          (sym (same answer [] s) ∙ ap (λ (l : List Row). given l s answer) (append-nil (paper_rows s)) ∙ e);
      sheet = λ answer s k room place e. sheet_never answer s k room place (sym (same answer (stage_rows k ++ room_rows k room) s) ∙ e);
      post = λ answer s k u place e. post_never answer s k u place (sym (same answer (stage_rows k ++ name_rows u) s) ∙ e);
      same = same;
      sheet_rows_lem = sheet_rows_lem;
      post_rows_lem = post_rows_lem;
      refusals = refusals;
    }
