-- What the tests of the order say of a position, against the quantifiers of Canonical, both ways.
use mathlib.Core.Path.{◌≡◌, refl, sym, ap, ◌∙◌, subst}
use mathlib.Core.Logic.{inl, inr}
use mathlib.Core.Bool.{Bool, true, false, not, cond, ◌||◌}
use mathlib.Core.List.{List, [], ◌∷◌, ◌++◌, append-nil}
use Prim.Native.Nat.{ℕ, suc, ◌≤◌, ◌<◌}
use native.Mathlib.Omega.{arith}
use lib.Dec.{T, eqb, leb→le, le→leb}
use lib.ListN.{length, get_or, take, drop, length-append, take-append-drop}
use lib.Seq.{take_at, drop_at}
use Rattle.words.specs.First.{some}
use Rattle.words.specs.Lists.{In, mem, all_of}
use Rattle.words.specs.Positions.{post, earlier, later, Later}
use Rattle.words.proofs.First.{some_true, some_found}
use Rattle.words.proofs.Lists.{Once, in_right, in_turn}
use Rattle.words.proofs.Tests.{holds, is_true, both, join, mem_in, in_mem, any_says, none_says, says_none, count_two, two_count}
use Rattle.words.proofs.Positions.{earlier_in, in_earlier, in_later}
use Rattle.rings.specs.Rings.{ring}
use Rattle.order.specs.Order.{two_placed, from, lead, rest, leads, one_run, one_later, begins}
use Rattle.order.specs.Canonical.{Two, OneRun}

-- ---- a list's first entries as far as they are placed, and the rest
module _ (placed : List ℕ) where
  pub lead_rest : (l : List ℕ) → lead placed l ++ rest placed l ≡ l
  unfolding lead rest
  lead_rest [] = refl
  lead_rest (x ∷ l) = go (mem placed x) (lead_rest l)
    where
      go : (b : Bool) → lead placed l ++ rest placed l ≡ l → cond b (x ∷ lead placed l) [] ++ cond b (rest placed l) (x ∷ l) ≡ x ∷ l
      go true e = ap (λ (r : List ℕ). x ∷ r) e
      go false e = refl

  pub lead_placed : (l : List ℕ) (a : ℕ) → In a (lead placed l) → In a placed
  unfolding lead
  lead_placed [] a h = absurd h
  lead_placed (x ∷ l) a h = go (mem placed x) (mem_in placed x) (lead_placed l a) h
    where
      go : (b : Bool) → (T b → In x placed) → (In a (lead placed l) → In a placed) → In a (cond b (x ∷ lead placed l) []) → In a placed
      go true f k (inl e) = rw e (f tt)
      go true f k (inr i) = k i
      go false f k i = absurd i

  pub rest_in : (l : List ℕ) (a : ℕ) → In a (rest placed l) → In a l
  rest_in l a h = subst (In a) (lead_rest l) (in_right a (lead placed l) (rest placed l) h)

  -- entries that are placed lead
  pub rest_after : (A B : List ℕ) → ((a : ℕ) → In a A → In a placed) → rest placed (A ++ B) ≡ rest placed B
  unfolding rest
  rest_after [] B h = refl
  rest_after (x ∷ A) B h = rw (is_true (mem placed x) (in_mem placed x (h x (inl refl)))) (rest_after A B (λ a i. h a (inr i)))

  pub rest_nil : (l : List ℕ) → ((a : ℕ) → In a l → In a placed) → rest placed l ≡ []
  unfolding rest
  rest_nil l h = ap (rest placed) (sym (append-nil l)) ∙ rest_after l [] h

  pub lead_all : (l : List ℕ) → ((a : ℕ) → In a l → In a placed) → lead placed l ≡ l
  lead_all l h = sym (append-nil (lead placed l)) ∙ ap (λ (r : List ℕ). lead placed l ++ r) (sym (rest_nil l h)) ∙ lead_rest l

  -- the placed entries lead: of the rest none is placed
  pub leads_says : (l : List ℕ) → T (leads placed l) → (a : ℕ) → In a (rest placed l) → ¬ (In a placed)
  unfolding leads
  leads_says l t a h i = none_says (mem placed) (rest placed l) t a h (in_mem placed a i)

  pub says_leads : (A B : List ℕ) → ((a : ℕ) → In a A → In a placed) → ((a : ℕ) → In a B → ¬ (In a placed)) → T (leads placed (A ++ B))
  unfolding leads
  says_leads A B h n =
      says_none (mem placed) (rest placed (A ++ B)) (λ a i t. n a (rest_in B a (subst (In a) (rest_after A B h) i)) (mem_in placed a t))

-- a ring read from place s on has the same entries
pub from_out : (s : ℕ) (l : List ℕ) (a : ℕ) → In a (from s l) → In a l
unfolding from
from_out s l a h = rw take-append-drop at (in_turn a (drop s l) (take s l) h)

pub from_at : (X Y : List ℕ) → from (length X) (X ++ Y) ≡ Y ++ X
unfolding from
from_at X Y = rw (drop_at X Y (length X) refl, take_at X Y (length X) refl)

pub from_start : (l : List ℕ) → from 0 l ≡ l
unfolding from
from_start l = append-nil l

-- where the run begins: the placed entries lead, and where the whole ring is placed, v1 does
module _ (G : List (List ℕ)) (placed : List ℕ) (v s : ℕ) where
  pub begins_says : T (begins G placed v s)
      → T (leads placed (from s (ring G v))) × T (not (all_of (mem placed) (ring G v)) || eqb (get_or (ring G v) s 0) (post placed 1))
  unfolding begins
  begins_says t = both (leads placed (from s (ring G v))) _ t

  pub says_begins : T (leads placed (from s (ring G v))) → T (not (all_of (mem placed) (ring G v)) || eqb (get_or (ring G v) s 0) (post placed 1))
      → T (begins G placed v s)
  unfolding begins
  says_begins h i = join (leads placed (from s (ring G v))) _ h i

module _ (G : List (List ℕ)) (vs : List ℕ) (k v : ℕ) where
  -- ---- two earlier neighbours
  pub two_says : Once (ring G v) → two_placed G (earlier vs k) v ≡ true → Two G vs k v
  unfolding two_placed
  two_says o t =
      let r = count_two (mem (earlier vs k)) (ring G v) o (leb→le 2 _ (holds _ t)) in
      record {
        a = r.0;
        b = r.1;
        apart = r.2;
        near_a = r.3;
        near_b = r.4;
        earlier_a = in_earlier vs k r.0 (mem_in (earlier vs k) r.0 r.5);
        earlier_b = in_earlier vs k r.1 (mem_in (earlier vs k) r.1 r.6);
      }

  pub says_two : k ≤ suc (length vs) → Two G vs k v → two_placed G (earlier vs k) v ≡ true
  unfolding two_placed
  says_two h W =
      is_true _ (le→leb 2 _ (two_count (mem (earlier vs k)) (ring G v) W.a W.b W.apart W.near_a W.near_b
      (in_mem (earlier vs k) W.a (earlier_in vs k W.a h W.earlier_a))
      (in_mem (earlier vs k) W.b (earlier_in vs k W.b h W.earlier_b))))

  -- ---- side by side, as one run
  pub run_says : k ≤ suc (length vs) → one_run G (earlier vs k) v ≡ true → OneRun G vs k v
  unfolding one_run from
  run_says h t =
      let f = some_found (λ s. leads (earlier vs k) (from s (ring G v))) 0 (length (ring G v)) t in
      let l = from f.0 (ring G v) in
      record {
        X = take f.0 (ring G v);
        Y = drop f.0 (ring G v);
        ring_is = sym (take-append-drop f.0 (ring G v));
        the_run = lead (earlier vs k) l;
        others = rest (earlier vs k) l;
        turned = sym (lead_rest (earlier vs k) l);
        in_run = λ a i. in_earlier vs k a (lead_placed (earlier vs k) l a i);
        off_run = λ a i e. leads_says (earlier vs k) l (holds _ f.3) a i (earlier_in vs k a h e);
      }

  pub says_run : k ≤ suc (length vs) → 0 < length (ring G v) → OneRun G vs k v → one_run G (earlier vs k) v ≡ true
  unfolding one_run
  says_run h n R = go R.X R.Y R.ring_is R.turned
    where
      placed : List ℕ
      placed = earlier vs k

      lead_now : (l : List ℕ) → l ≡ R.the_run ++ R.others → leads placed l ≡ true
      lead_now l e =
          rw e
          (is_true _ (says_leads placed R.the_run R.others (λ a i. earlier_in vs k a h (R.in_run a i)) (λ a i j. R.off_run a i (in_earlier vs k a j))))

      p : ℕ → Bool
      p s = leads placed (from s (ring G v))

      go : (X Y : List ℕ) → ring G v ≡ X ++ Y → Y ++ X ≡ R.the_run ++ R.others → some 0 (length (ring G v)) p ≡ true
      go X [] e f = some_true p 0 (length (ring G v)) 0 (omega arith) (omega arith) (lead_now _ (from_start (ring G v) ∙ e ∙ append-nil X ∙ f))
      go X (y ∷ Y) e f =
          some_true p 0 (length (ring G v)) (length X) (omega arith) (omega (arith, ap length e, length-append X (y ∷ Y)))
          (lead_now _ (ap (from (length X)) e ∙ from_at X (y ∷ Y) ∙ f))

  -- ---- a later neighbour
  pub later_says : one_later G (later vs k) v ≡ true → (a : ℕ) × In a (ring G v) × Later vs k a
  unfolding one_later
  later_says t = let r = any_says (mem (later vs k)) (ring G v) (holds _ t) in (r.0, r.1, in_later vs k r.0 (mem_in (later vs k) r.0 r.2))
