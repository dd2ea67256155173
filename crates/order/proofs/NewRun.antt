-- The run of a new post: what the tests and `run` find in its ring, as the contour's laws want it.
use mathlib.Core.Path.{◌≡◌, refl, sym, ap, ◌∙◌, subst}
use mathlib.Core.Logic.{inl, inr}
use mathlib.Core.Bool.{Bool, true, false, not, ◌||◌}
use mathlib.Core.List.{List, [], ◌∷◌, ◌++◌, append_assoc, append-nil}
use Prim.Native.Nat.{ℕ, suc, ◌≤◌, ◌<◌}
use native.Mathlib.Omega.{arith}
use native.Mathlib.Decide.{ℕ_discrete}
use lib.Dec.{T, eqb, eqb→eq, eqb_refl, leb→le, T_not}
use lib.ListN.{length, get_or, take, drop, length-append, take-append-drop}
use lib.Seq.{get_or_at, drop-cons}
use Rattle.words.specs.First.{first}
use Rattle.words.specs.Lists.{In, mem, all_of, count, Adj}
use Rattle.words.specs.Positions.{post}
use Rattle.words.proofs.First.{some_found, first_found}
use Rattle.words.proofs.Lists.{Once, in_left, in_cases, in_turn, cut_at, adj_left, adj_right, adj_cases, adj_init, adj_tail, adj_in_left}
use Rattle.words.proofs.Lists.{adj_in_right, once_turn}
use Rattle.words.proofs.Tests.{holds, is_true, either, or_left, or_right, mem_in, in_mem, all_says, says_all, count_append, count_length, count_none}
use Rattle.rings.specs.Rings.{ring, around}
use Rattle.rings.proofs.Around.{After, around_one, around_in, around_next, around_cut, around_turn}
use Rattle.rings.proofs.Says.{Faces, entry_other, ring_once, is_name, follows_name}
use Rattle.order.specs.Order.{two_placed, from, lead, rest, leads, one_run, begins, run_begin, run}
use Rattle.order.proofs.Contour.{Rings, Run, Contour, run_no_turn, full_is_last}
use Rattle.order.proofs.Tests.{lead_rest, lead_placed, leads_says, says_leads, from_out, from_at, begins_says, says_begins}

-- rings and triangles, as the contour's laws want them
pub rings : (G : List (List ℕ)) → Faces G → Rings (After G)
rings G F = record {
  next_one = λ u a b c f g. around_one (ring G u) a b c (ring_once G F u (follows_name G u a b f)) f g;
  next_is = λ u a b f. around_next (ring G u) b (around_in (ring G u) a b f).1;
  self = λ u b f. entry_other G F u u (around_in (ring G u) u b f).0 refl;
  triangle = F.triangle;
}

-- a list of two or more has a first and a last
ends : (p m : ℕ) (l : List ℕ) → (M : List ℕ) × (q : ℕ) × (p ∷ m ∷ l ≡ p ∷ (M ++ q ∷ []))
ends p m [] = ([], m, refl)
ends p m (x ∷ l) = let t = ends m x l in (m ∷ t.0, t.1, ap (λ (r : List ℕ). p ∷ r) t.2)

pub two_ends : (l : List ℕ) → 2 ≤ length l → (p : ℕ) × (M : List ℕ) × (q : ℕ) × (l ≡ p ∷ (M ++ q ∷ []))
two_ends [] h = absurd (omega arith)
two_ends (p ∷ []) h = absurd (omega arith)
two_ends (p ∷ m ∷ l) h = let t = ends p m l in (p, t.0, t.1, t.2)

-- a ring that reads p ∷ (M ++ q ∷ []), all placed, and then Z, none placed
module _ (placed : List ℕ) (p : ℕ) (M : List ℕ) (q : ℕ) (Z : List ℕ) (in_run : (a : ℕ) → In a (p ∷ (M ++ q ∷ [])) → In a placed)
    (off : (a : ℕ) → In a Z → ¬ (In a placed)) where
  split_starts : (b c : ℕ) → Adj (p ∷ (M ++ q ∷ (Z ++ p ∷ []))) b c → ¬ (In b placed) → In c placed → c ≡ p
  split_starts b c h nb hc = adj_cases b c (p ∷ M) q (Z ++ p ∷ []) (λ i. absurd (nb (in_run b (adj_in_left b c (p ∷ (M ++ q ∷ [])) i)))) go h
    where
      go : Adj (q ∷ (Z ++ p ∷ [])) b c → c ≡ p
      go i = in_cases c Z (p ∷ []) (λ z. absurd (off c z hc)) (elim [ inl e ↦ e | inr z ↦ absurd z ]) (adj_tail b c q (Z ++ p ∷ []) i)

  split_ends : (b c : ℕ) → Adj (p ∷ (M ++ q ∷ (Z ++ p ∷ []))) b c → In b placed → ¬ (In c placed) → b ≡ q
  split_ends b c h hb nc = adj_cases b c (p ∷ M) q (Z ++ p ∷ []) (λ i. absurd (nc (in_run c (adj_in_right b c (p ∷ (M ++ q ∷ [])) i)))) go h
    where
      go : Adj (q ∷ (Z ++ p ∷ [])) b c → b ≡ q
      go (inl e) = sym e.0
      go (inr i) = absurd (off b (adj_init b c Z p i) hb)

  split_inner : (b c : ℕ) → Adj (p ∷ (M ++ q ∷ (Z ++ p ∷ []))) b c → In b placed → In c placed → Adj (p ∷ (M ++ q ∷ p ∷ [])) b c
  split_inner b c h hb hc = adj_cases b c (p ∷ M) q (Z ++ p ∷ []) (adj_left b c (p ∷ M) q (p ∷ [])) (λ i. adj_right b c (p ∷ M) (q ∷ p ∷ []) (go Z off i)) h
    where
      go : (Z : List ℕ) → ((a : ℕ) → In a Z → ¬ (In a placed)) → Adj (q ∷ (Z ++ p ∷ [])) b c → Adj (q ∷ p ∷ []) b c
      go [] f i = i
      go (z ∷ Z) f (inl e) = absurd (f c (inl (sym e.1)) hc)
      go (z ∷ Z) f (inr i) = absurd (f b (adj_init b c (z ∷ Z) p i) hb)

  pub split_run : (F : ℕ → ℕ → ℕ → Type 0) (v : ℕ) → ((a b : ℕ) → F v a b → Adj (p ∷ (M ++ q ∷ (Z ++ p ∷ []))) a b)
      → ((a b : ℕ) → Adj (p ∷ (M ++ q ∷ (Z ++ p ∷ []))) a b → F v a b) → Run F placed v p M q
  split_run F v to back = record {
    chain = λ a b h. back a b (adj_left a b (p ∷ M) q (Z ++ p ∷ []) h);
    placed = in_run;
    starts = λ b c f. split_starts b c (to b c f);
    ends = λ b c f. split_ends b c (to b c f);
    inner = λ b c f. split_inner b c (to b c f);
  }

-- two neighbours placed, and one run: then v has a run
module _ (G : List (List ℕ)) (placed : List ℕ) (v : ℕ) where
  -- the ring, read from some place on as l ++ Z
  run_of_lem : (l Z : List ℕ) → 2 ≤ length l → ((a : ℕ) → In a l → In a placed) → ((a : ℕ) → In a Z → ¬ (In a placed))
      → ((a b : ℕ) → After G v a b → Adj (around (l ++ Z)) a b) → ((a b : ℕ) → Adj (around (l ++ Z)) a b → After G v a b)
      → (p : ℕ) × (M : List ℕ) × (q : ℕ) × (l ≡ p ∷ (M ++ q ∷ [])) × Run (After G) placed v p M q
  run_of_lem l Z h on off to back = go (two_ends l h)
    where
      go : (p : ℕ) × (M : List ℕ) × (q : ℕ) × (l ≡ p ∷ (M ++ q ∷ []))
          → (p : ℕ) × (M : List ℕ) × (q : ℕ) × (l ≡ p ∷ (M ++ q ∷ [])) × Run (After G) placed v p M q
      go t =
          let p = t.0 in let M = t.1 in let q = t.2 in
          let e : around (l ++ Z) ≡ p ∷ (M ++ q ∷ (Z ++ p ∷ [])) =
          rw t.3 (around_cut p (M ++ q ∷ []) Z ∙ ap (λ (r : List ℕ). p ∷ r) (append_assoc M (q ∷ []) (Z ++ p ∷ []))) in
          (p, M, q, t.3, split_run placed p M q Z (rw t.3 at on) off (After G) v (λ a b f. rw e at (to a b f)) (λ a b h. back a b (rw e h)))

  pub run_at_lem : (X Y : List ℕ) → X ++ Y ≡ ring G v → 2 ≤ count (mem placed) (ring G v) → T (leads placed (Y ++ X))
      → (p : ℕ) × (M : List ℕ) × (q : ℕ) × (lead placed (Y ++ X) ≡ p ∷ (M ++ q ∷ [])) × Run (After G) placed v p M q
  run_at_lem X Y f two none =
      let l = lead placed (Y ++ X) in
      let Z = rest placed (Y ++ X) in
      let e : l ++ Z ≡ Y ++ X = lead_rest placed (Y ++ X) in
      let off : (a : ℕ) → In a Z → ¬ (In a placed) = leads_says placed (Y ++ X) none in
      let k = count (mem placed) in
      run_of_lem l Z
      (omega (
        arith,
        ap k f,
        ap k e,
        count_append (mem placed) X Y,
        count_append (mem placed) Y X,
        count_append (mem placed) l Z,
        count_none (mem placed) Z (λ a i t. off a i (mem_in placed a t)),
        count_length (mem placed) l,
      ))
      (lead_placed placed (Y ++ X))
      off
      (λ a b h. rw e (around_turn X Y a b (rw f h)))
      (λ a b h. rw f at (around_turn Y X a b (rw e at h)))

-- The run that `run` finds: p ∷ (M ++ q ∷ []), and it does not pass from v2 to v1.
pub record RunIs (G : List (List ℕ)) (v1 v2 : ℕ) (placed : List ℕ) (v : ℕ) : Type 0 where
  pub p : ℕ
  pub M : List ℕ
  pub q : ℕ
  pub begin_in : run_begin G placed v < length (ring G v)
  pub run_is : run G placed v ≡ p ∷ (M ++ q ∷ [])
  pub the_run_lem : Run (After G) placed v p M q
  pub no_turn : ¬ (Adj (p ∷ (M ++ q ∷ [])) v2 v1)

module _ (G : List (List ℕ)) (F : Faces G) (v1 v2 vn : ℕ) (outer : After G v2 v1 vn) where
  v1_in : In v1 (ring G vn)
  v1_in = (around_in (ring G vn) v2 v1 (F.triangle v1 vn v2 (F.triangle v2 v1 vn outer))).1

  -- v's ring is all placed exactly if v is vn
  module _ (placed : List ℕ) (v : ℕ) (head : post placed 1 ≡ v1) (new : ¬ (In v placed)) (two : two_placed G placed v ≡ true) (one : one_run G placed v ≡ true)
      (whole : ((a : ℕ) → In a (ring G v) → In a placed) → v ≡ vn) (full : v ≡ vn → (a : ℕ) → In a (ring G v) → In a placed) where
    all_placed : T (all_of (mem placed) (ring G v)) → (a : ℕ) → In a (ring G v) → In a placed
    all_placed t a h = mem_in placed a (all_says (mem placed) (ring G v) t a h)

    -- from some place on the ring begins with the run
    at_v1 : T (all_of (mem placed) (ring G v)) → (s : ℕ) × (s < length (ring G v)) × T (begins G placed v s)
    at_v1 t = go (cut_at v1 (ring G v) (rw (whole (all_placed t)) v1_in))
      where
        go : (X Z : List ℕ) × (ring G v ≡ X ++ v1 ∷ Z) → (s : ℕ) × (s < length (ring G v)) × T (begins G placed v s)
        go c =
            let X = c.0 in let Z = c.1 in
            let e : from (length X) (ring G v) ≡ ((v1 ∷ Z) ++ X) ++ [] = ap (from (length X)) c.2 ∙ from_at X (v1 ∷ Z) ∙ sym (append-nil ((v1 ∷ Z) ++ X)) in
            let l : T (leads placed (((v1 ∷ Z) ++ X) ++ [])) =
            says_leads placed ((v1 ∷ Z) ++ X) [] (λ a i. all_placed t a (rw c.2 (in_turn a (v1 ∷ Z) X i))) (λ a i. absurd i) in
            let g : get_or (ring G v) (length X) 0 ≡ v1 = ap (λ (r : List ℕ). get_or r (length X) 0) c.2 ∙ get_or_at X v1 Z 0 (length X) refl in (
              length X,
              omega (arith, ap length c.2, length-append X (v1 ∷ Z)),
              says_begins G placed v (length X) (rw e l) (or_right (not (all_of (mem placed) (ring G v))) _ (rw (g, head) (eqb_refl v1))),
            )

    place : (s : ℕ) × (s < length (ring G v)) × T (begins G placed v s)
    unfolding one_run
    place = go (all_of (mem placed) (ring G v)) refl
      where
        go : (b : Bool) → all_of (mem placed) (ring G v) ≡ b → (s : ℕ) × (s < length (ring G v)) × T (begins G placed v s)
        go true e = at_v1 (holds _ e)
        go false e =
            let t = some_found (λ s. leads placed (from s (ring G v))) 0 (length (ring G v)) one in
            (t.0, omega (arith, t.2), says_begins G placed v t.0 (holds _ t.3) (or_left (not (all_of (mem placed) (ring G v))) _ (rw e tt)))

    -- the run does not pass from v2 to v1
    no_turn_at : (s : ℕ) → s < length (ring G v) → T (not (all_of (mem placed) (ring G v)) || eqb (get_or (ring G v) s 0) (post placed 1))
        → (p : ℕ) (M : List ℕ) (q : ℕ) → lead placed (from s (ring G v)) ≡ p ∷ (M ++ q ∷ []) → Run (After G) placed v p M q → ¬ (Adj (p ∷ (M ++ q ∷ [])) v2 v1)
    unfolding from
    no_turn_at s h b p M q el U i = go (ℕ_discrete v vn)
      where
        X : List ℕ
        X = take s (ring G v)

        Y : List ℕ
        Y = drop s (ring G v)

        Z : List ℕ
        Z = rest placed (Y ++ X)

        split : Y ++ X ≡ p ∷ ((M ++ q ∷ []) ++ Z)
        split = sym (lead_rest placed (Y ++ X)) ∙ ap (λ (r : List ℕ). r ++ Z) el

        first_is : get_or (ring G v) s 0 ≡ p
        first_is = let e : get_or (ring G v) s 0 ∷ (drop (suc s) (ring G v) ++ X) ≡ p ∷ ((M ++ q ∷ []) ++ Z) =
            ap (λ (r : List ℕ). r ++ X) (sym (drop-cons (ring G v) s 0 h)) ∙ split in cc

        p_in : In p (ring G v)
        p_in = from_out s (ring G v) p (rw split (inl refl))

        single : Once (Y ++ X)
        single = once_turn X Y (rw take-append-drop (ring_once G F v (is_name G v p p_in)))

        go : Dec (v ≡ vn) → ⊥
        go (no ne) = run_no_turn (After G) v1 v2 vn (rings G F) outer placed v p q M new U ne i
        go (yes ev) = either (not (all_of (mem placed) (ring G v))) (eqb (get_or (ring G v) s 0) (post placed 1))
            (λ n. T_not (all_of (mem placed) (ring G v)) n (says_all (mem placed) (ring G v) (λ a j. in_mem placed a (full ev a j))))
            (λ hd.
            let o : Once (p ∷ ((M ++ q ∷ []) ++ Z)) = subst Once split single in
            let ep : p ≡ v1 = sym first_is ∙ eqb→eq (get_or (ring G v) s 0) (post placed 1) hd ∙ head in
            o.0 (in_left p (M ++ q ∷ []) Z (rw ep (adj_tail v2 v1 p (M ++ q ∷ []) i)))) b

    begins_run : (s : ℕ) → s < length (ring G v) → T (begins G placed v s)
        → (p : ℕ) × (M : List ℕ) × (q : ℕ) × (lead placed (from s (ring G v)) ≡ p ∷ (M ++ q ∷ [])) × Run (After G) placed v p M q
        × ¬ (Adj (p ∷ (M ++ q ∷ [])) v2 v1)
    unfolding two_placed from
    begins_run s h t =
        let b = begins_says G placed v s t in
        let r = run_at_lem G placed v (take s (ring G v)) (drop s (ring G v)) (take-append-drop s (ring G v)) (leb→le 2 _ (holds _ two)) b.0 in
        (r.0, r.1, r.2, r.3, r.4, no_turn_at s h b.1 r.0 r.1 r.2 r.3 r.4)

    pub the_run_is : RunIs G v1 v2 placed v
    unfolding run
    the_run_is =
        let f = first_found (begins G placed v) 0 (length (ring G v)) place.0 (omega arith) (omega (arith, place.1)) (is_true _ place.2) in
        let r = begins_run (first 0 (length (ring G v)) (begins G placed v)) (omega (arith, f.0)) (holds _ f.1) in
        record { p = r.0; M = r.1; q = r.2; begin_in = omega (arith, f.0); run_is = r.3; the_run_lem = r.4; no_turn = r.5 }

  -- a new post with a neighbour, all of whose neighbours are placed, is vn
  pub whole_is_last : (placed K : List ℕ) (v : ℕ) → Contour (After G) v1 v2 placed K → ¬ (In v placed) → (x : ℕ) → In x (ring G v)
      → ((a : ℕ) → In a (ring G v) → In a placed) → v ≡ vn
  whole_is_last placed K v C new x h all =
      let b = around_next (ring G v) x h in
      full_is_last (After G) v1 v2 vn (rings G F) outer placed K C v new (λ a b f. all a (around_in (ring G v) a b f).0) x b.0 b.1
