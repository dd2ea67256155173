-- What is read from arrays with a stage and its columns: the sheet's entries and a post's record are the stage's.
use Prim.Native.Nat.{ℕ, ◌+◌, ◌*◌, ◌≤◌, ◌<◌}
use mathlib.Core.Path.{◌≡◌, refl, ap, sym, ◌∙◌, subst, subst⁻¹}
use mathlib.Core.Logic.{◌⊎◌, inl, inr}
use mathlib.Core.Bool.{cond}
use mathlib.Core.List.{List, [], ◌∷◌, ◌++◌}
use native.Mathlib.Omega.{arith}
use lib.ListN.{length, get_or, take, drop}
use borrow.Author.Tests.{eq-eqb, ne_eqb}
use Rattle.words.specs.Lists.{In, mem, last_of, Head, Adj}
use Rattle.words.specs.Positions.{post}
use Rattle.words.proofs.Lists.{Once, in_dec, adj_in_left, adj_tail, last_in}
use Rattle.words.proofs.Tests.{is_true, is_false, in_mem, mem_in, place_in}
use Rattle.words.proofs.Positions.{in_take}
use Rattle.block.specs.Layout.{limit}
use Rattle.rings.specs.Held.{held}
use Rattle.rings.proofs.Around.{After}
use Rattle.order.proofs.Contour.{Contour}
use Rattle.order.proofs.Fitting.{fits_few}
use Rattle.placing.specs.Stages.{Stage, stage}
use Rattle.placing.specs.Records.{left_of, right_of, standing, fit_left, fit_right, record_of, entries_of}
use Rattle.placing.specs.declared.Standing.TheVariants.{Waiting, OnContour, Covered}
use Rattle.placing.proofs.Steps.{contours, stage_placed, stage_first, stage_second}
use Rattle.placing.proofs.Writing.{pairs_twos, twos_same}
use Rattle.order.specs.Opens.{before}
use Rattle.order.specs.Fitted.{Fitted}
use Rattle.order.specs.Ranked.{RankedBelow}
use Rattle.engine.specs.Shows.{Shows, RoomFor, Columned}
use Rattle.placing.specs.Pairs.{pairs}
use Rattle.engine.specs.Recorded.{standing_by, record_by}
use Rattle.order.proofs.Ranked.{placed_by}
use Rattle.engine.proofs.ReadColumns.{covered_later}
use Rattle.engine.proofs.Ending.{front_same}

-- ---- neighbours on a contour
left_first : (x : ℕ) (l : List ℕ) (u : ℕ) → ¬ (In u l) → left_of (x ∷ l) u ≡ u
unfolding left_of
left_first x [] u n = refl
left_first x (y ∷ l) u n = rw (ne_eqb y u (λ e. n (inl (sym e)))) (left_first y l u (λ i. n (inr i)))

left_adj : (l : List ℕ) (a u : ℕ) → Once l → Adj l a u → left_of l u ≡ a
unfolding left_of
left_adj [] a u o h = absurd h
left_adj (x ∷ []) a u o (inl h) = absurd h.1
left_adj (x ∷ []) a u o (inr h) = absurd h
left_adj (x ∷ y ∷ l) a u o (inl h) = rw (eq-eqb y u h.1) h.0
left_adj (x ∷ y ∷ l) a u o (inr h) = rw (ne_eqb y u (λ e. o.1.0 (rw (← e) at (adj_tail a u y l h)))) (left_adj (y ∷ l) a u o.1 h)

right_last : (x : ℕ) (l : List ℕ) → Once (x ∷ l) → right_of (x ∷ l) (last_of x l) ≡ last_of x l
unfolding right_of
right_last x [] o = refl
right_last x (y ∷ l) o = rw (ne_eqb x (last_of y l) (λ e. o.0 (subst⁻¹ (λ (a : ℕ). In a (y ∷ l)) e (last_in y l)))) (right_last y l o.1)

right_adj : (l : List ℕ) (u b : ℕ) → Once l → Adj l u b → right_of l u ≡ b
unfolding right_of
right_adj [] u b o h = absurd h
right_adj (x ∷ []) u b o (inl h) = absurd h.1
right_adj (x ∷ []) u b o (inr h) = absurd h
right_adj (x ∷ y ∷ l) u b o (inl h) = rw (eq-eqb x u h.0) h.1
right_adj (x ∷ y ∷ l) u b o (inr h) = rw (ne_eqb x u (λ e. o.0 (subst⁻¹ (λ (a : ℕ). In a (y ∷ l)) e (adj_in_left u b (y ∷ l) h)))) (right_adj (y ∷ l) u b o.1 h)

-- a post of a list is the first, or has a left neighbour; is the last, or has a right neighbour
some_left : (x : ℕ) (l : List ℕ) (u : ℕ) → In u (x ∷ l) → (u ≡ x) ⊎ ((a : ℕ) × Adj (x ∷ l) a u)
some_left x [] u (inl e) = inl e
some_left x [] u (inr z) = absurd z
some_left x (y ∷ l) u (inl e) = inl e
some_left x (y ∷ l) u (inr i) = go (some_left y l u i)
  where
    go : (u ≡ y) ⊎ ((a : ℕ) × Adj (y ∷ l) a u) → (u ≡ x) ⊎ ((a : ℕ) × Adj (x ∷ y ∷ l) a u)
    go (inl e) = inr (x, inl (refl, sym e))
    go (inr w) = inr (w.0, inr w.1)

some_right : (x : ℕ) (l : List ℕ) (u : ℕ) → In u (x ∷ l) → (u ≡ last_of x l) ⊎ ((b : ℕ) × Adj (x ∷ l) u b)
some_right x [] u (inl e) = inl e
some_right x [] u (inr z) = absurd z
some_right x (y ∷ l) u (inl e) = inr (y, inl (sym e, refl))
some_right x (y ∷ l) u (inr i) = go (some_right y l u i)
  where
    go : (u ≡ last_of y l) ⊎ ((b : ℕ) × Adj (y ∷ l) u b) → (u ≡ last_of y l) ⊎ ((b : ℕ) × Adj (x ∷ y ∷ l) u b)
    go (inl e) = inl e
    go (inr w) = inr (w.0, inr w.1)

-- no stage is beyond the limit
pub stage_within : {at ents vs : List ℕ} → Fitted at ents vs → {k : ℕ} → k ≤ length vs → k ≤ limit
stage_within {at} {ents} {vs} A i = omega (arith, fits_few (held at ents) A.vn vs A.plane A.fits, A.most)

module _ {at ents vs : List ℕ} (A : Fitted at ents vs) {k : ℕ} (h : 3 ≤ k) (i : k ≤ length vs)
    {ys off cover left right xs : List ℕ} (D : Columned at ents vs k ys off cover left right xs) where
  abbrev G : List (List ℕ)
  G = held at ents

  abbrev t : Stage
  t = stage (held at ents) (take k vs)

  abbrev S : Shows t ys off cover left right
  S = D.holds.shows

  pub entries_are : pairs xs ys (take k vs) ≡ entries_of t
  unfolding entries_of
  entries_are =
      ap (pairs xs ys) (sym (stage_placed G vs k h i))
      ∙ pairs_twos xs ys t.placed ∙ twos_same _ _ t.x t.y t.placed (λ u q. (D.column u q, S.height u q))

  C : Contour (After G) (post vs 1) (post vs 2) (take k vs) t.contour
  C = contours G A.vn vs A.plane A.fits k h i

  left_at : (u : ℕ) → In u t.contour → get_or left u 0 ≡ left_of t.contour u
  left_at u q = go t.contour C.first C.once q (λ a. S.left_is a u)
    where
      go : (l : List ℕ) → Head l (post vs 1) → Once l → In u l → ((a : ℕ) → Adj l a u → get_or left u 0 ≡ a) → get_or left u 0 ≡ left_of l u
      go [] f o z s = absurd z
      go (x ∷ l) f o j s = by (some_left x l u j)
        where
          by : (u ≡ x) ⊎ ((a : ℕ) × Adj (x ∷ l) a u) → get_or left u 0 ≡ left_of (x ∷ l) u
          by (inl e) =
              let v : u ≡ post t.placed 1 = e ∙ f ∙ sym (stage_first G vs k h i) in
              subst⁻¹ (λ (a : ℕ). get_or left a 0 ≡ a) v S.first ∙ sym (left_first x l u (λ m. o.0 (rw e at m)))
          by (inr w) = s w.0 w.1 ∙ sym (left_adj (x ∷ l) w.0 u o w.1)

  right_at : (u : ℕ) → In u t.contour → get_or right u 0 ≡ right_of t.contour u
  right_at u q = go t.contour C.last C.once q (λ b. S.right_is u b)
    where
      go : (l : List ℕ) → last_of (post vs 1) l ≡ post vs 2 → Once l → In u l → ((b : ℕ) → Adj l u b → get_or right u 0 ≡ b) → get_or right u 0 ≡ right_of l u
      go [] f o z s = absurd z
      go (x ∷ l) f o j s = by (some_right x l u j)
        where
          by : (u ≡ last_of x l) ⊎ ((b : ℕ) × Adj (x ∷ l) u b) → get_or right u 0 ≡ right_of (x ∷ l) u
          by (inl e) =
              let v : u ≡ post t.placed 2 = e ∙ f ∙ sym (stage_second G vs k h i) in
              subst⁻¹ (λ (a : ℕ). get_or right a 0 ≡ a) v S.last ∙ subst⁻¹ (λ (a : ℕ). a ≡ right_of (x ∷ l) a) e (sym (right_last x l o))
          by (inr w) = s w.0 w.1 ∙ sym (right_adj (x ∷ l) u w.0 o w.1)

  -- nobody covers himself
  other : (u : ℕ) → In u t.placed → ¬ (In u t.contour) → ¬ (get_or cover u 0 ≡ u)
  other u q n e =
      let w = in_take k vs u (subst (In u) (stage_placed G vs k h i) q) in
      let l = covered_later A h i D.holds xs D.roomy w.0 w.1
      (λ c. n (subst (λ (a : ℕ). In a t.contour) w.3 c)) in
      let f : get_or vs l.0 0 ≡ get_or vs w.0 0 = l.3 ∙ ap t.cover w.3 ∙ sym (S.covers u q n) ∙ e ∙ sym w.3 in
      let d = A.fits.once l.0 w.0 (omega (arith, l.2)) w.2 f in
      omega (arith, l.1)

  stands : (u : ℕ) → In u t.placed → standing_by cover left right u ≡ standing t u
  unfolding standing
  stands u q = go (in_dec u t.contour)
    where
      go : Dec (In u t.contour)
          → standing_by cover left right u
          ≡ cond (mem t.contour u) (OnContour (left_of t.contour u) (right_of t.contour u))
          (cond (mem t.placed u) (Covered (t.cover u)) Waiting)
      go (yes c) = rw (is_true (mem t.contour u) (in_mem t.contour u c), eq-eqb (get_or cover u 0) u (S.bare u c), left_at u c, right_at u c) refl
      go (no n) =
          rw (
            is_false (mem t.contour u) (λ m. n (mem_in t.contour u m)),
            is_true (mem t.placed u) (in_mem t.placed u q),
            ne_eqb (get_or cover u 0) u (other u q n),
            S.covers u q n,
          ) refl

  -- the ends of a placed post's run are those of the whole list
  ends_same : (u : ℕ) → In u t.placed → (fit_left G t.placed u ≡ fit_left G vs u) × (fit_right G t.placed u ≡ fit_right G vs u)
  ends_same u q = let e = stage_placed G vs k h i in rw e (front_same at ents vs A k i u (subst (In u) e q))

  pub record_is : {rank : List ℕ} → RankedBelow (length G) vs rank → (u : ℕ) → u < length G
      → record_by G vs rank k xs ys cover left right u ≡ record_of G t u
  unfolding record_of
  record_is {rank} R u l = go (in_dec u t.placed)
    where
      is_placed : mem t.placed u ≡ before rank (k + 1) u
      is_placed = ap (λ (r : List ℕ). mem r u) (stage_placed G vs k h i) ∙ placed_by (length G) vs rank R k i u l

      go : Dec (In u t.placed) → record_by G vs rank k xs ys cover left right u
          ≡ cond (mem t.placed u)
          (record { x = t.x u; y = t.y u; standing = standing t u; leftmost = fit_left G t.placed u; rightmost = fit_right G t.placed u })
          (record { x = 0; y = 0; standing = Waiting; leftmost = u; rightmost = u })
      go (yes q) =
          let e = is_true (mem t.placed u) (in_mem t.placed u q) in
          let ends = ends_same u q in
          rw (← is_placed, e, D.column u q, S.height u q, stands u q, ends.0, ends.1) refl
      go (no n) = rw (← is_placed, is_false (mem t.placed u) (λ m. n (mem_in t.placed u m))) refl

  -- the posts placed have room
  pub names_fit : (j : ℕ) → j < k → (get_or vs j 0 < length xs) × (get_or vs j 0 < length ys)
  names_fit j l =
      let b = A.fits.below (get_or vs j 0) (place_in vs j (omega arith)) in
      (omega (arith, D.roomy), omega (arith, D.holds.room.of_ys))

  pub sheet_is : (B : List ℕ) {B' : List ℕ} → B' ≡ pairs xs ys (take k vs) ++ drop (2 * k) B → B' ≡ entries_of t ++ drop (2 * k) B
  sheet_is B e = e ∙ ap (λ (l : List ℕ). l ++ drop (2 * k) B) entries_are

  pub record_ready : (u : ℕ) → u < length G → RoomFor u ys cover left right xs
  record_ready u l =
      let W = D.holds.room in
      record {
        in_ys = omega (arith, W.of_ys);
        in_cover = omega (arith, W.of_cover);
        in_left = omega (arith, W.of_left);
        in_right = omega (arith, W.of_right);
        in_xs = omega (arith, D.roomy);
      }
