-- What is read from arrays that show a stage: the columns of its posts.
use Prim.Native.Nat.{ℕ, zero, suc, ◌+◌, ◌*◌, ◌≤◌, ◌<◌}
use mathlib.Core.Path.{◌≡◌, refl, ap, sym, ◌∙◌, subst, subst⁻¹}
use mathlib.Core.Logic.{inl, inr}
use mathlib.Core.List.{List, [], ◌∷◌}
use native.Mathlib.Omega.{arith}
use native.Mathlib.Decide.{ℕ_discrete}
use lib.ListN.{length, get_or, set, take, length-set}
use lib.Seq.{get_or-set_same, get_or-set_other, get_or-take, length-take-le}
use borrow.Author.Tests.{eq-eqb, ne_eqb}
use Rattle.words.specs.Lists.{In, last_of, Head, Adj}
use Rattle.words.specs.Positions.{post}
use Rattle.words.proofs.Lists.{Once, in_dec, last_in, once_within}
use Rattle.words.proofs.Tests.{place_in, once_different}
use Rattle.words.proofs.Positions.{in_take, take_in}
use Rattle.rings.specs.Held.{held}
use Rattle.rings.proofs.Around.{After}
use Rattle.order.proofs.Contour.{Contour}
use Rattle.block.specs.Layout.{limit}
use Rattle.order.proofs.Fitting.{fits_once, fits_few}
use Rattle.placing.specs.Stages.{Stage, stage}
use Rattle.placing.proofs.Steps.{contours, stage_placed, stage_first}
use Rattle.shift.proofs.DrawnSays.{drawn_within}
use Rattle.contour.specs.Arrays.{along, Below}
use Rattle.order.specs.Fitted.{Fitted}
use Rattle.engine.specs.Shows.{Shows, Holds, Columned}
use Rattle.contour.specs.Columns.{until, laid, column_of, settled, ColumnFits, Settles, Line, Readable, columns_of}
use Rattle.engine.proofs.Kept.{Kept, kept_at}
use Rattle.engine.proofs.Along.{Apart, below_all, along_list}
use Rattle.contour.proofs.Paths.{along_cons}

-- ---- a list from a to its last, by right neighbours
pub until_list : (right : List ℕ) (a z k : ℕ) (L : List ℕ) → Once (a ∷ L) → last_of a L ≡ z → ((x y : ℕ) → Adj (a ∷ L) x y → get_or right x 0 ≡ y)
    → length (a ∷ L) ≤ k
    → until right a z k ≡ a ∷ L
unfolding until
until_list right a z zero L o e h k = absurd (omega arith)
until_list right a z (suc n) [] o e h k = rw (eq-eqb a z e) refl
until_list right a z (suc n) (b ∷ L) o e h k =
    let d : ¬ (a ≡ z) = λ q. o.0 (subst (λ (c : ℕ). In c (b ∷ L)) (e ∙ sym q) (last_in b L)) in
    rw (ne_eqb a z d) (ap (λ (l : List ℕ). a ∷ l) (ap (λ (c : ℕ). until right c z n) (h a b (inl (refl, refl)))
    ∙ until_list right b z n L o.1 e (λ x y i. h x y (inr i)) (omega arith)))

-- ---- columns laid along a list
laid_off : (xs off : List ℕ) (s : ℕ) (l : List ℕ) (u : ℕ) → ¬ (In u l) → get_or (laid xs off s l) u 0 ≡ get_or xs u 0
unfolding laid
laid_off xs off s [] u n = refl
laid_off xs off s (a ∷ l) u n = laid_off (set xs a (s + get_or off a 0)) off (s + get_or off a 0) l u (λ i. n (inr i))
    ∙ get_or-set_other xs a u (s + get_or off a 0) 0 (λ e. n (inl e))

laid_length : (xs off : List ℕ) (s : ℕ) (l : List ℕ) → length (laid xs off s l) ≡ length xs
unfolding laid
laid_length xs off s [] = refl
laid_length xs off s (a ∷ l) = laid_length (set xs a (s + get_or off a 0)) off (s + get_or off a 0) l ∙ length-set xs a (s + get_or off a 0)

laid_at : (X : ℕ → ℕ) (xs off : List ℕ) (s y : ℕ) (l : List ℕ) → X y ≡ s + get_or off y 0 → Apart X off (y ∷ l) → Once (y ∷ l) → Below (length xs) (y ∷ l)
    → (u : ℕ) → In u (y ∷ l) → get_or (laid xs off s (y ∷ l)) u 0 ≡ X u
unfolding laid
laid_at X xs off s y [] e h o b u (inl q) = rw q (get_or-set_same xs y (s + get_or off y 0) 0 b.0 ∙ sym e)
laid_at X xs off s y [] e h o b u (inr z) = absurd z
laid_at X xs off s y (w ∷ l) e h o b u (inl q) =
    rw q (laid_off (set xs y (s + get_or off y 0)) off (s + get_or off y 0) (w ∷ l) y o.0 ∙ get_or-set_same xs y (s + get_or off y 0) 0 b.0 ∙ sym e)
laid_at X xs off s y (w ∷ l) e h o b u (inr i) =
    laid_at X (set xs y (s + get_or off y 0)) off (s + get_or off y 0) w l (h y w (inl (refl, refl)) ∙ ap (λ (k : ℕ). k + get_or off w 0) e)
    (λ a c j. h a c (inr j)) o.1 (subst⁻¹ (λ (n : ℕ). Below n (w ∷ l)) (length-set xs y (s + get_or off y 0)) b.1) u i

-- ---- a stage of a list that fits so far
module _ {at ents vs : List ℕ} (A : Fitted at ents vs) {k : ℕ} (h : 3 ≤ k) (i : k ≤ length vs)
    {ys off cover left right : List ℕ} (H : Holds at ents vs k ys off cover left right) (xs : List ℕ) (room : length (held at ents) ≤ length xs) where
  abbrev G : List (List ℕ)
  G = held at ents

  abbrev t : Stage
  t = stage (held at ents) (take k vs)

  abbrev S : Shows t ys off cover left right
  S = H.shows

  K : Kept t
  K = kept_at G A.vn vs A.plane A.fits k h i

  C : Contour (After G) (post vs 1) (post vs 2) (take k vs) t.contour
  C = contours G A.vn vs A.plane A.fits k h i

  once : Once vs
  once = fits_once G A.vn vs A.plane A.fits

  name : (j : ℕ) → j < k → get_or vs j 0 < length G
  name j l = A.fits.below (get_or vs j 0) (place_in vs j (omega arith))

  placed_at : (j : ℕ) → j < k → In (get_or vs j 0) t.placed
  placed_at j l = subst⁻¹ (In (get_or vs j 0)) (stage_placed G vs k h i) (take_in k vs j l (omega arith))

  position : (u : ℕ) → In u t.placed → (j : ℕ) × (j < k) × (get_or vs j 0 ≡ u)
  position u q = let w = in_take k vs u (subst (In u) (stage_placed G vs k h i) q) in (w.0, w.1, w.3)

  low : (u : ℕ) → In u t.placed → t.x u + 4 ≤ 2 * limit
  low u q =
      let few = fits_few G A.vn vs A.plane A.fits in
      omega (arith, drawn_within K.drawn u q, ap length (stage_placed G vs k h i), length-take-le k vs i, A.most)

  on_placed : (u : ℕ) → In u t.contour → In u t.placed
  on_placed u q = subst⁻¹ (In u) (stage_placed G vs k h i) (C.placed u q)

  named : (u : ℕ) → In u t.contour → u < length G
  named u q = let w = position u (on_placed u q) in subst (λ (a : ℕ). a < length G) w.2 (name w.0 w.1)

  -- a post of the contour is one of the list
  among : (u : ℕ) → In u t.contour → In u vs
  among u q = let w = position u (on_placed u q) in subst (λ (a : ℕ). In a vs) w.2 (place_in vs w.0 (omega (arith, w.1)))

  record Whole : Type 0 where
    L : List ℕ
    is : t.contour ≡ get_or vs 0 0 ∷ L

  whole : Whole
  whole = go t.contour refl C.first
    where
      go : (l : List ℕ) → t.contour ≡ l → Head l (post vs 1) → Whole
      go [] e z = absurd z
      go (x ∷ l) e z = record { L = l; is = e ∙ rw z refl }

  abbrev L : List ℕ
  L = whole.L

  path_is : until right (get_or vs 0 0) (get_or vs 1 0) (length vs) ≡ t.contour
  path_is =
      let e = whole.is in
      let o = subst Once e C.once in
      until_list right (get_or vs 0 0) (get_or vs 1 0) (length vs) L o (ap (last_of (post vs 1)) (sym e) ∙ C.last)
      (λ x y j. S.right_is x y (subst⁻¹ (λ (l : List ℕ). Adj l x y) e j))
      (once_within (get_or vs 0 0 ∷ L) vs o (λ a q. among a (subst⁻¹ (In a) e q)))
      ∙ sym e

  origin : t.x (get_or vs 0 0) ≡ 0
  origin = ap t.x (sym (stage_first G vs k h i)) ∙ K.origin

  none : get_or off (get_or vs 0 0) 0 ≡ 0
  none = ap (λ (a : ℕ). get_or off a 0) (sym (stage_first G vs k h i)) ∙ S.from_none

  below : (m : ℕ) → length G ≤ m → Below m (until right (get_or vs 0 0) (get_or vs 1 0) (length vs))
  below m q = rw path_is (below_all m t.contour (λ a j. omega (arith, named a j)))

  line : Line right off xs (get_or vs 0 0) (get_or vs 1 0) (length vs)
  line =
      let e = whole.is in
      let x = t.x in
      let last : x (get_or vs 0 0) + along off L ≡ x (last_of (get_or vs 0 0) L) =
      along_list x off (get_or vs 0 0) L (λ a b j. S.apart a b (subst⁻¹ (λ (l : List ℕ). Adj l a b) e j)) in
      let f =
      low (last_of (get_or vs 0 0) L)
      (on_placed (last_of (get_or vs 0 0) L) (subst⁻¹ (In (last_of (get_or vs 0 0) L)) e (last_in (get_or vs 0 0) L))) in
      record {
        of_right = below (length right) H.room.of_right;
        of_off = below (length off) H.room.of_off;
        of_xs = below (length xs) room;
        fits = rw (path_is, e) (omega (arith, along_cons off (get_or vs 0 0) L, none, origin));
      }

  abbrev first : List ℕ
  first = laid xs off 0 (until right (get_or vs 0 0) (get_or vs 1 0) (length vs))

  first_at : (u : ℕ) → In u t.contour → get_or first u 0 ≡ t.x u
  first_at u q =
      let e = whole.is in
      let x = t.x in
      ap (λ (l : List ℕ). get_or (laid xs off 0 l) u 0) (path_is ∙ e)
      ∙ laid_at x xs off 0 (get_or vs 0 0) L (omega (arith, none, origin)) (λ a b j. S.apart a b (subst⁻¹ (λ (l : List ℕ). Adj l a b) e j))
      (subst Once e C.once) (subst (Below (length xs)) (path_is ∙ e) (below (length xs) room)) u (subst (In u) e q)

  -- what holds with the positions from j on read
  record Read (zs : List ℕ) (j : ℕ) : Type 0 where
    long : length G ≤ length zs
    on_contour : (u : ℕ) → In u t.contour → get_or zs u 0 ≡ t.x u
    from_j : (m : ℕ) → j ≤ m → m < k → get_or zs (get_or vs m 0) 0 ≡ t.x (get_or vs m 0)

  -- the post that covers another one stands in a later position
  pub covered_later : (j : ℕ) → j < k → ¬ (In (get_or vs j 0) t.contour) → (m : ℕ) × (j < m) × (m < k) × (get_or vs m 0 ≡ t.cover (get_or vs j 0))
  covered_later j l q =
      let e = stage_placed G vs k h i in
      let len : length t.placed ≡ k = ap length e ∙ length-take-le k vs i in
      let here : get_or t.placed j 0 ≡ get_or vs j 0 = ap (λ (r : List ℕ). get_or r j 0) e ∙ get_or-take k vs j 0 l in
      let w = K.behind j (omega (arith, len)) (λ z. q (subst (λ (a : ℕ). In a t.contour) here z)) in
      let b : w.0 < k = omega (arith, w.2, len) in
      (w.0, w.1, b, sym (get_or-take k vs w.0 0 b) ∙ ap (λ (r : List ℕ). get_or r w.0 0) (sym e) ∙ w.3 ∙ ap t.cover here)

  -- the column that is read for position j
  abbrev column : List ℕ → ℕ → ℕ
  column zs j = column_of zs off (get_or vs j 0) (get_or cover (get_or vs j 0) 0)

  read_one : (zs : List ℕ) (j : ℕ) → j < k → Read zs (suc j)
      → ColumnFits zs off (get_or vs j 0) (get_or cover (get_or vs j 0) 0) × (column zs j ≡ t.x (get_or vs j 0))
  read_one zs j l R = go (in_dec (get_or vs j 0) t.contour)
    where
      go : Dec (In (get_or vs j 0) t.contour) → ColumnFits zs off (get_or vs j 0) (get_or cover (get_or vs j 0) 0) × (column zs j ≡ t.x (get_or vs j 0))
      go (yes q) =
          let e = S.bare (get_or vs j 0) q in
          ((λ d. absurd (d e)), rw (eq-eqb (get_or cover (get_or vs j 0) 0) (get_or vs j 0) e) (R.on_contour (get_or vs j 0) q))
      go (no q) =
          let hu = placed_at j l in
          let w = covered_later j l q in
          let e : get_or cover (get_or vs j 0) 0 ≡ get_or vs w.0 0 = S.covers (get_or vs j 0) hu q ∙ sym w.3 in
          let d : ¬ (get_or cover (get_or vs j 0) 0 ≡ get_or vs j 0) =
          λ r. omega (arith, w.1, once_different vs once w.0 j (omega (arith, w.2)) (omega arith) (sym e ∙ r)) in
          let f : get_or zs (get_or cover (get_or vs j 0) 0) 0 ≡ t.x (t.cover (get_or vs j 0)) =
          ap (λ (a : ℕ). get_or zs a 0) e ∙ R.from_j w.0 (omega (arith, w.1)) w.2 ∙ ap t.x w.3 in
          let g = S.hangs (get_or vs j 0) hu q in
          let b = low (get_or vs j 0) hu in
          ((λ r. (omega arith, omega arith)), rw (ne_eqb (get_or cover (get_or vs j 0) 0) (get_or vs j 0) d) (omega arith))

  read_next : (zs : List ℕ) (j : ℕ) → j < k → Read zs (suc j) → Read (set zs (get_or vs j 0) (column zs j)) j
  read_next zs j l R =
      record {
        long = omega (arith, R.long, length-set zs (get_or vs j 0) (column zs j));
        on_contour = λ u q. new u (λ d. R.on_contour u q);
        from_j = λ m a b. new (get_or vs m 0) (λ d. R.from_j m (past m a d) b);
      }
    where
      r : column zs j ≡ t.x (get_or vs j 0)
      r = (read_one zs j l R).1

      past : (m : ℕ) → j ≤ m → ¬ (get_or vs m 0 ≡ get_or vs j 0) → suc j ≤ m
      past m a d = let e : ¬ (m ≡ j) = λ q. d (ap (λ (c : ℕ). get_or vs c 0) q) in omega arith

      new : (u : ℕ) → (¬ (u ≡ get_or vs j 0) → get_or zs u 0 ≡ t.x u) → get_or (set zs (get_or vs j 0) (column zs j)) u 0 ≡ t.x u
      new u f = go (ℕ_discrete u (get_or vs j 0))
        where
          go : Dec (u ≡ get_or vs j 0) → get_or (set zs (get_or vs j 0) (column zs j)) u 0 ≡ t.x u
          go (yes e) = rw e (get_or-set_same zs (get_or vs j 0) (column zs j) 0 (omega (arith, name j l, R.long)) ∙ r)
          go (no d) = get_or-set_other zs (get_or vs j 0) u (column zs j) 0 d ∙ f d

  read_all : (zs : List ℕ) (j : ℕ) → j ≤ k → Read zs j → Settles zs off cover vs j
      × ((m : ℕ) → m < k → get_or (settled zs off cover vs j) (get_or vs m 0) 0 ≡ t.x (get_or vs m 0))
  unfolding settled
  read_all zs zero l R = (tt, λ m b. R.from_j m (omega arith) b)
  read_all zs (suc j) l R =
      let w = read_all (set zs (get_or vs j 0) (column zs j)) j (omega arith) (read_next zs j (omega arith) R) in
      (((read_one zs j (omega arith) R).0, w.0), w.1)

  start : Read first k
  start =
      record {
        long = omega (arith, laid_length xs off 0 (until right (get_or vs 0 0) (get_or vs 1 0) (length vs)));
        on_contour = first_at;
        from_j = λ m a b. absurd (omega arith);
      }

  covers_below : (j : ℕ) → j < k → get_or cover (get_or vs j 0) 0 < length G
  covers_below j l = go (in_dec (get_or vs j 0) t.contour)
    where
      go : Dec (In (get_or vs j 0) t.contour) → get_or cover (get_or vs j 0) 0 < length G
      go (yes q) = rw (S.bare (get_or vs j 0) q) (name j l)
      go (no q) = let w = covered_later j l q in rw (S.covers (get_or vs j 0) (placed_at j l) q, ← w.3) (name w.0 w.2)

  pub readable : Readable vs off cover right xs k
  readable =
      record {
        two = omega (arith, A.three);
        line = line;
        rooms =
            record {
              of_vs = i;
              of_off = λ j l. omega (arith, name j l, H.room.of_off);
              of_cover = λ j l. omega (arith, name j l, H.room.of_cover);
              of_xs = λ j l. omega (arith, name j l);
              of_covers = λ j l. omega (arith, covers_below j l);
            };
        settles = (read_all first k (omega arith) start).0;
      }

  -- the columns are the stage's
  pub columns_are : (u : ℕ) → In u t.placed → get_or (columns_of vs off cover right xs k) u 0 ≡ t.x u
  columns_are u q =
      let w = position u q in
      subst (λ (a : ℕ). get_or (columns_of vs off cover right xs k) a 0 ≡ t.x a) w.2
      ((read_all first k (omega arith) start).1 w.0 w.1)

  -- so they are drawn
  pub drawn : {zs : List ℕ} → zs ≡ columns_of vs off cover right xs k → length zs ≡ length xs → Columned at ents vs k ys off cover left right zs
  drawn e n = record { holds = H; column = rw e columns_are; roomy = omega (arith, room) }
