-- The octahedron: a face with four sides is no triangle; and one earlier neighbour is not enough for a canonical order.
use mathlib.Core.Path.{◌≡◌, refl, sym, ap, ◌∙◌}
use mathlib.Core.Logic.{◌⊎◌, inl, inr}
use mathlib.Core.Bool.{false, not, true≢false}
use mathlib.Core.List.{List, [], ◌∷◌}
use Prim.Native.Nat.{ℕ, ◌<◌}
use native.Mathlib.Omega.{arith}
use lib.ListN.{get_or}
use Rattle.words.specs.First.{first, some}
use Rattle.words.specs.Numbers.{sum_of}
use Rattle.words.specs.Lists.{In, mem, all_of, any_of, count}
use Rattle.words.specs.Positions.{post, earlier, later}
use Rattle.words.proofs.First.{some_none}
use Rattle.words.proofs.Lists.{Once, once_length}
use Rattle.words.proofs.Tests.{holds, any_says, mem_in, once_different}
use Rattle.words.proofs.Positions.{in_earlier}
use Rattle.block.specs.Block.{bad_entry, bad_degree}
use Rattle.rings.specs.Rings.{ring, around, next, all_next, follows, entry_rule, ring_rule, triangle_rule, outer_rule}
use Rattle.rings.specs.Plane.{Plane}
use Rattle.order.specs.Order.{two_placed, from, rest, leads, one_run, one_later}
use Rattle.order.specs.Canonical.{Canonical}
use Rattle.order.proofs.Tests.{says_two, later_says}
use Rattle.order.proofs.Sound.{tested_names, passes_sound}
use Rattle.growth.specs.Co.{Face, Border, Triangular}
use Rattle.growth.specs.Co.Face.{same, turn, cross}
use Rattle.growth.specs.Forced.{Bridging}
use Rattle.growth.proofs.OnBoards.{Tested, each, tested_passes}

-- ---- a face with four sides is no triangle: of the octahedron without 2 and 5, the face in which 5 lies
abbrev octahedron : List (List ℕ)
octahedron =
    (1 ∷ 5 ∷ 4 ∷ 2 ∷ []) ∷ (0 ∷ 2 ∷ 3 ∷ 5 ∷ []) ∷ (0 ∷ 4 ∷ 3 ∷ 1 ∷ [])
    ∷ (5 ∷ 1 ∷ 2 ∷ 4 ∷ []) ∷ (0 ∷ 5 ∷ 3 ∷ 2 ∷ []) ∷ (0 ∷ 1 ∷ 3 ∷ 4 ∷ []) ∷ []

-- the posts around 5
abbrev rim : List ℕ
rim = 0 ∷ 1 ∷ 3 ∷ 4 ∷ []

-- four different names are not all among three
pigeon : (p q r : ℕ) → ((x : ℕ) → (x ≡ 0) ⊎ ((x ≡ 1) ⊎ ((x ≡ 3) ⊎ (x ≡ 4))) → (x ≡ p) ⊎ ((x ≡ q) ⊎ (x ≡ r))) → ⊥
pigeon p q r f =
    go (slot (f 0 (inl refl))) (slot (f 1 (inr (inl refl)))) (slot (f 3 (inr (inr (inl refl))))) (slot (f 4 (inr (inr (inr refl)))))
  where
    Slot : ℕ → Type 0
    Slot x = (i : ℕ) × (i < 3) × (x ≡ get_or (p ∷ q ∷ r ∷ []) i 0)

    slot : {x : ℕ} → (x ≡ p) ⊎ ((x ≡ q) ⊎ (x ≡ r)) → Slot x
    slot (inl e) = (0, omega arith, e)
    slot (inr (inl e)) = (1, omega arith, e)
    slot (inr (inr e)) = (2, omega arith, e)

    apart : {x y : ℕ} → (a : Slot x) → (b : Slot y) → ¬ (x ≡ y) → ¬ (a.0 ≡ b.0)
    apart a b n e = n (a.2 ∙ ap (λ (i : ℕ). get_or (p ∷ q ∷ r ∷ []) i 0) e ∙ sym b.2)

    go : Slot 0 → Slot 1 → Slot 3 → Slot 4 → ⊥
    go a b c d = let m = once_length 3 (a.0 ∷ b.0 ∷ c.0 ∷ d.0 ∷ []) single below in omega arith
      where
        not_a : ¬ (In a.0 (b.0 ∷ c.0 ∷ d.0 ∷ []))
        not_a (inl e) = apart a b (λ e. omega arith) e
        not_a (inr (inl e)) = apart a c (λ e. omega arith) e
        not_a (inr (inr (inl e))) = apart a d (λ e. omega arith) e
        not_a (inr (inr (inr k))) = k

        not_b : ¬ (In b.0 (c.0 ∷ d.0 ∷ []))
        not_b (inl e) = apart b c (λ e. omega arith) e
        not_b (inr (inl e)) = apart b d (λ e. omega arith) e
        not_b (inr (inr k)) = k

        not_c : ¬ (In c.0 (d.0 ∷ []))
        not_c (inl e) = apart c d (λ e. omega arith) e
        not_c (inr k) = k

        single : Once (a.0 ∷ b.0 ∷ c.0 ∷ d.0 ∷ [])
        single = (not_a, (not_b, (not_c, ((λ k. k), tt))))

        below : (i : ℕ) → In i (a.0 ∷ b.0 ∷ c.0 ∷ d.0 ∷ []) → i < 3
        below i (inl e) = rw e a.1
        below i (inr (inl e)) = rw e b.1
        below i (inr (inr (inl e))) = rw e c.1
        below i (inr (inr (inr (inl e)))) = rw e d.1
        below i (inr (inr (inr (inr k)))) = absurd k

pub four_sides : ¬ (Triangular octahedron (0 ∷ 1 ∷ 3 ∷ 4 ∷ []) 0 1 5)
unfolding around
four_sides t = pigeon t.p t.q t.r (λ x. go x)
  where
    waits : ¬ (In 5 rim)
    waits (inl e) = omega arith
    waits (inr (inl e)) = omega arith
    waits (inr (inr (inl e))) = omega arith
    waits (inr (inr (inr (inl e)))) = omega arith
    waits (inr (inr (inr (inr i)))) = i

    in1 : In 1 rim
    in1 = inr (inl refl)

    in3 : In 3 rim
    in3 = inr (inr (inl refl))

    in4 : In 4 rim
    in4 = inr (inr (inr (inl refl)))

    -- 0 1 5, 1 3 5, 3 4 5, 4 0 5: around 5
    one : Face octahedron rim 0 1 5 5 1 3
    one = cross (turn same) (λ w. waits w.1) (0 ∷ [], 4 ∷ 0 ∷ [], refl)

    three : Face octahedron rim 0 1 5 5 3 4
    three = cross (turn (turn one)) (λ w. waits w.1) (0 ∷ 1 ∷ [], 0 ∷ [], refl)

    four : Face octahedron rim 0 1 5 5 4 0
    four = cross (turn (turn three)) (λ w. waits w.1) (0 ∷ 1 ∷ 3 ∷ [], [], refl)

    begins : {x y : ℕ} → Border octahedron rim 0 1 5 x y → (x ≡ t.p) ⊎ ((x ≡ t.q) ⊎ (x ≡ t.r))
    begins {x} {y} b =
        elim (t.only x y b) [ inl e ↦ inl e.0 | inr i ↦ elim i [ inl e ↦ inr (inl e.0) | inr e ↦ inr (inr e.0) ] ]

    go : (x : ℕ) → (x ≡ 0) ⊎ ((x ≡ 1) ⊎ ((x ≡ 3) ⊎ (x ≡ 4))) → (x ≡ t.p) ⊎ ((x ≡ t.q) ⊎ (x ≡ t.r))
    go x (inl e) = rw e (begins ((inl refl, in1, inl refl), (5, ([], 4 ∷ 2 ∷ 1 ∷ [], refl), same)))
    go x (inr (inl e)) = rw e (begins ((in1, in3, inr (inr (inl refl))), (5, (0 ∷ 2 ∷ [], 0 ∷ [], refl), turn one)))
    go x (inr (inr (inl e))) = rw e (begins ((in3, in4, inr (inr (inr (inl refl)))), (5, (5 ∷ 1 ∷ 2 ∷ [], [], refl), turn three)))
    go x (inr (inr (inr e))) = rw e (begins ((in4, inl refl, inl refl), (5, ([], 3 ∷ 2 ∷ 0 ∷ [], refl), turn four)))

-- ---- its order 0 1 5 3 4 2 is canonical; 0 1 3 5 4 2 is not, since the third post has one earlier neighbour, though each below n has a later one
abbrev steady : List ℕ
steady = 0 ∷ 1 ∷ 5 ∷ 3 ∷ 4 ∷ 2 ∷ []

abbrev hasty : List ℕ
hasty = 0 ∷ 1 ∷ 3 ∷ 5 ∷ 4 ∷ 2 ∷ []

tested : Tested octahedron steady
unfolding first some mem all_of any_of count sum_of bad_entry bad_degree around next all_next follows
    entry_rule ring_rule triangle_rule outer_rule two_placed from rest leads one_run
tested = record { all = refl; entries = refl; degrees = refl; total = refl; rings = refl; triangles = refl; outer = refl; two = refl; run = refl }

pub octahedron_plane : Plane octahedron 0 1 2
octahedron_plane = (passes_sound octahedron steady (tested_passes octahedron steady tested)).0

names : some 1 6 (bad_entry 6 hasty) ≡ false
unfolding first some mem bad_entry
names = refl

an_earlier : some 3 4 (λ k. not (any_of (mem (earlier hasty k)) (ring octahedron (post hasty k)))) ≡ false
unfolding first some mem any_of
an_earlier = refl

a_later : some 3 3 (λ k. not (one_later octahedron (later hasty k) (post hasty k))) ≡ false
unfolding first some mem any_of one_later
a_later = refl

pub hasty_bridges : Bridging octahedron hasty
hasty_bridges =
    let N = tested_names octahedron hasty refl (λ k a b. some_none (bad_entry 6 hasty) 1 6 names k a (omega arith)) in
    record {
      all = refl;
      below = N.below;
      once = once_different hasty N.once;
      earlier = λ k a b.
          let found = each (λ k. any_of (mem (earlier hasty k)) (ring octahedron (post hasty k))) 3 4 an_earlier k a (omega arith) in
          let t = any_says (mem (earlier hasty k)) (ring octahedron (post hasty k)) (holds _ found) in
          (t.0, t.1, in_earlier hasty k t.0 (mem_in (earlier hasty k) t.0 t.2));
      later = λ k a b.
          let found = each (λ k. one_later octahedron (later hasty k) (post hasty k)) 3 3 a_later k a (omega arith) in
          later_says octahedron hasty k (post hasty k) found;
    }

one_only : two_placed octahedron (earlier hasty 3) (post hasty 3) ≡ false
unfolding mem count two_placed
one_only = refl

pub one_is_not_enough : ¬ (Canonical octahedron hasty)
one_is_not_enough c =
    true≢false (sym (says_two octahedron hasty 3 (post hasty 3) (omega arith) (c.two 3 (omega arith) (omega arith))) ∙ one_only)
