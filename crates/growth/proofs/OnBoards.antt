-- Boards T and D keep co1 to co3 in their own orders; the autumn block's order does not keep co3 at stage 3: post 2 is hidden in the triangle 0 1 3.
use mathlib.Core.Path.{◌≡◌, refl, subst}
use mathlib.Core.Logic.{◌⊎◌, inl, inr}
use mathlib.Core.Bool.{Bool, true, false, not}
use mathlib.Core.List.{List, [], ◌∷◌, map}
use Prim.Native.Nat.{ℕ, ◌+◌, ◌*◌, ◌-◌, ◌≤◌, ◌<◌}
use native.Mathlib.Omega.{arith}
use lib.ListN.{length}
use borrow.Author.Tests.{not-false}
use Rattle.words.specs.First.{first, some}
use Rattle.words.specs.Numbers.{sum_of}
use Rattle.words.specs.Lists.{In, mem, all_of, any_of, count}
use Rattle.words.specs.Positions.{post, earlier}
use Rattle.words.proofs.First.{some_none}
use Rattle.block.specs.Block.{bad_entry, bad_degree}
use Rattle.rings.specs.Boards.{order_t, lists_t, order_d, lists_d}
use Rattle.rings.specs.Rings.{ring, around, next, all_next, follows, entry_rule, ring_rule, triangle_rule, outer_rule}
use Rattle.rings.specs.Plane.{Wire, Plane}
use Rattle.rings.proofs.Around.{After, follows_after}
use Rattle.rings.proofs.Says.{Faces, faces_plane}
use Rattle.order.specs.Order.{two_placed, from, rest, leads, one_run}
use Rattle.order.proofs.NewRun.{rings}
use Rattle.order.proofs.Sound.{Passes, passes_sound}
use Rattle.growth.specs.Co.{Face, Triangular, Outside, CoOrder}
use Rattle.growth.specs.Co.Face.{same, turn, cross}
use Rattle.growth.proofs.FromStages.{exterior_posts}
use Rattle.growth.proofs.ToStages.{to_stages}

-- the tests of steps 7 to 13, over all names and positions
pub record Tested (G : List (List ℕ)) (vs : List ℕ) : Type 0 where
  pub all : length vs ≡ length G
  pub entries : some 1 (length G) (bad_entry (length G) vs) ≡ false
  pub degrees : some 0 (length G) (bad_degree (length G) (map length G)) ≡ false
  pub total : sum_of (map length G) ≡ 6 * length G - 12
  pub rings : some 0 (length G) (λ u. not (ring_rule G u)) ≡ false
  pub triangles : some 0 (length G) (λ u. not (triangle_rule G u)) ≡ false
  pub outer : outer_rule G (post vs 1) (post vs 2) (post vs (length G)) ≡ true
  pub two : some 3 (length G - 2) (λ k. not (two_placed G (earlier vs k) (post vs k))) ≡ false
  pub run : some 3 (length G - 2) (λ k. not (one_run G (earlier vs k) (post vs k))) ≡ false

-- where no number from i on fails the test, each passes
pub each : (p : ℕ → Bool) (i k : ℕ) → some i k (λ j. not (p j)) ≡ false → (j : ℕ) → i ≤ j → j < i + k → p j ≡ true
each p i k e j h l = not-false (p j) (some_none (λ j. not (p j)) i k e j h l)

pub tested_passes : (G : List (List ℕ)) (vs : List ℕ) → Tested G vs → Passes G vs
tested_passes G vs t =
    record {
      board =
          record {
            all = t.all;
            entries = λ k h i. some_none (bad_entry (length G) vs) 1 (length G) t.entries k h (omega arith);
            degrees = λ u h. some_none (bad_degree (length G) (map length G)) 0 (length G) t.degrees u (omega arith) (omega arith);
            total = t.total;
            rings = λ u h. each (ring_rule G) 0 (length G) t.rings u (omega arith) (omega arith);
            triangles = λ u h. each (triangle_rule G) 0 (length G) t.triangles u (omega arith) (omega arith);
            outer = t.outer;
          };
      two = λ k h i. each (λ k. two_placed G (earlier vs k) (post vs k)) 3 (length G - 2) t.two k h (omega arith);
      run = λ k h i. each (λ k. one_run G (earlier vs k) (post vs k)) 3 (length G - 2) t.run k h (omega arith);
    }

on_board : (G : List (List ℕ)) (vs : List ℕ) → Tested G vs → CoOrder G vs
on_board G vs t = let s = passes_sound G vs (tested_passes G vs t) in to_stages G vs s.0 s.1

tested_T : Tested lists_t order_t
unfolding first some mem all_of any_of count sum_of bad_entry bad_degree around next all_next follows
    entry_rule ring_rule triangle_rule outer_rule two_placed from rest leads one_run
tested_T = record { all = refl; entries = refl; degrees = refl; total = refl; rings = refl; triangles = refl; outer = refl; two = refl; run = refl }

pub T_keeps : CoOrder lists_t order_t
T_keeps = on_board lists_t order_t tested_T

tested_D : Tested lists_d order_d
unfolding first some mem all_of any_of count sum_of bad_entry bad_degree around next all_next follows
    entry_rule ring_rule triangle_rule outer_rule two_placed from rest leads one_run
tested_D = record { all = refl; entries = refl; degrees = refl; total = refl; rings = refl; triangles = refl; outer = refl; two = refl; run = refl }

pub D_keeps : CoOrder lists_d order_d
D_keeps = on_board lists_d order_d tested_D

-- ---- the autumn block: D's lists in the order 0, 1, 3, 2, 4
abbrev autumn : List ℕ
autumn = 0 ∷ 1 ∷ 3 ∷ 2 ∷ 4 ∷ []

-- the posts of its G_3
abbrev three : List ℕ
three = 0 ∷ 1 ∷ 3 ∷ []

plane_D : Plane lists_d 0 1 4
plane_D = (passes_sound lists_d order_d (tested_passes lists_d order_d tested_D)).0

faces_D : Faces lists_d
faces_D = faces_plane lists_d 0 1 4 plane_D

-- its fourth post, 2, is not in the exterior face of G_3
pub autumn_hidden : ¬ (Outside lists_d autumn 3 2)
unfolding around
autumn_hidden o = go (exterior_posts lists_d faces_D three 0 1 4 (inl refl) (inr (inl refl)) (o 0 1 ([], 3 ∷ 0 ∷ [], refl))).0
  where
    go : In 2 three ⊎ ((◌≡◌ {A = ℕ} 2 4) ⊎ ((y : ℕ) × In y (ring lists_d 2) × ¬ (In y three))) → ⊥
    go (inl (inl e)) = omega arith
    go (inl (inr (inl e))) = omega arith
    go (inl (inr (inr (inl e)))) = omega arith
    go (inl (inr (inr (inr i)))) = i
    go (inr (inl e)) = omega arith
    go (inr (inr t)) = t.2 t.1

pub autumn_not : ¬ (CoOrder lists_d autumn)
autumn_not o = autumn_hidden ((o.co 3 (omega arith) (omega arith)).co3_outside (omega arith))

-- co1 alone lets it hide: G_3's only internal face, in which it lies, is a triangle
data Hidden : ℕ → ℕ → ℕ → Type 0 where
  a1 : Hidden 0 1 2
  a2 : Hidden 1 2 0
  a3 : Hidden 2 0 1
  b1 : Hidden 0 2 3
  b2 : Hidden 2 3 0
  b3 : Hidden 3 0 2
  c1 : Hidden 1 3 2
  c2 : Hidden 3 2 1
  c3 : Hidden 2 1 3

hidden_turn : {u v w : ℕ} → Hidden u v w → Hidden v w u
hidden_turn a1 = a2
hidden_turn a2 = a3
hidden_turn a3 = a1
hidden_turn b1 = b2
hidden_turn b2 = b3
hidden_turn b3 = b1
hidden_turn c1 = c2
hidden_turn c2 = c3
hidden_turn c3 = c1

one_next : (u a b c : ℕ) → After lists_d u a b → After lists_d u a c → b ≡ c
one_next = (rings lists_d faces_D).next_one

crossed : {u v w x : ℕ} → Hidden u v w → ¬ (Wire lists_d three u v) → After lists_d v u x → Hidden v u x
unfolding around
crossed a1 n f = absurd (n (inl refl, inr (inl refl), inl refl))
crossed {x = x} a2 n f = subst (Hidden 2 1) (one_next 2 1 3 x (inr (inl (refl, refl))) f) c3
crossed {x = x} a3 n f = subst (Hidden 0 2) (one_next 0 2 3 x (inr (inl (refl, refl))) f) b1
crossed {x = x} b1 n f = subst (Hidden 2 0) (one_next 2 0 1 x (inl (refl, refl)) f) a3
crossed {x = x} b2 n f = subst (Hidden 3 2) (one_next 3 2 1 x (inr (inl (refl, refl))) f) c2
crossed b3 n f = absurd (n (inr (inr (inl refl)), inl refl, inl refl))
crossed c1 n f = absurd (n (inr (inl refl), inr (inr (inl refl)), inr (inl refl)))
crossed {x = x} c2 n f = subst (Hidden 2 3) (one_next 2 3 0 x (inr (inr (inl (refl, refl)))) f) b2
crossed {x = x} c3 n f = subst (Hidden 1 2) (one_next 1 2 0 x (inr (inr (inl (refl, refl)))) f) a2

in_hidden : {u v w : ℕ} → Face lists_d three 0 1 2 u v w → Hidden u v w
in_hidden same = a1
in_hidden (turn f) = hidden_turn (in_hidden f)
in_hidden (cross {u} {v} {w} {x} f n g) = crossed (in_hidden f) n (follows_after lists_d v u x g)

pub autumn_triangle : Triangular lists_d (0 ∷ 1 ∷ 3 ∷ []) 0 1 2
unfolding around
autumn_triangle = record {
  p = 0;
  q = 1;
  r = 3;
  differ_pq = λ e. omega arith;
  differ_qr = λ e. omega arith;
  differ_rp = λ e. omega arith;
  side_pq = ((inl refl, inr (inl refl), inl refl), (2, ([], 3 ∷ 4 ∷ 1 ∷ [], refl), same));
  side_qr = ((inr (inl refl), inr (inr (inl refl)), inr (inl refl)), (2, (4 ∷ [], 0 ∷ 4 ∷ [], refl), one_three));
  side_rp = ((inr (inr (inl refl)), inl refl, inl refl), (2, ([], 1 ∷ 4 ∷ 0 ∷ [], refl), three_zero));
  only = λ x y b. sides (in_hidden b.1.2) b.0;
}
  where
    off : {a b : ℕ} → ¬ (In a three) → ¬ (Wire lists_d three a b)
    off m w = m w.0

    waits : ¬ (In 2 three)
    waits (inl e) = omega arith
    waits (inr (inl e)) = omega arith
    waits (inr (inr (inl e))) = omega arith
    waits (inr (inr (inr i))) = i

    -- 2 0 1, over the wire 2 0 to 0 2 3, and over the wire 1 2 to 2 1 3
    three_zero : Face lists_d three 0 1 2 3 0 2
    three_zero = turn (turn (cross (turn (turn same)) (off waits) (1 ∷ [], 4 ∷ 1 ∷ [], refl)))

    one_three : Face lists_d three 0 1 2 1 3 2
    one_three = turn (cross (turn same) (λ w. waits w.1) (0 ∷ [], 0 ∷ [], refl))

    sides : {x y z : ℕ} → Hidden x y z → Wire lists_d three x y
        → ((x ≡ 0) × (y ≡ 1)) ⊎ (((x ≡ 1) × (y ≡ 3)) ⊎ ((x ≡ 3) × (y ≡ 0)))
    sides a1 w = inl (refl, refl)
    sides a2 w = absurd (waits w.1)
    sides a3 w = absurd (waits w.0)
    sides b1 w = absurd (waits w.1)
    sides b2 w = absurd (waits w.0)
    sides b3 w = inr (inr (refl, refl))
    sides c1 w = inr (inl (refl, refl))
    sides c2 w = absurd (waits w.1)
    sides c3 w = absurd (waits w.0)
