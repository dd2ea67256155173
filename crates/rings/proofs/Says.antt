-- What the tests of rings, triangles and the outer triangle say, and the other way round.
use mathlib.Core.Path.{◌≡◌}
use mathlib.Core.Logic.{inl, inr, ◌≢◌}
use mathlib.Core.Bool.{true, not}
use mathlib.Core.List.{List, []}
use Prim.Native.Nat.{ℕ, ◌<◌}
use native.Mathlib.Omega.{arith}
use native.Mathlib.Decide.{dec_lt}
use lib.Dec.{T, ltb, eqb, eqb→eq, eqb_refl, ltb→lt, lt→ltb, T_not, not_T}
use lib.ListN.{length, get_or-eq_default}
use Rattle.words.specs.Lists.{In, Different, mem, count}
use Rattle.words.proofs.Lists.{Once}
use Rattle.words.proofs.Tests.{holds, is_true, both, join, mem_in, in_mem, all_says, says_all, once_count, count_once, different_once, once_different}
use Rattle.rings.specs.Rings.{ring, around, follows, entry_rule, ring_rule, triangle_rule, outer_rule}
use Rattle.rings.specs.Plane.{Follows, SameTriangle, Plane}
use Rattle.rings.proofs.Around.{After, follows_after, after_follows, next_says, says_next, all_next_says, says_all_next, around_in}

-- a triangle may be read on from its next corner
pub next_corner : {a b c u v w : ℕ} → SameTriangle a b c u v w → SameTriangle a b c v w u
next_corner (inl (e, f, g)) = inr (inl (f, g, e))
next_corner (inr (inl (e, f, g))) = inr (inr (f, g, e))
next_corner (inr (inr (e, f, g))) = inl (f, g, e)

-- only a name below n has neighbours
pub is_name : (G : List (List ℕ)) (u a : ℕ) → In a (ring G u) → u < length G
is_name G u a h = go (dec_lt u (length G))
  where
    go : Dec (u < length G) → u < length G
    go (yes l) = l
    go (no nl) = absurd (rw (get_or-eq_default G [] {n = u} (omega arith)) at h)

pub follows_name : (G : List (List ℕ)) (u a b : ℕ) → After G u a b → u < length G
follows_name G u a b f = is_name G u a (around_in (ring G u) a b f).0

-- ---- Rings
pub record RingKept (G : List (List ℕ)) (u : ℕ) : Type 0 where
  pub below : (v : ℕ) → In v (ring G u) → v < length G
  pub other : (v : ℕ) → In v (ring G u) → v ≢ u
  pub once : Different (ring G u)
  pub returned : (v : ℕ) → In v (ring G u) → In u (ring G v)

pub entry_says : (G : List (List ℕ)) (u v : ℕ) → T (entry_rule G u v) → (v < length G) × (v ≢ u) × (count (eqb v) (ring G u) ≡ 1) × In u (ring G v)
unfolding entry_rule
entry_says G u v t =
    let s = both (ltb v (length G)) _ t in
    let r = both (not (eqb v u)) _ s.1 in
    let q = both (eqb (count (eqb v) (ring G u)) 1) _ r.1 in
    (ltb→lt v (length G) s.0, (λ e. T_not (eqb v u) r.0 (rw e (eqb_refl u))), eqb→eq (count (eqb v) (ring G u)) 1 q.0, mem_in (ring G v) u q.1)

pub says_entry : (G : List (List ℕ)) (u v : ℕ) → v < length G → v ≢ u → count (eqb v) (ring G u) ≡ 1 → In u (ring G v) → T (entry_rule G u v)
unfolding entry_rule
says_entry G u v b o c r =
    join (ltb v (length G)) _ (lt→ltb v (length G) b)
    (join (not (eqb v u)) _ (not_T (eqb v u) (λ t. o (eqb→eq v u t)))
    (join (eqb (count (eqb v) (ring G u)) 1) _ (rw c tt) (in_mem (ring G v) u r)))

pub ring_says : (G : List (List ℕ)) (u : ℕ) → ring_rule G u ≡ true → RingKept G u
unfolding ring_rule
ring_says G u t = record {
  below = λ v h. (at v h).0;
  other = λ v h. (at v h).1;
  once = once_different (ring G u) (count_once (ring G u) (λ v h. (at v h).2));
  returned = λ v h. (at v h).3;
}
  where
    at : (v : ℕ) → In v (ring G u) → (v < length G) × (v ≢ u) × (count (eqb v) (ring G u) ≡ 1) × In u (ring G v)
    at v h = entry_says G u v (all_says (entry_rule G u) (ring G u) (holds (ring_rule G u) t) v h)

pub says_ring : (G : List (List ℕ)) (u : ℕ) → RingKept G u → ring_rule G u ≡ true
unfolding ring_rule
says_ring G u K =
    is_true (ring_rule G u) (says_all (entry_rule G u) (ring G u) (λ v h.
    says_entry G u v (K.below v h) (K.other v h) (once_count (ring G u) (different_once (ring G u) K.once) v h) (K.returned v h)))

-- ---- Triangles
pub triangle_says : (G : List (List ℕ)) (u : ℕ) → triangle_rule G u ≡ true → (v w : ℕ) → Follows G u v w → Follows G v w u
unfolding triangle_rule follows
triangle_says G u t v w f =
    after_follows G v w u
    (next_says w u (around (ring G v)) (all_next_says (λ v w. follows G v w u) (around (ring G u)) (holds (triangle_rule G u) t) v w (follows_after G u v w f)))

pub says_triangle : (G : List (List ℕ)) (u : ℕ) → ((v w : ℕ) → Follows G u v w → Follows G v w u) → triangle_rule G u ≡ true
unfolding triangle_rule follows
says_triangle G u h =
    is_true (triangle_rule G u) (says_all_next (λ v w. follows G v w u) (around (ring G u)) (λ v w f.
    says_next w u (around (ring G v)) (follows_after G v w u (h v w (after_follows G u v w f)))))

-- ---- Outer triangle
module _ (G : List (List ℕ)) (v1 v2 vn : ℕ) where
  pub outer_says : outer_rule G v1 v2 vn ≡ true → In v2 (ring G v1) × Follows G v2 v1 vn
  unfolding outer_rule follows
  outer_says t =
      let s = both (mem (ring G v1) v2) _ (holds (outer_rule G v1 v2 vn) t) in
      (mem_in (ring G v1) v2 s.0, after_follows G v2 v1 vn (next_says v1 vn (around (ring G v2)) s.1))

  pub says_outer : In v2 (ring G v1) → Follows G v2 v1 vn → outer_rule G v1 v2 vn ≡ true
  unfolding outer_rule follows
  says_outer h f =
      is_true (outer_rule G v1 v2 vn)
      (join (mem (ring G v1) v2) _ (in_mem (ring G v1) v2 h) (says_next v1 vn (around (ring G v2)) (follows_after G v2 v1 vn f)))

-- ---- the rules of rings and triangles, kept at every post: what the contour needs besides the outer triangle
pub record Faces (G : List (List ℕ)) : Type 0 where
  pub kept : (u : ℕ) → u < length G → RingKept G u
  pub triangle : (u v w : ℕ) → After G u v w → After G v w u

pub faces_tested : (G : List (List ℕ)) → ((u : ℕ) → u < length G → ring_rule G u ≡ true) → ((u : ℕ) → u < length G → triangle_rule G u ≡ true) → Faces G
faces_tested G r t = record {
  kept = λ u h. ring_says G u (r u h);
  triangle = λ u v w f. follows_after G v w u (triangle_says G u (t u (follows_name G u v w f)) v w (after_follows G u v w f));
}

pub faces_plane : (G : List (List ℕ)) (v1 v2 vn : ℕ) → Plane G v1 v2 vn → Faces G
faces_plane G v1 v2 vn P = record {
  kept = λ u h. record { below = λ v. P.below u v h; other = λ v. P.other u v h; once = P.once u h; returned = λ v. P.returned u v h };
  triangle = λ u v w f. follows_after G v w u (P.triangle u v w (follows_name G u v w f) (after_follows G u v w f));
}

module _ (G : List (List ℕ)) (F : Faces G) where
  -- of an entry of any ring
  pub entry_below : (u v : ℕ) → In v (ring G u) → v < length G
  entry_below u v h = (F.kept u (is_name G u v h)).below v h

  pub entry_other : (u v : ℕ) → In v (ring G u) → v ≢ u
  entry_other u v h = (F.kept u (is_name G u v h)).other v h

  pub entry_returned : (u v : ℕ) → In v (ring G u) → In u (ring G v)
  entry_returned u v h = (F.kept u (is_name G u v h)).returned v h

  pub ring_once : (u : ℕ) → u < length G → Once (ring G u)
  ring_once u h = different_once (ring G u) (F.kept u h).once
