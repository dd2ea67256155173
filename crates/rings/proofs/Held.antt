-- Rings as running code holds them: each is a part of the entries; and the triangle rule, as the loop over a ring finds it.
use Prim.Native.Nat.{ℕ, zero, suc, ◌+◌, ◌-◌, ◌≤◌, ◌<◌}
use mathlib.Core.Path.{◌≡◌, refl, sym, ◌∙◌}
use mathlib.Core.Bool.{Bool, true, false, not}
use mathlib.Core.List.{List, [], ◌∷◌}
use native.Mathlib.Omega.{arith}
use lib.Dec.{eqb}
use lib.ListN.{length, get_or, take, drop, get_or-eq_default}
use lib.Seq.{slice}
use Rattle.std.specs.List.{list_any}
use Rattle.std.proofs.lemmas.List.{drop-take}
use Rattle.rings.specs.Rings.{ring, around, all_next, follows, triangle_rule, outer_rule}
use Rattle.rings.proofs.Turns.{any_mem, all_next_step, all_next_end}
use Rattle.rings.specs.Held.{held, Cuts}

pub held_length : (at ents : List ℕ) → length (held at ents) ≡ length at - 1
unfolding held
held_length [] ents = refl
held_length (a ∷ []) ents = refl
held_length (a ∷ b ∷ at) ents = omega (arith, held_length (b ∷ at) ents)

held_ring : (at ents : List ℕ) (u : ℕ) → u + 1 < length at → ring (held at ents) u ≡ slice (get_or at u 0) (get_or at (u + 1) 0) ents
unfolding held
held_ring [] ents u h = absurd (omega arith)
held_ring (a ∷ []) ents u h = absurd (omega arith)
held_ring (a ∷ b ∷ at) ents zero h = refl
held_ring (a ∷ b ∷ at) ents (suc u) h =
    let e : suc u + 1 ≡ suc (u + 1) = omega arith in
    rw e (held_ring (b ∷ at) ents u (omega arith))

-- the ring of u as the code reads it: of a post beyond the last there is none
module _ (at ents : List ℕ) (u : ℕ) where
  pub held_none : length at ≤ u + 1 → [] ≡ ring (held at ents) u
  held_none h = sym (get_or-eq_default (held at ents) [] {n = u} (omega (arith, held_length at ents)))

  pub held_part : Cuts at ents → (a b : ℕ) → u + 1 < length at → a ≡ get_or at u 0 → b ≡ get_or at (u + 1) 0
      → take (b - a) (drop a ents) ≡ ring (held at ents) u
  held_part C a b h p q =
      let e : a + (b - a) ≡ b = omega (arith, C.rise u h) in
      sym (drop-take a (b - a) ents) ∙ rw (e, p, q) (sym (held_ring at ents u h))

-- ---- the outer triangle, by what the code found
module _ (G : List (List ℕ)) (v1 v2 vn : ℕ) (r : Bool) (e : r ≡ list_any (λ y. eqb y v2) (ring G v1)) where
  pub outer_apart : r ≡ false → r ≡ outer_rule G v1 v2 vn
  unfolding outer_rule
  outer_apart n = n ∙ rw (← any_mem (ring G v1) v2, ← e, n) refl

  pub outer_then : r ≡ true → (q : Bool) → q ≡ follows G v2 v1 vn → q ≡ outer_rule G v1 v2 vn
  unfolding outer_rule
  outer_then n q f = rw (← any_mem (ring G v1) v2, ← e, n, ← f) refl

pub ruleset outer_found = (outer_apart, outer_then)

-- ---- the triangle rule at u, in a loop over u's list
module _ (G : List (List ℕ)) (u : ℕ) (l : List ℕ) where
  abbrev closes : ℕ → ℕ → Bool
  closes v w = follows G v w u

  pub triangle_start : l ≡ ring G u → all_next closes (around l) ≡ triangle_rule G u
  unfolding triangle_rule
  triangle_start e = rw e refl

  module _ (i : ℕ) (h : i < length l) (so : all_next closes (drop i (around l)) ≡ triangle_rule G u) (r : Bool)
      (er : r ≡ follows G (get_or l i 0) (get_or (around l) (i + 1) 0) u) where
    pub triangle_fault_lem : r ≡ false → not (triangle_rule G u) ≡ true
    triangle_fault_lem t = rw (← so, all_next_step l i h closes, ← er, t) refl

    pub triangle_pass : r ≡ true → all_next closes (drop (i + 1) (around l)) ≡ triangle_rule G u
    triangle_pass t = rw (← so, all_next_step l i h closes, ← er, t) refl

  pub triangle_done : (i : ℕ) → i ≡ length l → all_next closes (drop i (around l)) ≡ triangle_rule G u → not (triangle_rule G u) ≡ false
  triangle_done i e so = rw (← so, all_next_end l closes i e) refl
