-- What a drawn stage says: its posts on the grid, its wires apart, its contour and its groups.
use Prim.Native.Nat.{ℕ, ◌+◌, ◌*◌, ◌-◌, ◌%◌, ◌≤◌, ◌<◌}
use mathlib.Core.Path.{◌≡◌, ap, sym, ◌∙◌, subst, subst⁻¹}
use mathlib.Core.Logic.{◌⊎◌, inl, inr}
use mathlib.Core.List.{List, [], ◌∷◌}
use native.Mathlib.Omega.{arith}
use lib.ListN.{length}
use Rattle.words.specs.Lists.{In}
use Rattle.placing.specs.Stages.{Stage}
use Rattle.drawing.specs.Meeting.{Places, NoneMeet, OnGrid}
use Rattle.words.proofs.Chains.{Chain, chain_map, chain_from}
use Rattle.drawing.proofs.Build.{Build, Built, Good, on_contour}
use Rattle.drawing.proofs.Static.{none_meet, different}
use Rattle.shift.proofs.Tri.{Over}
use Rattle.shift.proofs.Shift.{good}
use Rattle.shift.proofs.Shifting.{Onward, onward_trans}
use Rattle.shift.proofs.Drawn.{places_of, Drawn}

-- a place on the contour is one post's
one_place : (s : Places) (g : ℕ → ℕ) (l : List ℕ) (a b : ℕ) → Chain (Onward s g) l → In a l → In b l → g a ≡ g b → a ≡ b
one_place s g (c ∷ l) a b h (inl i) (inl j) e = i ∙ sym j
one_place s g (c ∷ l) a b h (inl i) (inr j) e = absurd (omega (arith, (chain_from (Onward s g) (onward_trans s g) c l h b j).ord, ap g i))
one_place s g (c ∷ l) a b h (inr i) (inl j) e = absurd (omega (arith, (chain_from (Onward s g) (onward_trans s g) c l h a i).ord, ap g j))
one_place s g (c ∷ d ∷ l) a b h (inr i) (inr j) e = one_place s g (d ∷ l) a b h.1 i j e
one_place s g [] a b h x4 _ e = elim x4 [ ]
one_place s g (c ∷ []) a b h (inr i) (inr j) e = elim i [ ]

module _ {t : Stage} {C : List ℕ} {B : Build C} (D : Drawn t B) where
  -- each post is well placed over its run: no triangle has turned over
  pub turns : Good (places_of t) B
  turns = good (places_of t) D.g B D.laid.kept

  -- two wires have no point in common but a post at which both end
  pub drawn_apart : NoneMeet (places_of t) (λ a b. Built B a b ⊎ Built B b a)
  drawn_apart = none_meet (places_of t) B turns

  -- the height is at most the column, and both together at most 2k - 4
  pub low : (u : ℕ) → In u t.placed → t.y u ≤ t.x u
  low u h = (D.laid.bounds u (D.placed u h)).0

  pub drawn_within : (u : ℕ) → In u t.placed → t.x u + t.y u + 4 ≤ 2 * length t.placed
  drawn_within u h = omega (arith, (D.laid.bounds u (D.placed u h)).1, D.wide)

  -- no column beyond 2k - 4, no height beyond k - 2, and no point for two posts
  pub grid : OnGrid (places_of t) (λ u. In u t.placed) (2 * length t.placed - 4) (length t.placed - 2)
  grid =
      record {
        inside = λ u h. (omega (arith, drawn_within u h), omega (arith, drawn_within u h, low u h));
        different = λ u w h i. different (places_of t) B turns u w (D.placed u h) (D.placed w i);
      }

  -- the contour: columns rise from left to right, and x + y is even
  pub rising : Chain (λ a b. t.x a < t.x b) t.contour
  rising = subst⁻¹ (Chain (λ a b. t.x a < t.x b)) D.contour (chain_map (λ a b h. h.far) C D.laid.rise)

  pub even : (u : ℕ) → In u t.contour → (t.x u + t.y u) % 2 ≡ 0
  even u i = D.laid.even u (subst (In u) D.contour i)

  pub contour_placed : (u : ℕ) → In u t.contour → In u t.placed
  contour_placed u i = D.posts u (on_contour B u (subst (In u) D.contour i))

  -- each post placed is in the group of one contour post, and of no other
  pub in_some : (u : ℕ) → In u t.placed → (c : ℕ) × In c t.contour × In u (t.group c)
  in_some u h =
      let k = D.placed u h in
      let r = D.headed u k in
      (r.0, subst⁻¹ (In r.0) D.contour r.1, D.grouped r.0 u r.1 k r.2)

  pub in_one : (a b u : ℕ) → In a t.contour → In b t.contour → In u (t.group a) → In u (t.group b) → a ≡ b
  in_one a b u i j h k =
      let i' = subst (In a) D.contour i in
      let j' = subst (In b) D.contour j in
      one_place (places_of t) D.g C a b D.laid.rise i' j' (sym (D.in_group a u i' h).1 ∙ (D.in_group b u j' k).1)

  pub group_placed : (c u : ℕ) → In c t.contour → In u (t.group c) → In u t.placed
  group_placed c u i h = D.posts u (D.in_group c u (subst (In c) D.contour i) h).0

-- the same drawing, where the contour is given by another list
pub record Recast (t : Stage) {C : List ℕ} (B : Build C) (C' : List ℕ) : Type 0 where
  pub B' : Build C'
  pub drawn : Drawn t B'
  pub wire : (u w : ℕ) → Built B u w → Built B' u w
  pub wire_back : (u w : ℕ) → Built B' u w → Built B u w
  pub over : (v : ℕ) (w : List ℕ) → Over B v w → Over B' v w

pub recast : {t : Stage} {C : List ℕ} (B : Build C) (C' : List ℕ) → Drawn t B → t.contour ≡ C' → Recast t B C'
recast {t} B C' D e =
    subst (Recast t B) (sym D.contour ∙ e) (record { B' = B; drawn = D; wire = λ u w h. h; wire_back = λ u w h. h; over = λ v w h. h })
