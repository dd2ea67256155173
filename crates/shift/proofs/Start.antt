-- Stage 3 is drawn.
use Prim.Native.Nat.{ℕ, ◌+◌, ◌≤◌, ◌%◌}
use mathlib.Core.Path.{◌≡◌, refl, ap, sym, ◌∙◌, subst⁻¹}
use mathlib.Core.Logic.{inl, inr, ◌≢◌}
use mathlib.Core.List.{[], ◌∷◌}
use native.Mathlib.Omega.{arith}
use lib.ListN.{get_or}
use borrow.Author.Tests.{eq-eqb, ne_eqb}
use Rattle.words.specs.Lists.{In}
use Rattle.placing.specs.Stages.{Stage, third}
use Rattle.drawing.specs.Meeting.{Places}
use Rattle.drawing.specs.Areas.{PositiveArea}
use Rattle.drawing.proofs.Build.{Build, base, post, Post, on_contour}
use Rattle.shift.proofs.Shift.{HeldPair}
use Rattle.shift.proofs.Shifting.{Laid}
use Rattle.shift.proofs.Drawn.{places_of, Drawn}

abbrev pub three : (a b c : ℕ) → Build (a ∷ c ∷ b ∷ [])
three a b c = post [] a [] b [] c (base a b)

-- a, b and c are at (0, 0), (2, 0) and (1, 1)
pub record Corner (s : Places) (g : ℕ → ℕ) (u X Y k : ℕ) : Type 0 where
  pub is_x : s.x u ≡ X
  pub is_y : s.y u ≡ Y
  pub place : g u ≡ k

module _ (s : Places) (g : ℕ → ℕ) (a b c : ℕ) (A : Corner s g a 0 0 0) (B : Corner s g b 2 0 2) (C : Corner s g c 1 1 1) where
  turn : PositiveArea s a b c
  turn = rw (A.is_x, A.is_y, B.is_x, B.is_y, C.is_x, C.is_y) (omega arith)

  held : HeldPair s g c a b
  held =
      record {
        turn = turn;
        far = omega (arith, A, B);
        from = omega (arith, A, C);
        to = omega (arith, B, C);
        low_a = omega (arith, A, C);
        low_b = omega (arith, B, C);
      }

  at : (u : ℕ) → In u (a ∷ c ∷ b ∷ []) → (s.y u ≤ s.x u) × (s.x u + s.y u ≤ 2) × ((s.x u + s.y u) % 2 ≡ 0)
  at u (inl e) = rw e (omega (arith, A))
  at u (inr (inl e)) = rw e (omega (arith, C))
  at u (inr (inr (inl e))) = rw e (omega (arith, B))
  at u (inr (inr (inr h))) = absurd h

  on : (u : ℕ) → Post (three a b c) u → In u (a ∷ c ∷ b ∷ [])
  on u (inl e) = inr (inl e)
  on u (inr (inl e)) = inl e
  on u (inr (inr e)) = inr (inr (inl e))

  pub laid_first : Laid s g 2 (three a b c)
  laid_first =
      record {
        kept = (record { left = omega (arith, A, C); right = omega (arith, B, C); run = (held, tt) }, omega (arith, A, B));
        rise = (omega (arith, A, C), (omega (arith, B, C), tt));
        bounds = λ u h. let t = at u (on u h) in (t.0, t.1);
        even = λ u h. (at u h).2;
      }

module _ (v1 v2 v3 : ℕ) (d12 : v1 ≢ v2) (d13 : v1 ≢ v3) (d23 : v2 ≢ v3) where
  abbrev t : Stage
  t = third v1 v2 v3

  -- as in stage 3's columns: v1's place is 0, v3's 1 and v2's 2
  abbrev g : ℕ → ℕ
  g = t.x

  pub first_post : Corner (places_of t) g v1 0 0 0
  unfolding third
  first_post =
      record { is_x = rw (ne_eqb v1 v3 d13, ne_eqb v1 v2 d12); is_y = rw (ne_eqb v1 v3 d13); place = rw (ne_eqb v1 v3 d13, ne_eqb v1 v2 d12) }

  pub second_post : Corner (places_of t) g v2 2 0 2
  unfolding third
  second_post =
      record { is_x = rw (ne_eqb v2 v3 d23, eq-eqb v2 v2 refl); is_y = rw (ne_eqb v2 v3 d23); place = rw (ne_eqb v2 v3 d23, eq-eqb v2 v2 refl) }

  third_post : Corner (places_of t) g v3 1 1 1
  unfolding third
  third_post = record { is_x = rw (eq-eqb v3 v3 refl); is_y = rw (eq-eqb v3 v3 refl); place = rw (eq-eqb v3 v3 refl) }

  on_all : (u : ℕ) → Post (three v1 v2 v3) u → In u (v1 ∷ v3 ∷ v2 ∷ [])
  on_all = on (places_of t) g v1 v2 v3 first_post second_post third_post

  -- a post from its place
  back : (u : ℕ) → In u (v1 ∷ v3 ∷ v2 ∷ []) → get_or (v1 ∷ v3 ∷ v2 ∷ []) (g u) 0 ≡ u
  back u (inl e) = rw (e, first_post.place)
  back u (inr (inl e)) = rw (e, third_post.place)
  back u (inr (inr (inl e))) = rw (e, second_post.place)
  back u (inr (inr (inr z))) = absurd z

  pub start : Drawn (third v1 v2 v3) (three v1 v2 v3)
  unfolding third
  start =
      record {
        contour = refl;
        posts = λ u. elim [ inl e ↦ inr (inr (inl e)) | inr (inl e) ↦ inl e | inr (inr e) ↦ inr (inl e) ];
        placed = λ u. elim [ inl e ↦ inr (inl e) | inr (inl e) ↦ inr (inr e) | inr (inr (inl e)) ↦ inl e | inr (inr (inr z)) ↦ absurd z ];
        width = 2;
        wide = refl;
        g = g;
        laid = laid_first (places_of t) g v1 v2 v3 first_post second_post third_post;
        headed = λ u h. (u, on_all u h, refl);
        in_group = λ c u i. elim [ inl e ↦ (subst⁻¹ (Post (three v1 v2 v3)) e (on_contour (three v1 v2 v3) c i), ap g e) | inr z ↦ absurd z ];
        grouped = λ c u i h e. inl (sym (back u (on_all u h)) ∙ ap (λ (k : ℕ). get_or (v1 ∷ v3 ∷ v2 ∷ []) k 0) e ∙ back c i);
      }
