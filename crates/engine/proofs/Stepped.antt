-- The step of the engine: arrays that show a stage, changed at v, at the ends of its run and at the posts it covers, show the next stage.
use Prim.Native.Nat.{ℕ, ◌+◌, ◌<◌}
use mathlib.Core.Path.{◌≡◌, refl, ap, sym, ◌∙◌, subst, subst⁻¹}
use mathlib.Core.Logic.{◌⊎◌, inl, inr}
use mathlib.Core.List.{List, [], ◌∷◌, ◌++◌, append_assoc}
use native.Mathlib.Omega.{arith}
use native.Mathlib.Decide.{ℕ_discrete}
use lib.ListN.{length, get_or, get_or-append}
use Rattle.words.specs.Lists.{In, last_of, Adj}
use Rattle.words.specs.Positions.{post}
use Rattle.words.proofs.Lists.{Once, once_split, once_drop, in_dec, in_left, in_right, in_cases, adj_in_left, adj_in_right, adj_left, adj_right}
use Rattle.words.proofs.Lists.{adj_cases, adj_init, adj_tail, last_append, last_in}
use Rattle.placing.specs.Stages.{Stage, place}
use Rattle.placing.proofs.Steps.{Step, place_placed}
use Rattle.shift.proofs.Groups.{sides}
use Rattle.block.specs.Layout.{bias}
use Rattle.engine.specs.Shows.{Shows}
use Rattle.engine.proofs.Kept.{old, Kept, StepMoves, step_moves, old_placed, still_on, was_on, cover_in, cover_off, first_kept, first_on}

-- how a step changes the arrays: t is the next stage, v its new post over p, M, q
pub record Changed (t : Stage) (v p : ℕ) (M : List ℕ) (q : ℕ) (ys off cover left right ys' off' cover' left' right' : List ℕ) : Type 0 where
  pub ys_new : get_or ys' v 0 ≡ t.y v
  pub ys_old : (u : ℕ) → ¬ (u ≡ v) → get_or ys' u 0 ≡ get_or ys u 0
  pub off_new : t.x v ≡ t.x p + get_or off' v 0
  pub off_right : t.x q ≡ t.x v + get_or off' q 0
  pub off_in : (u : ℕ) → In u M → t.x u + bias ≡ t.x v + get_or off' u 0
  pub off_old : (u : ℕ) → ¬ (u ≡ v) → ¬ (u ≡ q) → ¬ (In u M) → get_or off' u 0 ≡ get_or off u 0
  pub cover_new : get_or cover' v 0 ≡ v
  pub cover_in : (u : ℕ) → In u M → get_or cover' u 0 ≡ v
  pub cover_old : (u : ℕ) → ¬ (u ≡ v) → ¬ (In u M) → get_or cover' u 0 ≡ get_or cover u 0
  pub left_new : get_or left' v 0 ≡ p
  pub left_right : get_or left' q 0 ≡ v
  pub left_old : (u : ℕ) → ¬ (u ≡ v) → ¬ (u ≡ q) → get_or left' u 0 ≡ get_or left u 0
  pub right_new : get_or right' v 0 ≡ q
  pub right_left : get_or right' p 0 ≡ v
  pub right_old : (u : ℕ) → ¬ (u ≡ v) → ¬ (u ≡ p) → get_or right' u 0 ≡ get_or right u 0

module _ (G : List (List ℕ)) (t : Stage) (v : ℕ) (s : Step G t v) (K : Kept t) where
  abbrev t' : Stage
  t' = place G t v

  abbrev X : List ℕ
  X = s.X

  abbrev M : List ℕ
  M = s.M

  abbrev Y : List ℕ
  Y = s.Y

  abbrev p : ℕ
  p = s.p

  abbrev q : ℕ
  q = s.q

  on_left : (a : ℕ) → In a (X ++ p ∷ []) → In a t.contour
  on_left a h = rw s.before (subst (In a) (append_assoc X (p ∷ []) (M ++ q ∷ Y)) (in_left a (X ++ p ∷ []) (M ++ q ∷ Y) h))

  on_right : (a : ℕ) → In a (q ∷ Y) → In a t.contour
  on_right a h = rw s.before (in_right a X (p ∷ (M ++ q ∷ Y)) (inr (in_right a M (q ∷ Y) h)))

  -- the parts of the contour have no post in common
  cut : Once ((X ++ p ∷ []) ++ (M ++ q ∷ Y))
  cut = subst⁻¹ Once (append_assoc X (p ∷ []) (M ++ q ∷ Y)) (subst Once s.before s.once)

  left_apart : (a : ℕ) → In a (X ++ p ∷ []) → ¬ (In a (M ++ q ∷ Y))
  left_apart = (once_split (X ++ p ∷ []) (M ++ q ∷ Y) cut).1

  in_apart : (a : ℕ) → In a M → ¬ (In a (q ∷ Y))
  in_apart = (once_split M (q ∷ Y) (once_drop (X ++ p ∷ []) (M ++ q ∷ Y) cut)).1

  pub left_not : (a : ℕ) → In a (X ++ p ∷ []) → (¬ (a ≡ v)) × (¬ (a ≡ q)) × ¬ (In a M)
  left_not a h = (
    old G t v s K a (s.on_placed a (on_left a h)),
    (λ e. left_apart a h (in_right a M (q ∷ Y) (inl e))),
    (λ i. left_apart a h (in_left a M (q ∷ Y) i)),
  )

  pub p_in : In p (X ++ p ∷ [])
  p_in = in_right p X (p ∷ []) (inl refl)

  pub right_not : (a : ℕ) → In a (q ∷ Y) → (¬ (a ≡ v)) × (¬ (a ≡ p)) × ¬ (In a M)
  right_not a h = (
    old G t v s K a (s.on_placed a (on_right a h)),
    (λ e. left_apart p p_in (subst (λ (b : ℕ). In b (M ++ q ∷ Y)) e (in_right a M (q ∷ Y) h))),
    (λ i. in_apart a i h),
  )

  pub beyond_not : (a : ℕ) → In a Y → ¬ (a ≡ q)
  beyond_not a h e = (once_drop M (q ∷ Y) (once_drop (X ++ p ∷ []) (M ++ q ∷ Y) cut)).0 (rw e at h)

  before_not : (a : ℕ) → In a X → ¬ (a ≡ p)
  before_not a h e = (once_split X (p ∷ []) (once_split (X ++ p ∷ []) (M ++ q ∷ Y) cut).0).1 a h (inl e)

  -- two neighbours on the new contour
  neighbours : {C : Type 0} (a b : ℕ) → (Adj (X ++ p ∷ []) a b → C) → (p ≡ a → v ≡ b → C) → (v ≡ a → q ≡ b → C) → (Adj (q ∷ Y) a b → C)
      → Adj t'.contour a b → C
  neighbours a b f g h k j =
      adj_cases a b X p (v ∷ q ∷ Y) f (elim [ inl e ↦ g e.0 e.1 | inr (inl e) ↦ h e.0 e.1 | inr (inr i) ↦ k i ])
      (subst (λ (l : List ℕ). Adj l a b) s.after j)

  was_left : (a b : ℕ) → Adj (X ++ p ∷ []) a b → Adj t.contour a b
  was_left a b h = rw s.before (adj_left a b X p (M ++ q ∷ Y) h)

  was_right : (a b : ℕ) → Adj (q ∷ Y) a b → Adj t.contour a b
  was_right a b h = rw s.before (adj_right a b X (p ∷ (M ++ q ∷ Y)) (inr (adj_right a b M (q ∷ Y) h)))

  second_kept : post t'.placed 2 ≡ post t.placed 2
  second_kept = ap (λ (l : List ℕ). post l 2) (place_placed G t v) ∙ get_or-append t.placed (v ∷ []) 0 1
      (two t.placed (s.on_placed p (on_left p p_in)) (s.on_placed q (on_right q (inl refl))))
    where
      two : (l : List ℕ) → In p l → In q l → 1 < length l
      two [] h i = absurd h
      two (x ∷ y ∷ l) h i = omega arith
      two (x ∷ []) (inl e) (inl d) = absurd ((right_not q (inl refl)).1 (d ∙ sym e))
      two (x ∷ []) (inl e) (inr z) = absurd z
      two (x ∷ []) (inr z) i = absurd z

  last_on : In (post t.placed 2) (q ∷ Y)
  last_on =
      let v1 = post t.placed 1 in
      let e : last_of v1 (X ++ p ∷ (M ++ q ∷ Y)) ≡ post t.placed 2 = ap (last_of v1) (sym s.before) ∙ s.old.last in
      subst (λ (a : ℕ). In a (q ∷ Y)) (sym (last_append v1 X p (M ++ q ∷ Y) ∙ last_append p M q Y) ∙ e) (last_in q Y)

  module _ (ys off cover left right ys' off' cover' left' right' : List ℕ) (S : Shows t ys off cover left right)
      (N : Changed t' v p M q ys off cover left right ys' off' cover' left' right') where
    abbrev m : StepMoves G t v s
    m = step_moves G t v s K

    height : (u : ℕ) → In u t'.placed → get_or ys' u 0 ≡ t'.y u
    height u h =
        in_cases u t.placed (v ∷ []) (λ i. N.ys_old u (old G t v s K u i) ∙ S.height u i ∙ sym (m.one.height u i))
        (elim [ inl e ↦ rw e N.ys_new | inr z ↦ absurd z ])
        (subst (In u) (place_placed G t v) h)

    apart : (a b : ℕ) → Adj t'.contour a b → t'.x b ≡ t'.x a + get_or off' b 0
    apart a b =
        neighbours a b
        (λ h.
        let i = adj_in_right a b (X ++ p ∷ []) h in
        let n = left_not b i in
        omega (arith, S.apart a b (was_left a b h), N.off_old b n.0 n.1 n.2, m.stays b i, m.stays a (adj_in_left a b (X ++ p ∷ []) h)))
        (λ e d. rw (← e, ← d) N.off_new)
        (λ e d. rw (← e, ← d) N.off_right)
        (λ h.
        let i = adj_tail a b q Y h in
        let n = right_not b (inr i) in
        omega (
          arith,
          S.apart a b (was_right a b h),
          N.off_old b n.0 (beyond_not b i) n.2,
          m.by_two b (inr i),
          m.by_two a (adj_in_left a b (q ∷ Y) h),
        ))

    from_none : get_or off' (post t'.placed 1) 0 ≡ 0
    from_none = let n = left_not (post t.placed 1) (first_on G t v s K) in
        rw (first_kept G t v s K) (N.off_old (post t.placed 1) n.0 n.1 n.2 ∙ S.from_none)

    left_is : (a b : ℕ) → Adj t'.contour a b → get_or left' b 0 ≡ a
    left_is a b =
        neighbours a b
        (λ h. let n = left_not b (adj_in_right a b (X ++ p ∷ []) h) in N.left_old b n.0 n.1 ∙ S.left_is a b (was_left a b h))
        (λ e d. rw (← e, ← d) N.left_new)
        (λ e d. rw (← e, ← d) N.left_right)
        (λ h. let i = adj_tail a b q Y h in N.left_old b (right_not b (inr i)).0 (beyond_not b i) ∙ S.left_is a b (was_right a b h))

    right_is : (a b : ℕ) → Adj t'.contour a b → get_or right' a 0 ≡ b
    right_is a b =
        neighbours a b
        (λ h. N.right_old a (left_not a (adj_in_left a b (X ++ p ∷ []) h)).0 (before_not a (adj_init a b X p h)) ∙ S.right_is a b (was_left a b h))
        (λ e d. rw (← e, ← d) N.right_left)
        (λ e d. rw (← e, ← d) N.right_new)
        (λ h. let n = right_not a (adj_in_left a b (q ∷ Y) h) in N.right_old a n.0 n.1 ∙ S.right_is a b (was_right a b h))

    first : get_or left' (post t'.placed 1) 0 ≡ post t'.placed 1
    first = let n = left_not (post t.placed 1) (first_on G t v s K) in rw (first_kept G t v s K) (N.left_old (post t.placed 1) n.0 n.1 ∙ S.first)

    last : get_or right' (post t'.placed 2) 0 ≡ post t'.placed 2
    last = let n = right_not (post t.placed 2) last_on in rw second_kept (N.right_old (post t.placed 2) n.0 n.1 ∙ S.last)

    not_covered : (u : ℕ) → In u t'.contour → ¬ (u ≡ v) → ¬ (In u M)
    not_covered u h n = go (sides u X p (v ∷ []) q Y (subst (In u) s.after h))
      where
        go : In u (X ++ p ∷ []) ⊎ (In u (v ∷ []) ⊎ In u (q ∷ Y)) → ¬ (In u M)
        go (inl i) = (left_not u i).2
        go (inr (inl (inl e))) = absurd (n e)
        go (inr (inl (inr z))) = absurd z
        go (inr (inr i)) = (right_not u i).2

    bare : (u : ℕ) → In u t'.contour → get_or cover' u 0 ≡ u
    bare u h = go (ℕ_discrete u v)
      where
        go : Dec (u ≡ v) → get_or cover' u 0 ≡ u
        go (yes e) = rw e N.cover_new
        go (no n) = N.cover_old u n (not_covered u h n) ∙ S.bare u (was_on G t v s K u h n)

    q_on : In q t'.contour
    q_on = rw s.after (in_right q X (p ∷ v ∷ q ∷ Y) (inr (inr (inl refl))))

    module _ (u : ℕ) (h : In u t'.placed) (n : ¬ (In u t'.contour)) where
      hu : In u t.placed
      hu = old_placed G t v s K u h n

      was_off : ¬ (In u M) → ¬ (In u t.contour)
      was_off m k = n (still_on G t v s K u k m)

      covers : get_or cover' u 0 ≡ t'.cover u
      covers = go (in_dec u M)
        where
          go : Dec (In u M) → get_or cover' u 0 ≡ t'.cover u
          go (yes i) = N.cover_in u i ∙ sym (cover_in G t v s K u i)
          go (no i) = N.cover_old u (old G t v s K u hu) i ∙ S.covers u hu (was_off i) ∙ sym (cover_off G t v s K u i)

      hangs : t'.x u + bias ≡ t'.x (t'.cover u) + get_or off' u 0
      hangs = go (in_dec u M)
        where
          go : Dec (In u M) → t'.x u + bias ≡ t'.x (t'.cover u) + get_or off' u 0
          go (yes i) = rw (cover_in G t v s K u i) (N.off_in u i)
          go (no i) =
              rw (cover_off G t v s K u i)
              (omega (arith, m.alike u hu (was_off i), S.hangs u hu (was_off i), N.off_old u (old G t v s K u hu) (λ e. n (rw e q_on)) i))

    pub shows_next : Shows t' ys' off' cover' left' right'
    shows_next =
        record {
          height = height;
          apart = apart;
          from_none = from_none;
          left_is = left_is;
          right_is = right_is;
          first = first;
          last = last;
          bare = bare;
          covers = covers;
          hangs = hangs;
        }
