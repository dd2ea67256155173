-- The shift method: what each stage keeps, and the step, with shifts by 0, 1 and 2.
use Prim.Native.Nat.{ℕ, zero, suc, ◌+◌, ◌*◌, ◌-◌, ◌≤◌, ◌<◌, ◌%◌}
use mathlib.Core.Path.{◌≡◌, refl, ap}
use mathlib.Core.Logic.{◌⊎◌, inl, inr}
use mathlib.Core.List.{List, [], ◌∷◌, ◌++◌}
use native.Mathlib.Nat.{mul-pos}
use native.Mathlib.Omega.{arith}
use Rattle.words.specs.Lists.{In}
use Rattle.drawing.specs.Meeting.{Places}
use Rattle.words.proofs.Lists.{in_cases, in_left, in_right, in_run}
use Rattle.words.proofs.Chains.{Chain, chain_run}
use Rattle.drawing.proofs.Build.{Build, post, Post, on_contour}
use Rattle.shift.specs.Step.{BeforeRun, AfterRun, Regroup, Shifts}
use Rattle.shift.proofs.Peaks.{peak}
use Rattle.shift.proofs.Shift.{HeldPair, HeldRun, HeldAll, kept}
use Rattle.shift.proofs.Group.{Moved, lo, mi, hi, moved, slides, run_chain, to_q, from_p, upto_p, onto_q, renewed}

-- b stands later on the contour than a: neither x + y nor x - y falls
pub record Onward (s : Places) (g : ℕ → ℕ) (a b : ℕ) : Type 0 where
  pub sum : s.x a + s.y a ≤ s.x b + s.y b
  pub dif : s.x a + s.y b ≤ s.x b + s.y a
  pub far : s.x a < s.x b
  pub ord : g a < g b

pub onward_trans : (s : Places) (g : ℕ → ℕ) (a b c : ℕ) → Onward s g a b → Onward s g b c → Onward s g a c
onward_trans s g a b c h k = omega arith

-- what each stage keeps: the triangles, a contour that rises, the grid, and x + y even on the contour
pub record Laid (s : Places) (g : ℕ → ℕ) (width : ℕ) {C : List ℕ} (B : Build C) : Type 0 where
  pub kept : HeldAll s g B
  pub rise : Chain (Onward s g) C
  pub bounds : (u : ℕ) → Post B u → (s.y u ≤ s.x u) × (s.x u + s.y u ≤ width)
  pub even : (u : ℕ) → In u C → (s.x u + s.y u) % 2 ≡ 0

module _ (s s' : Places) (g g' : ℕ → ℕ) (width : ℕ) (L : List ℕ) (p : ℕ) (M : List ℕ) (q : ℕ) (R : List ℕ) (v : ℕ) (B : Build (L ++ p ∷ (M ++ q ∷ R)))
    (G : Laid s g width B) (S : Shifts s s' g g' (Post B) p q v) where
  open s use {x, y}
  open s' use {x as x', y as y'}

  abbrev shift : Regroup s s' g g' (Post B) p q v
  shift = S.shift

  abbrev E : ℕ → ℕ → Type 0
  E = Onward s g

  abbrev trans : (a b c : ℕ) → E a b → E b c → E a c
  trans = onward_trans s g

  abbrev grow : (a b : ℕ) → E a b → g a < g b
  grow a b h = h.ord

  abbrev Moves_of : ℕ → Type 0
  Moves_of = Moved s s' g g' p q

  moves_of : (u : ℕ) → Post B u → Moves_of u
  moves_of = moved s s' g g' (Post B) p q v shift

  -- ---- the run
  on : (u : ℕ) → In u (p ∷ (M ++ q ∷ [])) → Post B u
  on u i = on_contour B u (in_run u L p M q R i)

  on_p : Post B p
  on_p = on p (inl refl)

  on_q : Post B q
  on_q = on q (inr (in_right q M (q ∷ []) (inl refl)))

  later_q' : (a : ℕ) → In a (p ∷ M) → E a q
  later_q' = to_q g L p M q R E trans grow G.rise

  later_p' : (b : ℕ) → In b (M ++ q ∷ []) → E p b
  later_p' = from_p g L p M q R E trans grow G.rise

  pq : E p q
  pq = later_q' p (inl refl)

  -- the ends of the run after the shift
  record Ends : Type 0 where
    yp : y' p ≡ y p
    yq : y' q ≡ y q
    of_p : BeforeRun s s' g g' p
    of_q : AfterRun s s' g g' p q q

  ends : Ends
  ends = record { yp = shift.level p on_p; yq = shift.level q on_q; of_p = shift.lo p on_p (omega arith); of_q = shift.hi q on_q (omega arith) }

  -- ---- the new post
  positive : (α β γ δ : ℕ) → 0 < γ → 0 < β + δ → 0 < α + β → 0 < α * δ + β * γ
  positive α zero γ δ h k l = omega (arith, mul-pos {m = α} {n = δ} (omega arith) (omega arith))
  positive α (suc β) γ δ h k l = omega (arith, mul-pos {m = suc β} {n = γ} (omega arith) h)

  -- two neighbours of the run after the shift, a before b
  record Seen (a b : ℕ) : Type 0 where
    sum : x' a + y' a ≤ x' b + y' b
    dif : x' a + y' b ≤ x' b + y' a
    far : x' a < x' b
    above_a : x' a + y' a < x' q + y' q
    above_b : x' b + y' b ≤ x' q + y' q
    below_a : x' p + y' a ≤ x' a + y' p
    below_b : x' p + y' b < x' b + y' p
    from : g' a ≤ g' v
    to : g' v ≤ g' b

  low_a : (a : ℕ) → In a (p ∷ M) → x p + y a ≤ x a + y p
  low_a a (inl e) = omega (arith, ap x e, ap y e)
  low_a a (inr i) = (later_p' a (in_left a M (q ∷ []) i)).dif

  low_b : (b : ℕ) → In b (M ++ q ∷ []) → x b + y b ≤ x q + y q
  low_b b = in_cases b M (q ∷ []) (λ i. (later_q' b (inr i)).sum) (elim [ inl e ↦ omega (arith, ap x e, ap y e) | inr i ↦ absurd i ])

  seen : (a b : ℕ) → In a (p ∷ M) → In b (M ++ q ∷ []) → Onward s g a b → Seen a b
  seen a b i j l = go (moves_of a ia) (moves_of b ib)
    where
      ia : Post B a
      ia = on a (in_left a (p ∷ M) (q ∷ []) i)

      ib : Post B b
      ib = on b (inr j)

      aq : Onward s g a q
      aq = later_q' a i

      pb : Onward s g p b
      pb = later_p' b j

      go : Moves_of a → Moves_of b → Seen a b
      go (lo c d) (mi k k' m) = omega (arith, l, aq, pb, ends, low_a a i, low_b b j, shift.level a ia, shift.level b ib, shift.v_place)
      go (lo c d) (hi k m) = omega (arith, l, aq, pb, ends, low_a a i, low_b b j, shift.level a ia, shift.level b ib, shift.v_place)
      go (mi c c' d) (mi k k' m) = omega (arith, l, aq, pb, ends, low_a a i, low_b b j, shift.level a ia, shift.level b ib, shift.v_place)
      go (mi c c' d) (hi k m) = omega (arith, l, aq, pb, ends, low_a a i, low_b b j, shift.level a ia, shift.level b ib, shift.v_place)
      go (lo c d) (lo k m) = absurd (omega (arith, pb))
      go (mi c c' d) (lo k m) = absurd (omega (arith, pb))
      go (hi c d) (lo k m) = absurd (omega (arith, aq))
      go (hi c d) (mi k k' m) = absurd (omega (arith, aq))
      go (hi c d) (hi k m) = absurd (omega (arith, aq))

  held : (a b : ℕ) → In a (p ∷ M) → In b (M ++ q ∷ []) → Onward s g a b → HeldPair s' g' v a b
  held a b i j l =
      let t = seen a b i j l in
      let α : ℕ = x' b + y' b - (x' a + y' a) in
      let β : ℕ = x' b + y' a - (x' a + y' b) in
      let γ : ℕ = x' v + y' v - (x' a + y' a) in
      let δ : ℕ = x' a + y' v - (x' v + y' a) in
      record {
        turn =
            peak (x' a) (y' a) (x' b) (y' b) (x' v) (y' v) α β γ δ
            (omega (arith, t.sum)) (omega (arith, t.dif)) (omega (arith, t.above_a, S.v_sum)) (omega (arith, t.below_a, S.v_dif))
            (positive α β γ δ (omega (arith, t.above_a, S.v_sum)) (omega (arith, t.dif, t.below_a, t.below_b, S.v_dif)) (omega (arith, t.far)));
        far = t.far;
        from = t.from;
        to = t.to;
        low_a = λ h. omega (arith, t, S.v_sum, S.v_dif);
        low_b = λ h. omega (arith, t, S.v_sum, S.v_dif);
      }

  later_p : Onward s' g' p v
  later_p = omega (arith, ends, pq, S.v_sum, S.v_dif, shift.v_place)

  later_q : Onward s' g' v q
  later_q = omega (arith, ends, pq, S.v_sum, S.v_dif, shift.v_place)

  holds : HeldRun s' g' p M q v
  holds = record { left = omega (arith, later_p); right = omega (arith, later_q); run = chain_run q p M held (run_chain g L p M q R E trans grow G.rise) }

  -- ---- the next stage
  same_later : (a b : ℕ) → Post B a → Post B b → ((g a ≤ g p) × (g b ≤ g p)) ⊎ ((g q ≤ g a) × (g q ≤ g b)) → Onward s g a b → Onward s' g' a b
  same_later a b i j (inl h) l = omega (arith, l, shift.level a i, shift.level b j, shift.lo a i h.0, shift.lo b j h.1)
  same_later a b i j (inr h) l = omega (arith, l, shift.level a i, shift.level b j, shift.hi a i h.0, shift.hi b j h.1)

  rise' : Chain (Onward s' g') (L ++ p ∷ v ∷ q ∷ R)
  rise' =
      renewed g L p M q R E trans grow G.rise (Onward s' g') v
      (λ a b i j h k. same_later a b (on_contour B a i) (on_contour B b j) (inl (h, k)))
      (λ a b i j h k. same_later a b (on_contour B a i) (on_contour B b j) (inr (h, k))) later_p later_q

  bounds' : (u : ℕ) → (u ≡ v) ⊎ Post B u → (y' u ≤ x' u) × (x' u + y' u ≤ width + 2)
  bounds' u (inl e) = rw e (omega (arith, ends, pq, S.v_sum, S.v_dif, G.bounds p on_p, G.bounds q on_q))
  bounds' u (inr h) = go (moves_of u h)
    where
      go : Moves_of u → (y' u ≤ x' u) × (x' u + y' u ≤ width + 2)
      go (lo a b) = omega (arith, shift.level u h, G.bounds u h)
      go (mi a a' b) = omega (arith, shift.level u h, G.bounds u h)
      go (hi a b) = omega (arith, shift.level u h, G.bounds u h)

  even' : (u : ℕ) → In u (L ++ p ∷ v ∷ q ∷ R) → (x' u + y' u) % 2 ≡ 0
  even' u = in_cases u L (p ∷ v ∷ q ∷ R) (λ i. low u (in_left u L (p ∷ []) i)) go
    where
      low : (a : ℕ) → In a (L ++ p ∷ []) → (x' a + y' a) % 2 ≡ 0
      low a i =
          let t = upto_p g L p M q R E trans grow G.rise a i in
          let h = on_contour B a t.1 in
          omega (arith, G.even a t.1, shift.lo a h t.0, shift.level a h)

      high : (a : ℕ) → In a (q ∷ R) → (x' a + y' a) % 2 ≡ 0
      high a i =
          let t = onto_q g L p M q R E trans grow G.rise a i in
          let h = on_contour B a t.1 in
          omega (arith, G.even a t.1, shift.hi a h t.0, shift.level a h)

      go : In u (p ∷ v ∷ q ∷ R) → (x' u + y' u) % 2 ≡ 0
      go (inl e) = low u (in_right u L (p ∷ []) (inl e))
      go (inr (inl e)) = rw e (omega (arith, S.v_sum, high q (inl refl)))
      go (inr (inr i)) = high u i

  pub laid_next : Laid s' g' (width + 2) (post L p M q R v B)
  laid_next =
      let m = slides s s' g g' (Post B) p q v shift pq.ord in
      record { kept = (holds, kept s s' g g' B m G.kept); rise = rise'; bounds = bounds'; even = even' }
