-- A new post over its run: over two neighbours first, and then the others of the run are cut_off off one by one.
use Prim.Native.Nat.{ℕ, ◌<◌}
use mathlib.Core.Path.{sym, subst}
use mathlib.Core.Logic.{◌⊎◌, inl, inr, ◌≢◌}
use mathlib.Core.List.{List, [], ◌∷◌, ◌++◌, append_assoc}
use native.Mathlib.Omega.{arith}
use Rattle.words.specs.Lists.{In}
use Rattle.drawing.specs.Meeting.{Places}
use Rattle.drawing.proofs.Numbers.{by_cmp}
use Rattle.drawing.specs.Areas.{PositiveArea}
use Rattle.words.proofs.Chains.{Chain}
use Rattle.drawing.proofs.Keep.{K, Add, was, new, split, cut_off}

-- v turns left from a and b: it is above them; and it is in another column than b
pub record Clear (s : Places) (v a b : ℕ) : Type 0 where
  pub turn : PositiveArea s a b v
  pub off : s.x b ≢ s.x v

-- the old wires and new ones between v and each post of l
pub record Inserted (s : Places) (E : ℕ → ℕ → Type 0) (v : ℕ) (l C : List ℕ) : Type 1 where
  pub E' : ℕ → ℕ → Type 0
  pub k : K s E' C
  pub old : (u w : ℕ) → E u w → E' u w
  pub joined : (w : ℕ) → In w l → E' v w ⊎ E' w v

module _ (s : Places) (v q : ℕ) (R : List ℕ) where
  open s use {x}

  -- to the right of v
  sweep : (E : ℕ → ℕ → Type 0) (L : List ℕ) (m : ℕ) (M : List ℕ) → K s E (L ++ v ∷ m ∷ (M ++ q ∷ R)) → E v m → Chain (Clear s v) (m ∷ (M ++ q ∷ []))
      → Inserted s E v (m ∷ (M ++ q ∷ [])) (L ++ v ∷ q ∷ R)
  sweep E L m [] k vm t =
      record {
        E' = Add E v q;
        k = cut_off s E L R v m q k (omega (arith, t.0.turn));
        old = λ u w e. was e;
        joined = λ w. elim [ inl e ↦ inl (rw e (was vm)) | inr (inl e) ↦ inl (rw e new) | inr (inr e) ↦ absurd e ];
      }
  sweep E L m (n ∷ M) k vm t =
      let r = sweep (Add E v n) L n M (cut_off s E L (M ++ q ∷ R) v m n k (omega (arith, t.0.turn))) new t.1 in
      record {
        E' = r.E';
        k = r.k;
        old = λ u w e. r.old u w (was e);
        joined = λ w. elim [ inl e ↦ inl (rw e (r.old v m (was vm))) | inr h ↦ r.joined w h ];
      }

  pub insert : (E : ℕ → ℕ → Type 0) (L : List ℕ) (p : ℕ) (M : List ℕ) → K s E (L ++ p ∷ (M ++ q ∷ R)) → x p < x v → x v < x q
      → Chain (Clear s v) (p ∷ (M ++ q ∷ [])) → Inserted s E v (p ∷ (M ++ q ∷ [])) (L ++ p ∷ v ∷ q ∷ R)
  insert E L p [] k pv vq t =
      record {
        E' = Add (Add E p v) v q;
        k = split s E L R p q v k pv vq t.0.turn;
        old = λ u w e. was (was e);
        joined = λ w. elim [ inl e ↦ inr (rw e (was new)) | inr (inl e) ↦ inl (rw e new) | inr (inr e) ↦ absurd e ];
      }
  insert E L p (m ∷ M) k pv vq t =
      by_cmp (x v) (x m) before (λ e. absurd (t.0.off (sym e)))
      (λ h. after (insert E (L ++ p ∷ []) m M (subst (K s E) (sym (append_assoc L (p ∷ []) _)) k) h vq t.1))
    where
      before : x v < x m → Inserted s E v (p ∷ m ∷ (M ++ q ∷ [])) (L ++ p ∷ v ∷ q ∷ R)
      before h =
          let k₂ = split s E L (M ++ q ∷ R) p m v k pv h t.0.turn in
          let r = sweep (Add (Add E p v) v m) (L ++ p ∷ []) m M (subst (K s (Add (Add E p v) v m)) (sym (append_assoc L (p ∷ []) _)) k₂) new t.1 in
          record {
            E' = r.E';
            k = subst (K s r.E') (append_assoc L (p ∷ []) _) r.k;
            old = λ u w e. r.old u w (was (was e));
            joined = λ w. elim [ inl e ↦ inr (rw e (r.old p v (was new))) | inr i ↦ r.joined w i ];
          }

      after : Inserted s E v (m ∷ (M ++ q ∷ [])) ((L ++ p ∷ []) ++ m ∷ v ∷ q ∷ R) → Inserted s E v (p ∷ m ∷ (M ++ q ∷ [])) (L ++ p ∷ v ∷ q ∷ R)
      after r =
          record {
            E' = Add r.E' p v;
            k = cut_off s r.E' L (q ∷ R) p m v (subst (K s r.E') (append_assoc L (p ∷ []) _) r.k) t.0.turn;
            old = λ u w e. was (r.old u w e);
            joined = λ w. elim [ inl e ↦ inr (rw e new) | inr i ↦ elim (r.joined w i) [ inl j ↦ inl (was j) | inr j ↦ inr (was j) ] ];
          }
