-- The three demands, proved of the unit that docs/RULES.md describes; and that no other replies meet them.
use Prim.Native.Nat.{ℕ, ◌*◌}
use mathlib.Core.Path.{◌≡◌, refl, sym, ap, ◌∙◌, subst}
use mathlib.Core.List.{List, ◌++◌}
use lib.ListN.{length, drop}
use Rattle.words.specs.Positions.{post}
use Rattle.block.specs.Block.{posts, order, lists, Framed}
use Rattle.rings.specs.Plane.{Plane}
use Rattle.order.specs.Canonical.{Canonical}
use Rattle.order.proofs.Sound.{passes_sound, sound_passes}
use Rattle.placing.specs.Records.{record_of, entries_of}
use Rattle.lamp.specs.Lamp.{check_rows, sheet_rows, post_rows}
use Rattle.lamp.specs.Given.{Reply, accepted, refused, check_reply}
use Rattle.unit.specs.Replies.{stage_at, sheet_reply, buffer_for, buffer_after, post_reply}
use Rattle.unit.specs.Demands.{Services, the_paper, Accepted, Refused, Demand1, Sound, Demand2, Demand3}
use Rattle.lamp.proofs.Given.{given_fixed, fixed_one, accepted_is, not_both}
use Rattle.lamp.proofs.Accepts.{lists_count, none_passes, passes_none, none_accepted, accepted_none, accepted_posts, accepted_framed}
use Rattle.unit.proofs.DemandThree.{demand_3}

-- a reply is an acceptance or a refusal
by_reply : {A C : Type 0} (r : Reply A) → (Accepted r → C) → (Refused r → C) → C
by_reply (accepted a) f g = f (a, refl)
by_reply (refused number place) f g = g (number, place, refl)

-- ---- 1

buffer_kept : (r : Reply ℕ) (w b : List ℕ) → Refused r → buffer_for r w b ≡ b
unfolding buffer_for
buffer_kept (accepted a) w b h = not_both (sym h.2)
buffer_kept (refused number place) w b h = refl

pub first_demand : Demand1 the_paper
unfolding check_reply sheet_reply post_reply buffer_after
first_demand =
    record {
      check = λ s. given_fixed s posts (check_rows s);
      sheet = λ s k b. given_fixed s (λ z. 2 * k) (sheet_rows s k (length b));
      post = λ s k u. given_fixed s (λ z. record_of (lists z) (stage_at k z) u) (post_rows s k u);
      unchanged = λ s k b. buffer_kept (sheet_reply s k b) (entries_of (stage_at k s)) b;
    }

-- ---- 2

module _ (s : List ℕ) where
  pub accepted_sound : (n : ℕ) → check_reply s ≡ accepted n → Sound s
  accepted_sound n e =
      subst (λ (m : ℕ). Plane (lists s) (post (order s) 1) (post (order s) 2) (post (order s) m) × Canonical (lists s) (order s)) (lists_count s)
      (passes_sound (lists s) (order s) (none_passes s (accepted_none s n e)))

  pub sound_accepted : Framed s → Sound s → check_reply s ≡ accepted (posts s)
  sound_accepted F S =
      none_accepted s
      (passes_none s
      (sound_passes (lists s) (order s)
      (subst (λ (m : ℕ). Plane (lists s) (post (order s) 1) (post (order s) 2) (post (order s) m) × Canonical (lists s) (order s)) (sym (lists_count s)) S))
      F)

pub writes : (r : Reply ℕ) (k : ℕ) (w b : List ℕ) → Accepted r → ((a : ℕ) → r ≡ accepted a → a ≡ 2 * k) → buffer_for r w b ≡ w ++ drop (2 * k) b
unfolding buffer_for
writes (accepted a) k w b h f = ap (λ (m : ℕ). w ++ drop m b) (f a refl)
writes (refused number place) k w b h f = not_both h.1

pub second_demand : Demand2 the_paper
unfolding sheet_reply post_reply buffer_after
second_demand =
    record {
      exactly = λ s F. (λ a. accepted_sound s a.0 a.1, λ S. (posts s, sound_accepted s F S));
      others = λ s h. by_reply (check_reply s) (λ a. absurd (h (accepted_framed s a.0 a.1, accepted_sound s a.0 a.1))) (λ r. r);
      stands = λ s k b h. writes (sheet_reply s k b) k (entries_of (stage_at k s)) b h (λ a e. accepted_is s (λ z. 2 * k) (sheet_rows s k (length b)) a e);
      recorded = λ s k u h. h.1 ∙ ap accepted (accepted_is s (λ z. record_of (lists z) (stage_at k z) u) (post_rows s k u) h.0 h.1);
    }

-- ---- 3

pub third_demand : Demand3 the_paper
third_demand =
    demand_3 the_paper
    (λ s n e.
    (none_passes s (accepted_none s n e), accepted_posts s n e, sym (lists_count s)))

-- ---- how tight the services are held: two units that meet demands 1 and 2 reply alike, and leave the same buffer

module _ (U W : Services) (D : Demand1 U) (E : Demand1 W) where
  pub one_check : (s : List ℕ) → U.check s ≡ W.check s
  one_check s = fixed_one (check_rows s) s (posts s) (U.check s) (W.check s) (D.check s) (E.check s)

  pub one_sheet : (s : List ℕ) (k : ℕ) (b : List ℕ) → U.sheet s k b ≡ W.sheet s k b
  one_sheet s k b = fixed_one (sheet_rows s k (length b)) s (2 * k) (U.sheet s k b) (W.sheet s k b) (D.sheet s k b) (E.sheet s k b)

  pub one_post : (s : List ℕ) (k u : ℕ) → U.post s k u ≡ W.post s k u
  one_post s k u = fixed_one (post_rows s k u) s (record_of (lists s) (stage_at k s) u) (U.post s k u) (W.post s k u) (D.post s k u) (E.post s k u)

  pub one_buffer : Demand2 U → Demand2 W → (s : List ℕ) (k : ℕ) (b : List ℕ) → U.buffer s k b ≡ W.buffer s k b
  one_buffer P Q s k b =
      by_reply (U.sheet s k b) (λ a. P.stands s k b a ∙ sym (Q.stands s k b (a.0, sym (one_sheet s k b) ∙ a.1)))
      (λ r. D.unchanged s k b r ∙ sym (E.unchanged s k b (r.0, r.1, sym (one_sheet s k b) ∙ r.2)))
