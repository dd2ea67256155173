-- Of blocks that pass 1 to 11: rows 12 and 13 and Chrobak and Nakano's conditions agree, by wires and over the contours of the stages.
use mathlib.Core.Path.{◌≡◌, sym, ap, ◌∙◌, subst, subst⁻¹}
use mathlib.Core.List.{List}
use Prim.Native.Nat.{ℕ, ◌≤◌, ◌<◌}
use native.Mathlib.Omega.{arith}
use lib.ListN.{length, take}
use lib.Seq.{take-length}
use Rattle.words.specs.Lists.{In}
use Rattle.words.specs.Positions.{post}
use Rattle.words.proofs.Lists.{all_there}
use Rattle.words.proofs.Tests.{once_different}
use Rattle.block.specs.Block.{posts, order, lists}
use Rattle.rings.specs.Plane.{Reached}
use Rattle.order.proofs.Growth.{Names}
use Rattle.order.proofs.Sound.{Boarded, boarded_names, boarded_plane, passes_connected, passes_sound, sound_passes}
use Rattle.lamp.specs.Lamp.{block_rows, fitting_rows}
use Rattle.lamp.specs.Given.{NoneApplies}
use Rattle.lamp.proofs.Loads.{order_length}
use Rattle.lamp.proofs.Accepts.{lists_count, none_boarded, none_framed, both_passes, passes_fitting}
use Rattle.lamp.proofs.Retired.{paper_fitting, fitting_paper}
use Rattle.growth.specs.Co.{Joined, CoOrder}
use Rattle.growth.proofs.Named.{post_in}
use Rattle.growth.proofs.Agree.{over_contour, by_wires}
use Rattle.growth.proofs.ToStages.{to_stages}
use Rattle.growth.proofs.FromStages.{from_stages}
use Rattle.agree.specs.Agree.{Connected, CoStages, CoLists, CoContours, SameRule}
use Rattle.agree.proofs.Stages.{stage_contour_list}

module _ (s : List ℕ) (h : NoneApplies block_rows s) where
  abbrev G : List (List ℕ)
  G = lists s

  abbrev vs : List ℕ
  vs = order s

  n : length G ≡ posts s
  n = lists_count s

  m : length vs ≡ posts s
  m = order_length s

  least : 3 ≤ posts s
  least = (none_framed s h).posts_least

  B : Boarded G vs
  B = none_boarded s h

  N : Names (length G) vs
  N = boarded_names G vs B

  -- ---- from the rule
  rule_connected : NoneApplies (fitting_rows s) s → Connected s
  rule_connected r u l = passes_connected G vs (both_passes s h r) u (omega (arith, n))

  rule_order : NoneApplies (fitting_rows s) s → CoOrder G vs
  rule_order r = let t = passes_sound G vs (both_passes s h r) in to_stages G vs t.0 t.1

  rule_co : NoneApplies (fitting_rows s) s → CoStages s
  rule_co r k a b = (rule_order r).co k (omega arith) (omega (arith, m))

  rule_contours : NoneApplies (fitting_rows s) s → CoContours s
  rule_contours r k a b =
      over_contour G vs k _ (stage_contour_list G vs (both_passes s h r) k a (omega (arith, n))) ((rule_order r).co k a (omega (arith, m)))

  -- ---- from the conditions
  co_order : CoStages s → CoOrder G vs
  co_order c = record { all = N.all; below = N.below; once = once_different vs N.once; co = λ k a b. c k (omega arith) (omega (arith, m)) }

  co_rule : Connected s → CoStages s → NoneApplies (fitting_rows s) s
  co_rule c r =
      let P = boarded_plane G vs B (λ u l. c u (omega (arith, n))) in
      passes_fitting s (sound_passes G vs (P, from_stages G vs P (co_order r))) least

  lists_co : CoLists s → CoStages s
  lists_co c k a b = let t = c k (omega arith) b in by_wires G vs k t.0 t.1

  -- G_n has every post, and is connected
  co_connected : CoStages s → Connected s
  co_connected r u l =
      let two = (r (posts s) least (omega arith)).co1_two_connected.1 in
      let v1 = post vs 1 in
      reached (two (posts s) v1 u first_in (all_in u l) (λ e. omega (arith, e, small v1 first_in)) (λ e. omega (arith, e)))
    where
      whole : take (posts s) vs ≡ vs
      whole = ap (λ (j : ℕ). take j vs) (sym m) ∙ take-length vs

      first_in : In (post vs 1) (take (posts s) vs)
      first_in = post_in vs (posts s) 1 (omega arith) (omega (arith, least)) (omega (arith, m))

      small : (a : ℕ) → In a (take (posts s) vs) → a < posts s
      small a i = omega (arith, N.below a (subst (In a) whole i), n)

      all_in : (u : ℕ) → u < posts s → In u (take (posts s) vs)
      all_in u l = subst⁻¹ (In u) whole (all_there (length G) vs N.once N.below (omega (arith, m, n)) u (omega (arith, n)))

      reached : {b : ℕ} → Joined G (take (posts s) vs) (posts s) (post vs 1) b → Reached G (post vs 1) b
      reached Joined.here = Reached.here
      reached (Joined.along p w ne) = Reached.along (reached p) w.2

pub same_rule : SameRule
same_rule =
    record {
      exactly = λ s h c. ((λ r. rule_co s h (fitting_paper s h r)), (λ r. paper_fitting s h (co_rule s h c r)));
      without_14 = λ s h c. (rule_co s h, co_rule s h c);
      over_lists = λ s h c. ((λ r k a b. (_, rule_contours s h r k a b)), (λ r. co_rule s h c (lists_co s h r)));
      over_contours = λ s h c. (rule_contours s h, (λ r. co_rule s h c (lists_co s h (λ k a b. (_, r k a b)))));
      connected_by_rule = rule_connected;
      connected_by_co = co_connected;
    }
