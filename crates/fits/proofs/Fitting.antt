-- The lines that `fit` prints, one after the other, and from what accepted calls wrote; and how long they are.
use Prim.Native.Nat.{ℕ, suc, ◌+◌, ◌*◌, ◌-◌, ◌≤◌, ◌<◌}
use mathlib.Core.Path.{◌≡◌, refl, sym, ap, ◌∙◌, subst}
use mathlib.Core.List.{List, ◌++◌}
use native.Mathlib.Omega.{arith}
use lib.ListN.{length, get_or, take, drop, length-take, length-append}
use lib.Seq.{get_or-take}
use borrow.Author.Tests.{le-ltb}
use Rattle.words.specs.Lists.{In}
use Rattle.words.specs.Positions.{post}
use Rattle.words.proofs.Tests.{place_in}
use Rattle.words.proofs.Positions.{in_take, take_in}
use Rattle.block.specs.Layout.{limit, size}
use Rattle.block.specs.Block.{posts, order, lists, Headed}
use Rattle.placing.specs.Records.{fit_left, fit_right, record_of, ends_of}
use Rattle.placing.specs.declared.Record.{Record}
use Rattle.placing.proofs.Steps.{stage_placed}
use Rattle.placing.proofs.Fits.{left_end_lem, right_end_lem, left_front, right_front, recorded}
use Rattle.shift.proofs.Between.{left_earlier, right_earlier}
use Rattle.lamp.specs.Lamp.{check_rows, stage_rows, sheet_rows}
use Rattle.lamp.specs.Given.{Reply, accepted, refused, check_reply, NoneApplies}
use Rattle.lamp.proofs.Given.{accepted_is, none_both}
use Rattle.lamp.proofs.Loads.{order_length}
use Rattle.lamp.proofs.Accepts.{lists_count, none_passes, accepted_none, accepted_posts, accepted_framed}
use Rattle.lamp.proofs.Places.{SizedReply, check_sized}
use Rattle.unit.specs.Replies.{stage_at, sheet_reply, buffer_after, ends_after}
use Rattle.unit.proofs.DemandThree.{Passing, vn, plane, fits}
use Rattle.unit.proofs.Demanded.{accepted_sound, third_demand, writes}
use Rattle.unit.proofs.Written.{pairs_x, pairs_y}
use Rattle.text.specs.Letters.{letters, newline, decimal, spaced}
use Rattle.text.proofs.Numerals.{five_at_most}
use Rattle.show.specs.Shown.{refusal_line, lines_to}
use Rattle.fits.specs.Fit.{fit_line, lines_from_third, record_line, fit_or, fit_text, longest_fit}
use Rattle.fits.specs.Entered.{fit_entry_line}
use Rattle.show.proofs.Sheets.{lines_more, lines_same, with_room, entered}
use Rattle.show.proofs.Lengths.{six, refusal_length, lines_length}

-- ---- line by line

-- one line more
pub third_more : (i : ℕ) (line : ℕ → List ℕ) → 2 ≤ i → lines_from_third (i + 1) line ≡ lines_from_third i line ++ line (i + 1)
third_more i line h =
    let more : i + 1 - 2 ≡ suc (i - 2) = omega arith in
    let at : suc (i - 2) + 2 ≡ i + 1 = omega arith in
    ap (λ (m : ℕ). lines_to m (λ i. line (i + 2))) more ∙ lines_more (i - 2) (λ i. line (i + 2))
    ∙ ap (λ (j : ℕ). lines_from_third i line ++ line j) at

pub fit_entry_line_lem : (vs ends b : List ℕ) (i : ℕ)
    → fit_line (i + 1) (get_or vs i 0) (get_or ends (2 * i) 0) (get_or ends (2 * i + 1) 0) (get_or b (2 * i) 0) (get_or b (2 * i + 1) 0)
    ≡ fit_entry_line vs ends b (i + 1)
fit_entry_line_lem vs ends b i = let e : i + 1 - 1 ≡ i = omega arith in rw e refl

fit_line_length : (i u l r x y : ℕ) → i < 100000 → u < 100000 → l < 100000 → r < 100000 → x < 100000 → y < 100000 → length (fit_line i u l r x y) ≤ 44
unfolding fit_line
fit_line_length i u l r x y hi hu hl hr hx hy =
    let place = spaced x ++ (spaced y ++ newline) in
    let ends = spaced l ++ (spaced r ++ place) in
    let a = length-append (decimal i) (spaced u ++ (letters " between" ++ ends)) in
    let b = length-append (spaced u) (letters " between" ++ ends) in
    let c = length-append (letters " between") ends in
    let d = length-append (spaced l) (spaced r ++ place) in
    let e = length-append (spaced r) place in
    let f = length-append (spaced x) (spaced y ++ newline) in
    let g = length-append (spaced y) newline in
    omega (arith, a, b, c, d, e, f, g, five_at_most i hi, six u hu, six l hl, six r hr, six x hx, six y hy)

-- ---- which text it is

pub fit_refuses : (s : List ℕ) (number place : ℕ) → check_reply s ≡ refused number place → fit_text s ≡ refusal_line number place
unfolding fit_text fit_or
fit_refuses s number place e = rw e refl

module _ (s : List ℕ) (n : ℕ) (c : check_reply s ≡ accepted n) where
  pub fit_headed : Headed s n
  fit_headed =
      let F = accepted_framed s n c in
      let is = accepted_posts s n c in
      record { is = is; least = omega (arith, F.posts_least, is); most = omega (arith, F.posts_most, is); sized = F.size_right ∙ ap size (sym is) }

  fit_accepts : fit_text s ≡ lines_from_third n (record_line s n)
  unfolding fit_text fit_or
  fit_accepts = rw c refl

  at_stage : NoneApplies (check_rows s ++ stage_rows n) s
  at_stage =
      let H = fit_headed in
      none_both (check_rows s) (stage_rows n) s (accepted_none s n c)
      (rw (le-ltb n 3 H.least, le-ltb (posts s) n (omega (arith, H.is))) refl, tt)

  -- with room for the longest sheet, sheet and ends accept the last stage
  pub both_accept : (b : List ℕ) → length b ≡ 2 * limit → sheet_reply s n b ≡ accepted (2 * n)
  both_accept b room = with_room s n at_stage b room

  -- ---- the record of the post in position i + 1
  abbrev vs : List ℕ
  vs = order s

  abbrev record_at : ℕ → Record
  record_at i = record_of (lists s) (stage_at n s) (get_or vs i 0)

  all : length vs ≡ n
  all = order_length s ∙ sym fit_headed.is

  -- as the sheet and the ends have it
  record RecordIs (i : ℕ) : Type 0 where
    is_x_lem : (record_at i).x ≡ (stage_at n s).x (get_or vs i 0)
    is_y_lem : (record_at i).y ≡ (stage_at n s).y (get_or vs i 0)
    is_left : (record_at i).leftmost ≡ fit_left (lists s) (take n vs) (get_or vs i 0)
    is_right : (record_at i).rightmost ≡ fit_right (lists s) (take n vs) (get_or vs i 0)

  record_is : (i : ℕ) → i < n → RecordIs i
  unfolding stage_at
  record_is i h =
      let G = lists s in
      let u = get_or vs i 0 in
      let placed = stage_placed G vs n fit_headed.least (omega (arith, all)) in
      let here : In u (stage_at n s).placed = rw placed (take_in n vs i h (omega (arith, all))) in
      let is = recorded G (stage_at n s) u here in
      record {
        is_x_lem = ap (λ (r : Record). r.x) is;
        is_y_lem = ap (λ (r : Record). r.y) is;
        is_left = ap (λ (r : Record). r.leftmost) is ∙ ap (λ (l : List ℕ). fit_left G l u) placed;
        is_right = ap (λ (r : Record). r.rightmost) is ∙ ap (λ (l : List ℕ). fit_right G l u) placed;
      }

  -- what an accepted call of ends wrote for it
  ends_entered : (b : List ℕ) (m : ℕ) → sheet_reply s n b ≡ accepted m → (i : ℕ) → i < n
      → (get_or (ends_after s n b) (2 * i) 0 ≡ (record_at i).leftmost) × (get_or (ends_after s n b) (2 * i + 1) 0 ≡ (record_at i).rightmost)
  unfolding ends_after ends_of sheet_reply
  ends_entered b m e i h =
      let G = lists s in
      let L = fit_left G (take n vs) in
      let R = fit_right G (take n vs) in
      let there : i < length (take n vs) = omega (arith, length-take n vs, all) in
      let u : get_or (take n vs) i 0 ≡ get_or vs i 0 = get_or-take n vs i 0 h in
      let rest = drop (2 * n) b in
      let is = writes (sheet_reply s n b) n (ends_of G (take n vs)) b (m, e) (λ a q. accepted_is s (λ z. 2 * n) (sheet_rows s n (length b)) a q) in
      let own = record_is i h in (
        rw is (pairs_x L R (take n vs) rest i there ∙ ap L u ∙ sym own.is_left),
        rw is (pairs_y L R (take n vs) rest i there ∙ ap R u ∙ sym own.is_right),
      )

  -- the lines from what the two calls wrote are the records'
  pub fit_entered : (b d : List ℕ) (m : ℕ) → sheet_reply s n b ≡ accepted m → (j : ℕ) → sheet_reply s n d ≡ accepted j
      → fit_text s ≡ lines_from_third n (fit_entry_line vs (ends_after s n d) (buffer_after s n b))
  fit_entered b d m e j f = fit_accepts ∙ lines_same (n - 2) _ _ same
    where
      same : (i : ℕ) → i < n - 2 → record_line s n (suc i + 2) ≡ fit_entry_line vs (ends_after s n d) (buffer_after s n b) (suc i + 2)
      same i h =
          let at = entered s n b m e (i + 2) (omega arith) in
          let ends = ends_entered d j f (i + 2) (omega arith) in
          let own = record_is (i + 2) (omega arith) in
          let less : suc i + 2 - 1 ≡ i + 2 = omega arith in
          rw (less, at.0, at.1, ends.0, ends.1, own.is_x_lem, own.is_y_lem) refl

  -- ---- how long it is

  below : (k a : ℕ) → In a (take k vs) → a < n
  below k a q =
      let t = in_take k vs a q in
      let name = (accepted_sound s n c).1.below (get_or vs t.0 0) (place_in vs t.0 t.2) in
      omega (arith, name, t.3, lists_count s, fit_headed.is)

  -- from position 3 on, the ends of a run are posts
  ends_below : (j : ℕ) → 3 ≤ j → j ≤ n → ((record_at (j - 1)).leftmost < n) × ((record_at (j - 1)).rightmost < n)
  ends_below j h i =
      let G = lists s in
      let S : Passing s = record { passes = none_passes s (accepted_none s n c); all = sym (lists_count s) } in
      let d = (fits s S).once in
      let own = record_is (j - 1) (omega arith) in
      let l = left_earlier G (vn s S) vs (plane s S) (fits s S) j h (omega (arith, all)) in
      let r = right_earlier G (vn s S) vs (plane s S) (fits s S) j h (omega (arith, all)) in
      let is-l = own.is_left ∙ left_front G vs d n j (omega arith) i (omega (arith, all)) ∙ left_end_lem G vs d j (omega arith) (omega (arith, all)) h in
      let is-r = own.is_right ∙ right_front G vs d n j (omega arith) i (omega (arith, all)) ∙ right_end_lem G vs d j (omega arith) (omega (arith, all)) h in
      (omega (arith, is-l, below (j - 1) _ l), omega (arith, is-r, below (j - 1) _ r))

  line_fits : (i : ℕ) → i < n - 2 → length (record_line s n (suc i + 2)) ≤ 44
  line_fits i h =
      let H = fit_headed in
      let u = post vs (suc i + 2) in
      let here = take_in n vs (suc i + 2 - 1) (omega arith) (omega (arith, all)) in
      let own = record_is (suc i + 2 - 1) (omega arith) in
      let ends = ends_below (suc i + 2) (omega arith) (omega arith) in
      let on = (third_demand.grid s n n c H.least (omega arith)).inside u here in
      fit_line_length (suc i + 2) u _ _ _ _ (omega (arith, H.most)) (omega (arith, below n u here, H.most)) (omega (arith, ends.0, H.most))
      (omega (arith, ends.1, H.most)) (omega (arith, own.is_x_lem, on.0, H.most)) (omega (arith, own.is_y_lem, on.1, H.most))

pub fit_length : (s : List ℕ) → length (fit_text s) ≤ longest_fit
unfolding fit_text fit_or check_reply
fit_length s = go (check_reply s) refl
  where
    go : (r : Reply ℕ) → check_reply s ≡ r → length (fit_or r s) ≤ longest_fit
    go (accepted n) e = omega (arith, lines_length 44 (n - 2) (λ i. record_line s n (i + 2)) (line_fits s n e), (fit_headed s n e).most)
    go (refused number place) e =
        let t : SizedReply {A = ℕ} limit (refused number place) = subst (λ (r : Reply ℕ). SizedReply limit r) e (check_sized s posts) in
        omega (arith, refusal_length number place (omega (arith, t.1)) (omega (arith, t.2)))
