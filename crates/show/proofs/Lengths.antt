-- How long the texts are, and that a buffer with room for the longest holds them whole.
use Prim.Native.Nat.{ℕ, zero, suc, ◌*◌, ◌≤◌, ◌<◌}
use mathlib.Core.Path.{◌≡◌, refl, ap, ◌∙◌, subst}
use mathlib.Core.Bool.{Bool, true, false, cond}
use mathlib.Core.List.{List, ◌++◌}
use native.Mathlib.Nat.{min-eq_left}
use native.Mathlib.Omega.{arith}
use lib.ListN.{length, take, drop, length-append}
use lib.Seq.{take_all, take_at}
use Rattle.words.specs.Lists.{In}
use Rattle.words.specs.Positions.{post}
use Rattle.words.proofs.Tests.{place_in}
use Rattle.words.proofs.Positions.{take_in, post_suc}
use Rattle.block.specs.Layout.{limit}
use Rattle.block.specs.Block.{posts, order}
use Rattle.lamp.specs.Lamp.{check_rows, stage_rows}
use Rattle.lamp.specs.Given.{Reply, accepted, refused, given, NoneApplies}
use Rattle.lamp.proofs.Given.{given_says}
use Rattle.lamp.proofs.Loads.{order_length}
use Rattle.lamp.proofs.Accepts.{lists_count}
use Rattle.lamp.proofs.Places.{SizedReply, told_sized}
use Rattle.unit.specs.Replies.{stage_at}
use Rattle.unit.proofs.Demanded.{accepted_sound, third_demand}
use Rattle.text.specs.Letters.{letters, newline, decimal, spaced, is_number, value_of}
use Rattle.text.specs.Filling.{Filling, filling, filled_with}
use Rattle.text.proofs.Numerals.{five_at_most}
use Rattle.show.specs.Shown.{refusal_text, refusal_line, head_line, position_line, lines_to, stage_line, stage_sheet, sheet_or, sheet_text, last_text}
use Rattle.show.specs.Shown.{usage, stage_text, longest_text}
use Rattle.show.proofs.Sheets.{checked, at_least, at_most, headed}

-- a buffer that is long enough holds the whole text
pub whole : (t b : List ℕ) (e : ℕ) (after : List ℕ) → length t ≤ length b → filling e after ≡ filled_with t b → (e ≤ length after) × (take e after ≡ t)
whole t b e after h q =
    let end : e ≡ length t = ap (λ (f : Filling). f.0) q ∙ min-eq_left h in
    let is : after ≡ t ++ drop (length t) b = ap (λ (f : Filling). f.1) q ∙ ap (λ (l : List ℕ). l ++ drop (length t) b) (take_all (length b) t h) in
    (omega (arith, end, ap length is, length-append t (drop (length t) b)), rw (is, end) (take_at t (drop (length t) b) (length t) refl))

-- and so does one that is as long as the longest text
pub held : (t b : List ℕ) (e : ℕ) (after : List ℕ) (longest : ℕ) → length t ≤ longest → longest ≡ length b → filling e after ≡ filled_with t b
    → (e ≤ length after) × (take e after ≡ t)
held t b e after longest h r q = whole t b e after (omega (arith, h, r)) q

-- ---- pieces

pub six : (n : ℕ) → n < 100000 → length (spaced n) ≤ 6
six n h = omega (arith, five_at_most n h)

pub refusal_length : (number place : ℕ) → number < 100000 → place < 100000 → length (refusal_line number place) ≤ 20
unfolding refusal_line refusal_text
refusal_length number place h k =
    let a = length-append (letters "refused" ++ (spaced number ++ spaced place)) newline in
    let b = length-append (letters "refused") (spaced number ++ spaced place) in
    let c = length-append (spaced number) (spaced place) in
    omega (arith, a, b, c, six number h, six place k)

head_length : (n k : ℕ) → n < 100000 → k < 100000 → length (head_line n k) ≤ 18
unfolding head_line
head_length n k h i =
    let a = length-append (letters "sheet") (spaced n ++ (spaced k ++ newline)) in
    let b = length-append (spaced n) (spaced k ++ newline) in
    let c = length-append (spaced k) newline in
    omega (arith, a, b, c, six n h, six k i)

line_length : (i u x y : ℕ) → i < 100000 → u < 100000 → x < 100000 → y < 100000 → length (position_line i u x y) ≤ 24
unfolding position_line
line_length i u x y hi hu hx hy =
    let a = length-append (decimal i) (spaced u ++ (spaced x ++ (spaced y ++ newline))) in
    let b = length-append (spaced u) (spaced x ++ (spaced y ++ newline)) in
    let c = length-append (spaced x) (spaced y ++ newline) in
    let d = length-append (spaced y) newline in
    omega (arith, a, b, c, d, five_at_most i hi, six u hu, six x hx, six y hy)

-- lines of at most m bytes each
pub lines_length : (m k : ℕ) (line : ℕ → List ℕ) → ((i : ℕ) → i < k → length (line (suc i)) ≤ m) → length (lines_to k line) ≤ m * k
unfolding lines_to
lines_length m zero line h = omega arith
lines_length m (suc k) line h =
    let rest = lines_length m k line (λ i j. h i (omega arith)) in
    omega (arith, length-append (lines_to k line) (line (suc k)), rest, h k (omega arith))

-- ---- whole texts

sheet_length : (s : List ℕ) (k n : ℕ) → given (check_rows s ++ stage_rows k) s posts ≡ accepted n → length (stage_sheet s k) ≤ longest_text
unfolding stage_sheet
sheet_length s k n e =
    let none = given_says s posts (check_rows s ++ stage_rows k) n e in
    let H = headed s k none in
    let most = at_most s k none in
    let head = head_length (posts s) k (omega (arith, H.most)) (omega (arith, H.most, most)) in
    let rest = lines_length 24 k (stage_line (order s) (stage_at k s)) (each none) in
    omega (arith, length-append (head_line (posts s) k) (lines_to k (stage_line (order s) (stage_at k s))), head, rest, most, H.most)
  where
    each : NoneApplies (check_rows s ++ stage_rows k) s → (i : ℕ) → i < k → length (stage_line (order s) (stage_at k s) (suc i)) ≤ 24
    each none i h =
        let H = headed s k none in
        let c = checked s k none in
        let most = at_most s k none in
        let u = post (order s) (suc i) in
        let here : In u (take k (order s)) = rw (post_suc (order s) i) (take_in k (order s) i h (omega (arith, order_length s, most))) in
        let on = (third_demand.grid s (posts s) k c (at_least s k none) most).inside u here in
        let name = (accepted_sound s (posts s) c).1.below u (rw (post_suc (order s) i) (place_in (order s) i (omega (arith, order_length s, most)))) in
        line_length (suc i) u ((stage_at k s).x u) ((stage_at k s).y u) (omega (arith, most, H.most)) (omega (arith, name, lists_count s, H.most))
        (omega (arith, on.0, most, H.most)) (omega (arith, on.1, most, H.most))

pub text_length : (s : List ℕ) (k : ℕ) → length (sheet_text s k) ≤ longest_text
unfolding sheet_text sheet_or
text_length s k = go (given (check_rows s ++ stage_rows k) s posts) refl
  where
    go : (r : Reply ℕ) → given (check_rows s ++ stage_rows k) s posts ≡ r → length (sheet_or r s k) ≤ longest_text
    go (accepted n) e = sheet_length s k n e
    go (refused number place) e =
        let t : SizedReply {A = ℕ} limit (refused number place) = subst (λ (r : Reply ℕ). SizedReply limit r) e
        (told_sized s posts (stage_rows k) ((λ f. omega arith), tt)) in
        omega (arith, refusal_length number place (omega (arith, t.1)) (omega (arith, t.2)))

pub last_length : (s : List ℕ) → length (last_text s) ≤ longest_text
unfolding last_text
last_length s = text_length s (posts s)

pub stage_length : (s word : List ℕ) → length (stage_text s word) ≤ longest_text
unfolding stage_text
stage_length s word = go (is_number word)
  where
    go : (b : Bool) → length (cond b (sheet_text s (value_of word)) usage) ≤ longest_text
    go true = text_length s (value_of word)
    go false = omega arith
