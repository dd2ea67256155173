-- Codes and structs are read back: numbers and places fit into 16 bits each, so division by 65,536 takes them apart again.
use Prim.Native.Nat.{ℕ, ◌*◌, ◌≤◌, ◌<◌}
use mathlib.Core.Path.{◌≡◌, refl, sym, ap, ◌∙◌}
use mathlib.Core.List.{List, ◌++◌}
use native.Mathlib.Omega.{arith}
use lib.ListN.{length}
use borrow.Author.Tests.{eq-eqb, ne_eqb}
use Rattle.block.specs.Layout.{limit}
use Rattle.block.specs.Block.{posts, lists}
use Rattle.placing.specs.declared.Record.{Record}
use Rattle.placing.specs.declared.Standing.{Standing}
use Rattle.placing.specs.declared.Standing.TheVariants.{Waiting, OnContour, Covered}
use Rattle.placing.specs.Records.{record_of}
use Rattle.lamp.specs.Lamp.{check_rows, sheet_rows, post_rows, stage_rows, room_rows, name_rows}
use Rattle.lamp.specs.Given.{Reply, accepted, refused, check_reply}
use Rattle.lamp.proofs.Places.{SizedReply, told_sized, check_sized}
use Rattle.lamp.proofs.Given.{given_says, accepted_is, none_left}
use Rattle.lamp.proofs.Accepts.{none_accepted, accepted_posts, accepted_framed}
use Rattle.unit.specs.Replies.{stage_at, sheet_reply, post_reply}
use Rattle.unit.proofs.Written.{sheet_most}
use Rattle.capi.specs.Codes.{refusal_code, code_of, standing_of, first_of, second_of, post_of}
use Rattle.capi.specs.ReadBack.{number_in, value_in, read_reply, read_code, read_standing, read_post, Fits, CodeFits, PostFits, ReadBack, OneCode}

-- ---- a code taken apart

accepts : {A : Type 0} (code : ℕ) (value : A) → code < 65536 → read_reply code value ≡ accepted value
accepts code value h = rw (eq-eqb (number_in code) 0 (omega arith)) refl

refuses : {A : Type 0} (number place : ℕ) (value : A) → 0 < number → place < 65536 → read_reply (refusal_code number place) value ≡ refused number place
refuses number place value h i =
    let n : number_in (refusal_code number place) ≡ number = omega arith in
    let p : value_in (refusal_code number place) ≡ place = omega arith in
    rw (n, p, ne_eqb number 0 (λ e. omega arith)) refl

codes : (r : Reply ℕ) → CodeFits r → read_code (code_of r) ≡ r
codes (accepted v) h = accepts v (value_in v) h ∙ ap accepted (omega arith)
codes (refused number place) h = refuses number place _ h.0 h.2

standings : (s : Standing) → read_standing (standing_of s) (first_of s) (second_of s) ≡ s
standings Waiting = refl
standings (OnContour l r) = refl
standings (Covered b) = refl

structs : (r : Reply Record) → PostFits r → read_post (post_of r) ≡ r
structs (accepted r) h =
    ap (λ (s : Standing). accepted (record { x = r.x; y = r.y; standing = s; leftmost = r.leftmost; rightmost = r.rightmost })) (standings r.standing)
structs (refused number place) h = refuses number place _ h.0 h.2

-- ---- what the services reply fits

fits : {A : Type 0} (ValueFits : A → Type 0) (r : Reply A) → SizedReply limit r → ((a : A) → r ≡ accepted a → ValueFits a) → Fits ValueFits r
fits ValueFits (accepted a) h f = f a refl
fits ValueFits (refused number place) h f = omega arith

check_fits : (s : List ℕ) → CodeFits (check_reply s)
unfolding check_reply
check_fits s =
    fits (λ (v : ℕ). v < 65536) (check_reply s) (check_sized s posts)
    (λ n e. omega (arith, accepted_posts s n e, (accepted_framed s n e).posts_most))

-- the count 2k of an accepted sheet is at most 2n
count_most : (s : List ℕ) (k : ℕ) (b : List ℕ) (count : ℕ) → sheet_reply s k b ≡ accepted count → count ≤ 2 * limit
unfolding sheet_reply sheet_rows
count_most s k b count e =
    let rows = sheet_rows s k (length b) in
    let check = none_left (check_rows s) (stage_rows k ++ room_rows k (length b)) s (given_says s (λ z. 2 * k) rows count e) in
    let most = (accepted_framed s (posts s) (none_accepted s check)).posts_most in
    omega (arith, accepted_is s (λ z. 2 * k) rows count e, sheet_most s k b (count, e))

sheet_fits : (s : List ℕ) (k : ℕ) (b : List ℕ) → CodeFits (sheet_reply s k b)
unfolding sheet_reply sheet_rows
sheet_fits s k b =
    fits (λ (v : ℕ). v < 65536) (sheet_reply s k b)
    (told_sized s (λ z. 2 * k) (stage_rows k ++ room_rows k (length b)) ((λ e. omega arith), ((λ e. omega arith), tt)))
    (λ count e. omega (arith, count_most s k b count e))

post_fits : (s : List ℕ) (k u : ℕ) → PostFits (post_reply s k u)
unfolding post_reply post_rows
post_fits s k u =
    fits (λ (v : Record). Unit {0}) (post_reply s k u)
    (told_sized s (λ z. record_of (lists z) (stage_at k z) u) (stage_rows k ++ name_rows u) ((λ e. omega arith), ((λ e. omega arith), tt)))
    (λ r e. tt)

-- ---- together

pub codes_read_back : ReadBack
codes_read_back =
    record {
      codes = codes;
      structs = structs;
      codes_differ = λ r q h i e. sym (codes r h) ∙ ap read_code e ∙ codes q i;
      structs_differ = λ r q h i e. sym (structs r h) ∙ ap read_post e ∙ structs q i;
      check_fits = check_fits;
      sheet_fits = sheet_fits;
      post_fits = post_fits;
      check = λ s c e. ap read_code e ∙ codes (check_reply s) (check_fits s);
      sheet = λ s k b c after e. ap read_code e.0 ∙ codes (sheet_reply s k b) (sheet_fits s k b);
      post = λ s k u p e. ap read_post e ∙ structs (post_reply s k u) (post_fits s k u);
    }

pub one_code : OneCode
one_code =
    record {
      check = λ s c d e f. e ∙ sym f;
      sheet = λ s k b c d after other e f. (e.0 ∙ sym f.0, e.1 ∙ sym f.1);
      post = λ s k u p q e f. e ∙ sym f;
    }
