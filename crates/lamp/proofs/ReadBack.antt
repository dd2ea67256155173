-- Each refusal is read back from its number and place; so refusals, and answers, are told apart.
use Prim.Native.Nat.{ℕ}
use mathlib.Core.Path.{◌≡◌, refl, sym, ap, ◌∙◌}
use mathlib.Core.Option.{some}
use Rattle.lamp.specs.Refusals.{number_of, place_of}
use Rattle.lamp.specs.Given.{Reply, refused, reply_of}
use Rattle.lamp.specs.ReadBack.{refusals_at, with_number, refusal_of, ToldApart}
use Rattle.std.proofs.Common.{Result, Ok, Err}
use Rattle.lamp.specs.declared.Refusal.{Refusal}
use Rattle.lamp.specs.declared.Refusal.TheVariants.{Short, Mark, Version, Posts, Length, Sum, Order, Degrees, High, Itself}
use Rattle.lamp.specs.declared.Refusal.TheVariants.{Repeated, Unreturned, Triangle, Outer, Few, Broken, Stage, Room, Name}
use Rattle.lamp.proofs.Given.{not_both}

read_back : (r : Refusal) → refusal_of (number_of r) (place_of r) ≡ some r
unfolding refusals_at with_number
read_back Short = refl
read_back Mark = refl
read_back Version = refl
read_back Posts = refl
read_back Length = refl
read_back Sum = refl
read_back (Order k) = refl
read_back (Degrees u) = refl
read_back (High u) = refl
read_back (Itself u) = refl
read_back (Repeated u) = refl
read_back (Unreturned u) = refl
read_back (Triangle u) = refl
read_back Outer = refl
read_back (Few k) = refl
read_back (Broken k) = refl
read_back Stage = refl
read_back Room = refl
read_back Name = refl

-- a number and a place are told of one refusal
one_refusal : (a b : Refusal) → number_of a ≡ number_of b → place_of a ≡ place_of b → a ≡ b
one_refusal a b n p =
    let e : some a ≡ some b = sym (read_back a) ∙ ap (λ (m : ℕ). refusal_of m (place_of a)) n ∙ ap (refusal_of (number_of b)) p ∙ read_back b in
    cc

-- a refusal in a reply of any service
pub one_refused : {A : Type 0} (a b : Refusal) → ◌≡◌ {A = Reply A} (refused (number_of a) (place_of a)) (refused (number_of b) (place_of b)) → a ≡ b
one_refused a b e =
    let n : number_of a ≡ number_of b = cc in
    let p : place_of a ≡ place_of b = cc in
    one_refusal a b n p

pub one_told : {A : Type 0} (a b : Result A Refusal) → reply_of a ≡ reply_of b → a ≡ b
one_told (Ok m) (Ok n) e = cc
one_told (Ok m) (Err f) e = not_both (sym e)
one_told (Err f) (Ok n) e = not_both e
one_told (Err f) (Err g) e = ap Err (one_refused f g e)

pub told_apart : ToldApart
told_apart =
    record { read_back = read_back; refusals = λ a b e. one_refusal a b (ap (λ t. t.number) e) (ap (λ t. t.place) e); answers = one_told }
