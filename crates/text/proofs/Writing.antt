-- Filling a buffer: text after text is one text, the buffer's length stays, and a text written from the start fills it as filled_with says.
use Prim.Native.Nat.{ℕ, suc, ◌+◌, ◌≤◌, ◌<◌, min}
use mathlib.Core.Path.{◌≡◌, refl, sym, ap, ◌∙◌}
use mathlib.Core.List.{List, [], ◌∷◌, ◌++◌}
use native.Mathlib.Nat.{min-eq_left, min-eq_right, zero-add}
use native.Mathlib.Omega.{arith}
use native.Mathlib.Decide.{dec_lt}
use lib.ListN.{length, take, drop, set, length-set, length-append}
use lib.Seq.{set_at, append_snoc, take-nil, drop-nil}
use borrow.Author.Tests.{lt-ltb, le-ltb}
use Rattle.text.specs.Filling.{Filling, filling, put, write, filled_with, OneFilling}

pub put_in : (at : ℕ) (b : List ℕ) (c : ℕ) → at < length b → put (filling at b) c ≡ filling (at + 1) (set b at c)
unfolding put
put_in at b c h = rw (lt-ltb at (length b) h) refl

pub put_out : (at : ℕ) (b : List ℕ) (c : ℕ) → length b ≤ at → put (filling at b) c ≡ filling at b
unfolding put
put_out at b c h = rw (le-ltb at (length b) h) refl

pub put_length : (f : Filling) (c : ℕ) → length (put f c).1 ≡ length f.1
put_length f c = go (dec_lt f.0 (length f.1))
  where
    go : Dec (f.0 < length f.1) → length (put f c).1 ≡ length f.1
    go (yes h) = ap (λ (g : Filling). length g.1) (put_in f.0 f.1 c h) ∙ length-set f.1 f.0 c
    go (no h) = ap (λ (g : Filling). length g.1) (put_out f.0 f.1 c (omega arith))

pub write_none : (f : Filling) → write f [] ≡ f
unfolding write
write_none f = refl

pub write_more : (f : Filling) (t u : List ℕ) → write (write f t) u ≡ write f (t ++ u)
unfolding write
write_more f [] u = refl
write_more f (c ∷ t) u = write_more (put f c) t u

-- two steps are one: a, and then b
pub write_then : (f : Filling) {g h : Filling} (a b : List ℕ) → g ≡ write f a → h ≡ write g b → h ≡ write f (a ++ b)
write_then f a b e d = d ∙ ap (λ (z : Filling). write z b) e ∙ write_more f a b

pub write_length : (f : Filling) (t : List ℕ) → length (write f t).1 ≡ length f.1
unfolding write
write_length f [] = refl
write_length f (c ∷ t) = write_length (put f c) t ∙ put_length f c

-- behind the bytes of d that are written already, and over the rest
behind : (d rest t : List ℕ)
    → write (filling (length d) (d ++ rest)) t
    ≡ filling (min (length d + length t) (length d + length rest)) (d ++ (take (length rest) t ++ drop (length t) rest))
unfolding write
behind d rest [] =
    let e : min (length d + 0) (length d + length rest) ≡ length d + 0 = min-eq_left (omega arith) in
    let z : length d + 0 ≡ length d = omega arith in
    rw (e, z, take-nil (length rest)) refl
behind d [] (c ∷ t) =
    let room : length (d ++ []) ≤ length d = omega (arith, length-append d []) in
    let e : min (length d + suc (length t)) (length d + 0) ≡ min (length d + length t) (length d + 0) =
    min-eq_right (omega arith) ∙ sym (min-eq_right (omega arith)) in
    rw (put_out (length d) (d ++ []) c room, behind d [] t, e, drop-nil (length t)) refl
behind d (x ∷ rest) (c ∷ t) =
    let room : length d < length (d ++ x ∷ rest) = omega (arith, length-append d (x ∷ rest)) in
    let longer : length (d ++ c ∷ []) ≡ length d + 1 = length-append d (c ∷ []) in
    let stored : put (filling (length d) (d ++ x ∷ rest)) c ≡ filling (length (d ++ c ∷ [])) (d ++ c ∷ [] ++ rest) =
    put_in (length d) (d ++ x ∷ rest) c room
    ∙ rw (set_at d x rest c (length d) refl, longer, append_snoc d c rest) refl in
    let left : length d + 1 + length t ≡ length d + suc (length t) = omega arith in
    let right : length d + 1 + length rest ≡ length d + suc (length rest) = omega arith in
    ap (λ (f : Filling). write f t) stored
    ∙ behind (d ++ c ∷ []) rest t
    ∙ rw (longer, left, right, append_snoc d c (take (length rest) t ++ drop (length t) rest)) refl

pub written : (b t : List ℕ) → write (filling 0 b) t ≡ filled_with t b
written b t = behind [] b t ∙ rw (zero-add (length t), zero-add (length b)) refl

pub one_filling : OneFilling
one_filling = record { same = λ f e d after other p q. (ap (λ (g : Filling). g.0) (p ∙ sym q), ap (λ (g : Filling). g.1) (p ∙ sym q)) }
