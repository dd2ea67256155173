-- Laws of the reply that a table gives: the first row that applies, and no other reply.
use mathlib.Core.Path.{◌≡◌, refl, sym, ap, ◌∙◌}
use mathlib.Core.Bool.{Bool, true, false}
use mathlib.Core.List.{List, [], ◌∷◌, ◌++◌, append-nil}
use Prim.Native.Nat.{ℕ}
use native.Mathlib.Omega.{arith}
use Rattle.lamp.specs.Lamp.{Row}
use Rattle.lamp.specs.Given.{Reply, accepted, refused, given, NoneApplies, Fixed, accepts, refuses}

module _ {A : Type 0} (s : List ℕ) (answer : List ℕ → A) where
  pub given_end : given [] s answer ≡ accepted (answer s)
  unfolding given
  given_end = refl

  -- a row that does not apply is passed over; one that applies is given
  pub given_skip : (r : Row) (rows : List Row) → r.when s ≡ false → given (r ∷ rows) s answer ≡ given rows s answer
  unfolding given
  given_skip r rows e = rw (e, given) refl

  pub given_stop : (r : Row) (rows : List Row) → r.when s ≡ true → given (r ∷ rows) s answer ≡ refused r.number (r.place s)
  unfolding given
  given_stop r rows e = rw (e, given) refl

  -- the rows of a table's first part, and then the rest
  pub given_past : (rows rest : List Row) → NoneApplies rows s → given (rows ++ rest) s answer ≡ given rest s answer
  given_past [] rest h = refl
  given_past (r ∷ rows) rest h = given_skip r (rows ++ rest) h.0 ∙ given_past rows rest h.1

  -- none before applies, this one does: it is given
  pub given_first : (before : List Row) (r : Row) (after : List Row) → NoneApplies before s → r.when s ≡ true
      → given (before ++ r ∷ after) s answer ≡ refused r.number (r.place s)
  given_first before r after none applies = given_past before (r ∷ after) none ∙ given_stop r after applies

  -- rests that are given alike where the rows before them pass
  pub given_alike : (rows b c : List Row) → (NoneApplies rows s → given b s answer ≡ given c s answer)
      → given (rows ++ b) s answer ≡ given (rows ++ c) s answer
  given_alike [] b c f = f tt
  given_alike (r ∷ rows) b c f = go (r.when s) refl (given_alike rows b c)
    where
      go : (t : Bool) → r.when s ≡ t
          → ((NoneApplies rows s → given b s answer ≡ given c s answer) → given (rows ++ b) s answer ≡ given (rows ++ c) s answer)
          → given (r ∷ rows ++ b) s answer ≡ given (r ∷ rows ++ c) s answer
      go true e k = given_stop r (rows ++ b) e ∙ sym (given_stop r (rows ++ c) e)
      go false e k = given_skip r (rows ++ b) e ∙ k (λ h. f (e, h)) ∙ sym (given_skip r (rows ++ c) e)

  -- none of a group applies
  pub given_none : (rows : List Row) → NoneApplies rows s → given rows s answer ≡ accepted (answer s)
  given_none rows h = ap (λ (l : List Row). given l s answer) (sym (append-nil rows)) ∙ given_past rows [] h ∙ given_end

  -- the reply is what the table fixes
  pub given_fixed : (rows : List Row) → Fixed rows s (answer s) (given rows s answer)
  given_fixed [] = rw given_end (accepts tt)
  given_fixed (r ∷ rows) = go (r.when s) refl (given_fixed rows)
    where
      go : (b : Bool) → r.when s ≡ b → Fixed rows s (answer s) (given rows s answer) → Fixed (r ∷ rows) s (answer s) (given (r ∷ rows) s answer)
      go true e F = rw (given_stop r rows e) (refuses [] r rows refl tt e)
      go false e F = rw (given_skip r rows e) (later F)
        where
          later : {z : Reply A} → Fixed rows s (answer s) z → Fixed (r ∷ rows) s (answer s) z
          later (accepts h) = accepts (e, h)
          later (refuses before q after is none t) = refuses (r ∷ before) q after (ap (λ (l : List Row). r ∷ l) is) (e, none) t

-- and only that
pub fixed_given : {A : Type 0} (rows : List Row) (s : List ℕ) (answer : List ℕ → A) {r : Reply A} → Fixed rows s (answer s) r → r ≡ given rows s answer
fixed_given rows s answer (accepts h) = sym (given_none s answer rows h)
fixed_given rows s answer (refuses before q after is none t) =
    sym (ap (λ (l : List Row). given l s answer) is ∙ given_first s answer before q after none t)

pub fixed_one : {A : Type 0} (rows : List Row) (s : List ℕ) (a : A) (r q : Reply A) → Fixed rows s a r → Fixed rows s a q → r ≡ q
fixed_one rows s a r q F G = fixed_given rows s (λ z. a) F ∙ sym (fixed_given rows s (λ z. a) G)

-- what a reply says of the rows
module _ {A : Type 0} (s : List ℕ) (answer : List ℕ → A) where
  pub given_says : (rows : List Row) (a : A) → given rows s answer ≡ accepted a → NoneApplies rows s
  given_says rows a e = go (given_fixed s answer rows) e
    where
      go : {r : Reply A} → Fixed rows s (answer s) r → r ≡ accepted a → NoneApplies rows s
      go (accepts h) q = h
      go (refuses before t after is none w) q = absurd (let z : ◌≡◌ {A = ℕ} 0 1 = cc in omega arith)

  pub accepted_is : (rows : List Row) (a : A) → given rows s answer ≡ accepted a → a ≡ answer s
  accepted_is rows a e = let z = given_none s answer rows (given_says rows a e) in cc

  -- a refusal of the first part is the refusal of the whole
  pub given_refused : (rows rest : List Row) (number place : ℕ) → given rows s answer ≡ refused number place
      → given (rows ++ rest) s answer ≡ refused number place
  given_refused [] rest number place e = absurd (let f = given_end s answer in let z : ◌≡◌ {A = ℕ} 0 1 = cc in omega arith)
  given_refused (r ∷ rows) rest number place e = go (r.when s) refl (given_refused rows rest number place)
    where
      go : (b : Bool) → r.when s ≡ b → (given rows s answer ≡ refused number place → given (rows ++ rest) s answer ≡ refused number place)
          → given (r ∷ rows ++ rest) s answer ≡ refused number place
      go true w k = given_stop s answer r (rows ++ rest) w ∙ sym (given_stop s answer r rows w) ∙ e
      go false w k = given_skip s answer r (rows ++ rest) w ∙ k (sym (given_skip s answer r rows w) ∙ e)

-- no refusal is an acceptance
pub not_both : {A P : Type 0} {number place : ℕ} {a : A} → refused number place ≡ accepted a → P
not_both e = absurd (let z : ◌≡◌ {A = ℕ} 0 1 = cc in omega arith)

-- a refusal does not depend on what would have been answered
pub refused_any : {A B : Type 0} (s : List ℕ) (f : List ℕ → A) (g : List ℕ → B) (rows : List Row) (number place : ℕ)
    → given rows s f ≡ refused number place → given rows s g ≡ refused number place
refused_any s f g [] number place e = not_both (sym e ∙ given_end s f)
refused_any s f g (r ∷ rows) number place e = go (r.when s) refl (refused_any s f g rows number place)
  where
    go : (b : Bool) → r.when s ≡ b → (given rows s f ≡ refused number place → given rows s g ≡ refused number place)
        → given (r ∷ rows) s g ≡ refused number place
    go true w k =
        let e1 = sym (given_stop s f r rows w) ∙ e in
        let p : r.number ≡ number = cc in
        let q : r.place s ≡ place = cc in
        given_stop s g r rows w ∙ rw (p, q) refl
    go false w k = given_skip s g r rows w ∙ k (sym (given_skip s f r rows w) ∙ e)

-- ---- rows in groups
pub none_left : (a b : List Row) (s : List ℕ) → NoneApplies (a ++ b) s → NoneApplies a s
none_left [] b s h = tt
none_left (r ∷ a) b s h = (h.0, none_left a b s h.1)

pub none_right : (a b : List Row) (s : List ℕ) → NoneApplies (a ++ b) s → NoneApplies b s
none_right [] b s h = h
none_right (r ∷ a) b s h = none_right a b s h.1

pub none_both : (a b : List Row) (s : List ℕ) → NoneApplies a s → NoneApplies b s → NoneApplies (a ++ b) s
none_both [] b s h k = k
none_both (r ∷ a) b s h k = (h.0, none_both a b s h.1 k)
