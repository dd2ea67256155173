-- What the tests over a list say, and the other way round. `T b` is "the test b holds".
use Rattle.std.proofs.Common.{◌≡◌, ℕ, zero, suc, ◌+◌, ◌<◌, ◌≤◌, Bool, true, false, cond, not, ◌&&◌, ◌||◌, T, eqb, List, [], ◌∷◌, ◌++◌}
use Rattle.std.proofs.Common.{length, get_or, sym, refl, ap, ◌∙◌, inl, inr, arith, eqb→eq, T_not}
use lib.Dec.{eqb_refl, not_T}
use Rattle.words.specs.Lists.{In, Different, mem, all_of, any_of, count}
use Rattle.words.proofs.Lists.{Once}

-- ---- a test that holds is true
pub holds : (b : Bool) → b ≡ true → T b
holds b e = rw e tt

pub is_true : (b : Bool) → T b → b ≡ true
is_true true t = refl
is_true false t = absurd t

pub fails : (b : Bool) → b ≡ false → ¬ (T b)
fails b e = rw e (λ t. t)

pub is_false : (b : Bool) → ¬ (T b) → b ≡ false
is_false true t = absurd (t tt)
is_false false t = refl

-- ---- tests joined
pub both : (x y : Bool) → T (x && y) → T x × T y
both true y t = (tt, t)
both false y t = absurd t

pub join : (x y : Bool) → T x → T y → T (x && y)
join true y s t = t
join false y s t = absurd s

pub neither : (x y : Bool) → x || y ≡ false → (x ≡ false) × (y ≡ false)
neither true y e = absurd (fails true e tt)
neither false y e = (refl, e)

pub either : {C : Type 0} (x y : Bool) → (T x → C) → (T y → C) → T (x || y) → C
either true y f g t = f tt
either false y f g t = g t

pub or_left : (x y : Bool) → T x → T (x || y)
or_left true y t = tt
or_left false y t = absurd t

pub or_right : (x y : Bool) → T y → T (x || y)
or_right true y t = tt
or_right false y t = t

pub not_not : (x : Bool) → ¬ (T (not x)) → T x
not_not true f = tt
not_not false f = f tt

-- ---- two numbers are the same, or not
pub eqb_same : (a : ℕ) → eqb a a ≡ true
eqb_same a = is_true (eqb a a) (eqb_refl a)

pub eqb_other : (a b : ℕ) → ¬ (a ≡ b) → eqb a b ≡ false
eqb_other a b n = is_false (eqb a b) (λ t. n (eqb→eq a b t))

-- ---- a stands in the list
pub mem_in : (l : List ℕ) (a : ℕ) → T (mem l a) → In a l
unfolding mem
mem_in [] a t = t
mem_in (x ∷ l) a t = either (eqb a x) (mem l a) (λ e. inl (eqb→eq a x e)) (λ m. inr (mem_in l a m)) t

pub in_mem : (l : List ℕ) (a : ℕ) → In a l → T (mem l a)
unfolding mem
in_mem [] a h = h
in_mem (x ∷ l) a (inl e) = or_left (eqb a x) (mem l a) (rw e (eqb_refl x))
in_mem (x ∷ l) a (inr h) = or_right (eqb a x) (mem l a) (in_mem l a h)

pub mem_true : (l : List ℕ) (a : ℕ) → In a l → mem l a ≡ true
mem_true l a h = is_true (mem l a) (in_mem l a h)

pub mem_false : (l : List ℕ) (a : ℕ) → ¬ (In a l) → mem l a ≡ false
mem_false l a n = is_false (mem l a) (λ t. n (mem_in l a t))

-- ---- each entry, some entry, none
module _ (p : ℕ → Bool) where
  pub all_says : (l : List ℕ) → T (all_of p l) → (a : ℕ) → In a l → T (p a)
  unfolding all_of
  all_says [] t a h = absurd h
  all_says (x ∷ l) t a (inl e) = rw e (both (p x) (all_of p l) t).0
  all_says (x ∷ l) t a (inr h) = all_says l (both (p x) (all_of p l) t).1 a h

  pub says_all : (l : List ℕ) → ((a : ℕ) → In a l → T (p a)) → T (all_of p l)
  unfolding all_of
  says_all [] h = tt
  says_all (x ∷ l) h = join (p x) (all_of p l) (h x (inl refl)) (says_all l (λ a i. h a (inr i)))

  pub any_says : (l : List ℕ) → T (any_of p l) → (a : ℕ) × In a l × T (p a)
  unfolding any_of
  any_says [] t = absurd t
  any_says (x ∷ l) t = either (p x) (any_of p l) (λ s. (x, inl refl, s)) (λ s. let r = any_says l s in (r.0, inr r.1, r.2)) t

  pub says_any : (l : List ℕ) (a : ℕ) → In a l → T (p a) → T (any_of p l)
  unfolding any_of
  says_any [] a h t = absurd h
  says_any (x ∷ l) a (inl e) t = or_left (p x) (any_of p l) (rw e at t)
  says_any (x ∷ l) a (inr h) t = or_right (p x) (any_of p l) (says_any l a h t)

  pub none_says : (l : List ℕ) → T (not (any_of p l)) → (a : ℕ) → In a l → ¬ (T (p a))
  none_says l t a h i = T_not (any_of p l) t (says_any l a h i)

  pub says_none : (l : List ℕ) → ((a : ℕ) → In a l → ¬ (T (p a))) → T (not (any_of p l))
  says_none l h = not_T (any_of p l) (λ t. let r = any_says l t in h r.0 r.1 r.2)

  -- ---- how many
  pub count_here : (x : ℕ) (l : List ℕ) → T (p x) → count p (x ∷ l) ≡ suc (count p l)
  unfolding count
  count_here x l t = rw (is_true (p x) t) (omega arith)

  pub count_not : (x : ℕ) (l : List ℕ) → ¬ (T (p x)) → count p (x ∷ l) ≡ count p l
  unfolding count
  count_not x l t = rw (is_false (p x) t) (omega arith)

  count_more : (x : ℕ) (l : List ℕ) → count p l ≤ count p (x ∷ l)
  unfolding count
  count_more x l = omega arith

  pub count_append : (l m : List ℕ) → count p (l ++ m) ≡ count p l + count p m
  unfolding count
  count_append [] m = omega arith
  count_append (x ∷ l) m = let e = count_append l m in omega arith

  pub count_length : (l : List ℕ) → count p l ≤ length l
  unfolding count
  count_length [] = omega arith
  count_length (x ∷ l) = go (p x) (count_length l)
    where
      go : (b : Bool) → count p l ≤ length l → cond b 1 0 + count p l ≤ suc (length l)
      go true h = omega arith
      go false h = omega arith

  pub count_none : (l : List ℕ) → ((a : ℕ) → In a l → ¬ (T (p a))) → count p l ≡ 0
  unfolding count
  count_none [] h = refl
  count_none (x ∷ l) h = count_not x l (h x (inl refl)) ∙ count_none l (λ a i. h a (inr i))

  pub count_all : (l : List ℕ) → ((a : ℕ) → In a l → T (p a)) → count p l ≡ length l
  unfolding count
  count_all [] h = refl
  count_all (x ∷ l) h = count_here x l (h x (inl refl)) ∙ ap suc (count_all l (λ a i. h a (inr i)))

  pub count_some : (l : List ℕ) (a : ℕ) → In a l → T (p a) → 1 ≤ count p l
  count_some [] a h t = absurd h
  count_some (x ∷ l) a (inl e) t = let c = count_here x l (rw e at t) in omega arith
  count_some (x ∷ l) a (inr h) t = let c = count_some l a h t in let d = count_more x l in omega arith

  -- two different entries pass, if two pass; and two pass, if two different ones do
  pub count_found : (l : List ℕ) → 1 ≤ count p l → (a : ℕ) × In a l × T (p a)
  unfolding count
  count_found [] h = absurd (omega arith)
  count_found (x ∷ l) h = go (p x) refl (count_found l) h
    where
      go : (b : Bool) → p x ≡ b → (1 ≤ count p l → (a : ℕ) × In a l × T (p a)) → 1 ≤ cond b 1 0 + count p l → (a : ℕ) × In a (x ∷ l) × T (p a)
      go true e k h = (x, inl refl, rw e tt)
      go false e k h = let r = k (omega arith) in (r.0, inr r.1, r.2)

  pub count_two : (l : List ℕ) → Once l → 2 ≤ count p l → (a b : ℕ) × ¬ (a ≡ b) × In a l × In b l × T (p a) × T (p b)
  unfolding count
  count_two [] o h = absurd (omega arith)
  count_two (x ∷ l) o h = go (p x) refl (count_two l o.1) h
    where
      go : (b : Bool) → p x ≡ b → (2 ≤ count p l → (a b : ℕ) × ¬ (a ≡ b) × In a l × In b l × T (p a) × T (p b)) → 2 ≤ cond b 1 0 + count p l
          → (a b : ℕ) × ¬ (a ≡ b) × In a (x ∷ l) × In b (x ∷ l) × T (p a) × T (p b)
      go true e k h = let r = count_found l (omega arith) in (x, r.0, (λ s. o.0 (rw (← s) at r.1)), inl refl, inr r.1, rw e tt, r.2)
      go false e k h = let r = k (omega arith) in (r.0, r.1, r.2, inr r.3, inr r.4, r.5, r.6)

  pub two_count : (l : List ℕ) (a b : ℕ) → ¬ (a ≡ b) → In a l → In b l → T (p a) → T (p b) → 2 ≤ count p l
  two_count [] a b n h i s t = absurd h
  two_count (x ∷ l) a b n (inl e) (inl f) s t = absurd (n (e ∙ sym f))
  two_count (x ∷ l) a b n (inl e) (inr i) s t = let c = count_here x l (rw e at s) in let d = count_some l b i t in omega arith
  two_count (x ∷ l) a b n (inr h) (inl f) s t = let c = count_here x l (rw f at t) in let d = count_some l a h s in omega arith
  two_count (x ∷ l) a b n (inr h) (inr i) s t = let c = two_count l a b n h i s t in let d = count_more x l in omega arith

-- ---- no name stands twice
-- each entry occurs once in the list, counted
pub once_count : (l : List ℕ) → Once l → (a : ℕ) → In a l → count (eqb a) l ≡ 1
once_count [] o a h = absurd h
once_count (x ∷ l) o a (inl e) =
    count_here (eqb a) x l (rw e (eqb_refl x)) ∙ ap suc (count_none (eqb a) l (λ b i t. o.0 (rw (sym e ∙ eqb→eq a b t) i)))
once_count (x ∷ l) o a (inr h) = count_not (eqb a) x l (λ t. o.0 (rw (← eqb→eq a x t) h)) ∙ once_count l o.1 a h

pub count_once : (l : List ℕ) → ((a : ℕ) → In a l → count (eqb a) l ≡ 1) → Once l
count_once [] h = tt
count_once (x ∷ l) h =
    let n : ¬ (In x l) =
    λ i. omega (arith, h x (inl refl), count_here (eqb x) x l (eqb_refl x), count_some (eqb x) l x i (eqb_refl x)) in
    (n, count_once l (λ a i. sym (count_not (eqb a) x l (λ t. n (rw (eqb→eq a x t) at i))) ∙ h a (inr i)))

-- an entry has a place
pub place_in : (l : List ℕ) (i : ℕ) → i < length l → In (get_or l i 0) l
place_in [] i h = absurd (omega arith)
place_in (x ∷ l) zero h = inl refl
place_in (x ∷ l) (suc i) h = inr (place_in l i (omega arith))

pub in_place : (l : List ℕ) (a : ℕ) → In a l → (i : ℕ) × (i < length l) × (get_or l i 0 ≡ a)
in_place [] a h = absurd h
in_place (x ∷ l) a (inl e) = (0, omega arith, sym e)
in_place (x ∷ l) a (inr h) = let t = in_place l a h in (suc t.0, omega (arith, t.1), t.2)

pub different_once : (l : List ℕ) → Different l → Once l
different_once [] d = tt
different_once (x ∷ l) d = (
  λ h. let t = in_place l x h in let e = d 0 (suc t.0) (omega arith) (omega (arith, t.1)) (sym t.2) in omega arith,
  different_once l (λ i j a b e. let s = d (suc i) (suc j) (omega arith) (omega arith) e in omega arith),
)

pub once_different : (l : List ℕ) → Once l → Different l
once_different [] o i j a b e = absurd (omega arith)
once_different (x ∷ l) o zero zero a b e = refl
once_different (x ∷ l) o zero (suc j) a b e = absurd (o.0 (rw e (place_in l j (omega arith))))
once_different (x ∷ l) o (suc i) zero a b e = absurd (o.0 (rw (← e) (place_in l i (omega arith))))
once_different (x ∷ l) o (suc i) (suc j) a b e = ap suc (once_different l o.1 i j (omega arith) (omega arith) e)
