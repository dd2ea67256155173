-- Loops along the contour: what one turn more does.
use Prim.Native.Nat.{ℕ, suc, ◌+◌, ◌-◌, ◌≤◌, ◌<◌}
use mathlib.Core.Path.{◌≡◌, refl, ap, sym, ◌∙◌, subst}
use mathlib.Core.List.{List, [], ◌∷◌}
use native.Mathlib.Omega.{arith}
use lib.ListN.{length, get_or, set, length-set}
use Rattle.block.specs.Layout.{bias}
use Rattle.contour.specs.Arrays.{path, walk, along, Below, covered, hung, SumsFit}

-- with i of m turns done
module _ (right : List ℕ) (a i m : ℕ) where
  less : i < m → m - i ≡ suc (m - (i + 1))
  less h = omega arith

  done : m ≤ i → m - i ≡ 0
  done h = omega arith

  pub path_turn : i < m → path right a (m - i) ≡ a ∷ path right (get_or right a 0) (m - (i + 1))
  unfolding path
  path_turn h = rw (less h) refl

  pub path_done : m ≤ i → path right a (m - i) ≡ []
  unfolding path
  path_done h = rw (done h) refl

  pub walk_turn : i < m → walk right a (m - i) ≡ walk right (get_or right a 0) (m - (i + 1))
  unfolding walk
  walk_turn h = rw (less h) refl

  pub walk_done : m ≤ i → walk right a (m - i) ≡ a
  unfolding walk
  walk_done h = rw (done h) refl

pub along_cons : (off : List ℕ) (a : ℕ) (l : List ℕ) → along off (a ∷ l) ≡ get_or off a 0 + along off l
unfolding along
along_cons off a l = refl

pub along_nil : (off : List ℕ) → along off [] ≡ 0
unfolding along
along_nil off = refl

pub hung_cons : (off : List ℕ) (a : ℕ) (l : List ℕ) (s d : ℕ) → hung off (a ∷ l) s d ≡ hung (set off a (s + get_or off a 0 + bias - d)) l (s + get_or off a 0) d
unfolding hung
hung_cons off a l s d = refl

pub hung_nil : (off : List ℕ) (s d : ℕ) → hung off [] s d ≡ off
unfolding hung
hung_nil off s d = refl

pub covered_cons : (cover : List ℕ) (a : ℕ) (l : List ℕ) (v : ℕ) → covered cover (a ∷ l) v ≡ covered (set cover a v) l v
unfolding covered
covered_cons cover a l v = refl

pub covered_nil : (cover : List ℕ) (v : ℕ) → covered cover [] v ≡ cover
unfolding covered
covered_nil cover v = refl

-- ---- to the post m places right of p, with the sum of the offsets
pub record Reach (right off : List ℕ) (p m a s i : ℕ) : Type 0 where
  pub upto : i ≤ m
  pub small : a < 65536
  pub goes : walk right a (m - i) ≡ walk right p m
  pub sums : s + along off (path right (get_or right a 0) (m - i)) ≡ along off (path right (get_or right p 0) m)
  pub in_right : Below (length right) (path right a (m - i))
  pub in_off : Below (length off) (path right (get_or right a 0) (m - i))

module _ {right off : List ℕ} {p m a s i : ℕ} (R : Reach right off p m a s i) where
  pub reach_end : m ≤ i → (a ≡ walk right p m) × (s ≡ along off (path right (get_or right p 0) m))
  reach_end h = (sym (walk_done right a i m h) ∙ R.goes, omega (arith, R.sums, ap (along off) (path_done right (get_or right a 0) i m h), along_nil off))

  -- j is a, and b is its right neighbour
  module _ (h : i < m) {j : ℕ} (ej : j ≡ a) where
    pub reach_here : j < length right
    reach_here = rw ej (subst (Below (length right)) (path_turn right a i m h) R.in_right).0

    module _ {b : ℕ} (eb : b ≡ get_or right j 0) where
      next : get_or right a 0 ≡ b
      next = rw (eb, ej) refl

      onward : path right (get_or right a 0) (m - i) ≡ b ∷ path right (get_or right b 0) (m - (i + 1))
      onward = path_turn right (get_or right a 0) i m h ∙ rw next refl

      pub reach_next : b < length off
      reach_next = (subst (Below (length off)) onward R.in_off).0

      pub reach_sum : s + get_or off b 0 + along off (path right (get_or right b 0) (m - (i + 1))) ≡ along off (path right (get_or right p 0) m)
      reach_sum = omega (arith, R.sums, ap (along off) onward, along_cons off b (path right (get_or right b 0) (m - (i + 1))))

      pub reach_again : b < 65536 → Reach right off p m (get_or right j 0) (s + get_or off b 0) (i + 1)
      reach_again small =
          subst (λ (a : ℕ). Reach right off p m a (s + get_or off b 0) (i + 1)) eb
          (record {
            upto = omega arith;
            small = small;
            goes = rw (← next) (sym (walk_turn right a i m h) ∙ R.goes);
            sums = reach_sum;
            in_right = rw (← next) (subst (Below (length right)) (path_turn right a i m h) R.in_right).1;
            in_off = (subst (Below (length off)) onward R.in_off).1;
          })

-- ---- the m posts from `first` on covered
pub record Hang (right off₀ cover₀ : List ℕ) (first m d v : ℕ) (off cover : List ℕ) (a s i : ℕ) : Type 0 where
  pub upto : i ≤ m
  pub small : a < 65536
  pub offs : hung off (path right a (m - i)) s d ≡ hung off₀ (path right first m) 1 d
  pub covers : covered cover (path right a (m - i)) v ≡ covered cover₀ (path right first m) v
  pub fits : SumsFit off (path right a (m - i)) s d
  pub same_off : length off ≡ length off₀
  pub same_cover : length cover ≡ length cover₀
  pub in_right : Below (length right) (path right a (m - i))
  pub in_off : Below (length off₀) (path right a (m - i))
  pub in_cover : Below (length cover₀) (path right a (m - i))

module _ {right off₀ cover₀ : List ℕ} {first m d v : ℕ} {off cover : List ℕ} {a s i : ℕ} (R : Hang right off₀ cover₀ first m d v off cover a s i) where
  pub hang_end : m ≤ i → (off ≡ hung off₀ (path right first m) 1 d) × (cover ≡ covered cover₀ (path right first m) v)
  hang_end h =
      let e = path_done right a i m h in (
        sym (hung_nil off s d) ∙ ap (λ (l : List ℕ). hung off l s d) (sym e) ∙ R.offs,
        sym (covered_nil cover v) ∙ ap (λ (l : List ℕ). covered cover l v) (sym e) ∙ R.covers,
      )

  module _ (h : i < m) {j : ℕ} (ej : j ≡ a) where
    abbrev l : List ℕ
    l = path right (get_or right j 0) (m - (i + 1))

    turn : path right a (m - i) ≡ j ∷ l
    turn = path_turn right a i m h ∙ rw (← ej) refl

    pub hang_right : j < length right
    hang_right = (subst (Below (length right)) turn R.in_right).0

    pub hang_off : j < length off
    hang_off = omega (arith, R.same_off, (subst (Below (length off₀)) turn R.in_off).0)

    pub hang_cover : j < length cover
    hang_cover = omega (arith, R.same_cover, (subst (Below (length cover₀)) turn R.in_cover).0)

    fit : SumsFit off (j ∷ l) s d
    fit = subst (λ (r : List ℕ). SumsFit off r s d) turn R.fits

    pub hang_fits : s + get_or off j 0 + bias ≤ 65535
    hang_fits = fit.0

    pub hang_again : get_or right j 0 < 65536
        → Hang right off₀ cover₀ first m d v (set off j (s + get_or off j 0 + bias - d)) (set cover j v) (get_or right j 0) (s + get_or off j 0)
        (i + 1)
    hang_again small =
        record {
          upto = omega arith;
          small = small;
          offs = sym (hung_cons off j l s d) ∙ ap (λ (r : List ℕ). hung off r s d) (sym turn) ∙ R.offs;
          covers = sym (covered_cons cover j l v) ∙ ap (λ (r : List ℕ). covered cover r v) (sym turn) ∙ R.covers;
          fits = fit.1;
          same_off = length-set off j (s + get_or off j 0 + bias - d) ∙ R.same_off;
          same_cover = length-set cover j v ∙ R.same_cover;
          in_right = (subst (Below (length right)) turn R.in_right).1;
          in_off = (subst (Below (length off₀)) turn R.in_off).1;
          in_cover = (subst (Below (length cover₀)) turn R.in_cover).1;
        }
