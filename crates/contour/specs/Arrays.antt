-- The linked contour in arrays by name, and what placing a post over its run does to them.
use Rattle.std.specs.Prelude.{ℕ, zero, suc, ◌+◌, ◌-◌, ◌/◌, ◌≤◌, ◌<◌, ◌≡◌, List, [], ◌∷◌, length, get_or, set}
use Rattle.block.specs.Layout.{bias}

-- k posts from a on, along the contour: each is the right neighbour of the one before
unfoldable pub path : List ℕ → ℕ → ℕ → List ℕ
path right a zero = []
path right a (suc k) = a ∷ path right (get_or right a 0) k

-- the k-th post after a
unfoldable pub walk : List ℕ → ℕ → ℕ → ℕ
walk right a zero = a
walk right a (suc k) = walk right (get_or right a 0) k

-- the sum of the offsets of the posts of a list
unfoldable pub along : List ℕ → List ℕ → ℕ
along off [] = 0
along off (a ∷ l) = get_or off a 0 + along off l

-- the posts of a list are below n
abbrev pub Below : ℕ → List ℕ → Type 0
Below n [] = Unit {0}
Below n (a ∷ l) = (a < n) × Below n l

-- the posts of a list covered by v
unfoldable pub covered : List ℕ → List ℕ → ℕ → List ℕ
covered cover [] v = cover
covered cover (a ∷ l) v = covered (set cover a v) l v

-- their offsets, with the running sum s and the offset d of the post that covers them: s - d, and the bias
unfoldable pub hung : List ℕ → List ℕ → ℕ → ℕ → List ℕ
hung off [] s d = off
hung off (a ∷ l) s d = hung (set off a (s + get_or off a 0 + bias - d)) l (s + get_or off a 0) d

-- each of these is a 16-bit number
abbrev pub SumsFit : List ℕ → List ℕ → ℕ → ℕ → Type 0
SumsFit off [] s d = Unit {0}
SumsFit off (a ∷ l) s d = (s + get_or off a 0 + bias ≤ 65535) × SumsFit (set off a (s + get_or off a 0 + bias - d)) l (s + get_or off a 0) d

-- ---- v put over the run of m posts that begins with p
-- its last post, and how far that stands from p once it has moved
abbrev pub run_end : List ℕ → ℕ → ℕ → ℕ
run_end right p m = walk right p (m - 1)

abbrev pub far_at : List ℕ → List ℕ → ℕ → ℕ → ℕ
far_at right off p m = along off (path right (get_or right p 0) (m - 1)) + 2

-- the posts between
abbrev pub inner_at : List ℕ → ℕ → ℕ → List ℕ
inner_at right p m = path right (get_or right p 0) (m - 2)

-- the new post's offset and height, with w_q that far from w_p
abbrev pub drop_of : ℕ → ℕ → ℕ → ℕ
drop_of far yp yq = (far + yq - yp) / 2

abbrev pub rise_of : ℕ → ℕ → ℕ → ℕ
rise_of far yp yq = (far + yq + yp) / 2

abbrev pub new_off : List ℕ → List ℕ → List ℕ → ℕ → ℕ → ℕ
new_off ys off right p m = drop_of (far_at right off p m) (get_or ys p 0) (get_or ys (run_end right p m) 0)

abbrev pub new_height : List ℕ → List ℕ → List ℕ → ℕ → ℕ → ℕ
new_height ys off right p m = rise_of (far_at right off p m) (get_or ys p 0) (get_or ys (run_end right p m) 0)

-- what the spot needs: the run's posts have room in the arrays, and the numbers fit
pub record Spans (p m : ℕ) (ys off right : List ℕ) : Type 0 where
  pub two : 2 ≤ m
  pub p_ys : p < length ys
  pub q_ys : run_end right p m < length ys
  pub run_right : Below (length right) (path right p (m - 1))
  pub run_off : Below (length off) (path right (get_or right p 0) (m - 1))
  pub far_fits : far_at right off p m + get_or ys (run_end right p m) 0 + get_or ys p 0 ≤ 65535
  pub low : get_or ys p 0 ≤ far_at right off p m + get_or ys (run_end right p m) 0

-- what the code needs
pub record Ready (v p m : ℕ) (ys off cover left right : List ℕ) : Type 0 where
  pub spans : Spans p m ys off right
  pub p_right : p < length right
  pub q_off : run_end right p m < length off
  pub q_left : run_end right p m < length left
  pub v_ys : v < length ys
  pub v_off : v < length off
  pub v_cover : v < length cover
  pub v_left : v < length left
  pub v_right : v < length right
  pub in_right : Below (length right) (inner_at right p m)
  pub in_off : Below (length off) (inner_at right p m)
  pub in_cover : Below (length cover) (inner_at right p m)
  pub off_fits : new_off ys off right p m ≤ bias
  pub off_far : new_off ys off right p m ≤ far_at right off p m
  pub fits : SumsFit off (inner_at right p m) 1 (new_off ys off right p m)

-- the arrays after it
pub record Over (v p m : ℕ) (ys off cover left right ys' off' cover' left' right' : List ℕ) : Type 0 where
  pub ys_is : ys' ≡ set ys v (new_height ys off right p m)
  pub off_is : off'
      ≡ set (set (hung off (inner_at right p m) 1 (new_off ys off right p m)) v (new_off ys off right p m)) (run_end right p m)
      (far_at right off p m - new_off ys off right p m)
  pub cover_is : cover' ≡ set (covered cover (inner_at right p m) v) v v
  pub left_is : left' ≡ set (set left v p) (run_end right p m) v
  pub right_is : right' ≡ set (set right p v) v (run_end right p m)
