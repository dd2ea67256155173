-- The stage that a word names: words that say more than the limit are cut off there, and name none.
use Prim.Native.Nat.{ℕ, ◌+◌, ◌<◌, min}
use mathlib.Core.Path.{◌≡◌, refl, sym, ap}
use mathlib.Core.Bool.{Bool, true, false, cond}
use mathlib.Core.List.{List}
use native.Mathlib.Nat.{min-eq_left, min-eq_right}
use native.Mathlib.Omega.{arith}
use native.Mathlib.Decide.{dec_lt}
use Rattle.block.specs.Layout.{limit}
use Rattle.std.specs.Prelude.{Some, None}
use Rattle.text.specs.Letters.{is_number, value_of}
use Rattle.text.specs.Said.{said_up_to}
use Rattle.show.specs.Shown.{sheet_text, usage, stage_text}
use Rattle.show.proofs.Sheets.{beyond}

-- a number, and the same cut off beyond the limit
cut_off : (s : List ℕ) (v : ℕ) → sheet_text s v ≡ sheet_text s (min v (limit + 1))
cut_off s v = go (dec_lt v (limit + 1))
  where
    go : Dec (v < limit + 1) → sheet_text s v ≡ sheet_text s (min v (limit + 1))
    go (yes h) = ap (sheet_text s) (sym (min-eq_left (omega arith)))
    go (no h) = let e : min v (limit + 1) ≡ limit + 1 = min-eq_right (omega arith) in rw e (beyond s v (limit + 1) (omega arith) (omega arith))

not_none : {P : Type 0} {k : ℕ} → Some k ≡ None → P
not_none e = absurd (let z : ◌≡◌ {A = ℕ} 0 1 = cc in omega arith)

module _ (s word : List ℕ) where
  pub names_stage : (k : ℕ) → Some k ≡ said_up_to (limit + 1) word → stage_text s word ≡ sheet_text s k
  unfolding stage_text
  names_stage k e = go (is_number word) e
    where
      go : (b : Bool) → Some k ≡ cond b (Some (min (value_of word) (limit + 1))) None → cond b (sheet_text s (value_of word)) usage ≡ sheet_text s k
      go true q = let is : k ≡ min (value_of word) (limit + 1) = cc in rw is (cut_off s (value_of word))
      go false q = not_none q

  pub names_none : None ≡ said_up_to (limit + 1) word → stage_text s word ≡ usage
  unfolding stage_text
  names_none e = go (is_number word) e
    where
      go : (b : Bool) → None ≡ cond b (Some (min (value_of word) (limit + 1))) None → cond b (sheet_text s (value_of word)) usage ≡ usage
      go true q = not_none (sym q)
      go false q = refl
