-- The arrays that check fills, as its caller lends them. Only inner contracts cite it.
use Rattle.std.specs.Prelude.{ℕ, ◌≡◌, List, length}
use Rattle.order.specs.declared.Run.{Run}
use Rattle.lamp.specs.Loaded.{Loaded, Checked}
use Rattle.lamp.specs.declared.arrays.Arrays.{Arrays}

-- they hold the order and the lists of a block of n posts; and it is checked
abbrev pub LoadedIn : List ℕ → ℕ → Arrays → Type 0
LoadedIn s n a = Loaded s n a.vs.now a.at.now a.ents.now

abbrev pub CheckedIn : List ℕ → ℕ → Arrays → List ℕ → List Run → Type 0
CheckedIn s n a rank runs = Checked s n a.vs.now a.at.now a.ents.now rank runs

-- the same arrays after a call, as long as they were, whatever they hold
pub record SameArrays (a b : Arrays) : Type 0 where
  pub same_vs : b.vs.ghost_name ≡ a.vs.ghost_name
  pub same_at : b.at.ghost_name ≡ a.at.ghost_name
  pub same_ents : b.ents.ghost_name ≡ a.ents.ghost_name
  pub long_vs : length b.vs.now ≡ length a.vs.now
  pub long_at : length b.at.now ≡ length a.at.now
  pub long_ents : length b.ents.now ≡ length a.ents.now
