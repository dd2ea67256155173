-- The line of a position as the code reads it, from the names and the entries of a sheet. Only inner contracts cite it.
use Rattle.std.specs.Prelude.{ℕ, ◌+◌, ◌*◌, ◌-◌, List, get_or}
use Rattle.words.specs.Positions.{post}
use Rattle.show.specs.Shown.{position_line}

abbrev pub entry_line : List ℕ → List ℕ → ℕ → List ℕ
entry_line vs b i = position_line i (post vs i) (get_or b (2 * (i - 1)) 0) (get_or b (2 * (i - 1) + 1) 0)
