-- The line of a position as the code reads it, from the names, the ends and the entries of a sheet. Only inner contracts cite it.
use Rattle.std.specs.Prelude.{ℕ, ◌+◌, ◌*◌, ◌-◌, List, get_or}
use Rattle.words.specs.Positions.{post}
use Rattle.fits.specs.Fit.{fit_line}

abbrev pub fit_entry_line : List ℕ → List ℕ → List ℕ → ℕ → List ℕ
fit_entry_line vs ends b i =
    let at = 2 * (i - 1) in
    fit_line i (post vs i) (get_or ends at 0) (get_or ends (at + 1) 0) (get_or b at 0) (get_or b (at + 1) 0)
