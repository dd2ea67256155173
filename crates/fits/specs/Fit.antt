-- What the program `fit` prints, byte for byte: a line for each position from 3 on, with the ends of the run over which its post was placed and
-- where it stands on the last sheet.
use Rattle.std.specs.Prelude.{ℕ, ◌+◌, ◌*◌, ◌-◌, List, ◌++◌}
use Rattle.words.specs.Positions.{post}
use Rattle.block.specs.Layout.{limit}
use Rattle.block.specs.Block.{order, lists}
use Rattle.placing.specs.Records.{record_of}
use Rattle.lamp.specs.Given.{Reply, accepted, refused, check_reply}
use Rattle.unit.specs.Replies.{stage_at}
use Rattle.text.specs.Letters.{letters, newline, decimal, spaced}
use Rattle.show.specs.Shown.{refusal_line, lines_to}

-- the line of a position: position, name, the word, left end, right end, x, y
unfoldable pub fit_line : ℕ → ℕ → ℕ → ℕ → ℕ → ℕ → List ℕ
fit_line i u l r x y =
    decimal i ++ (spaced u ++ (letters " between" ++ (spaced l ++ (spaced r ++ (spaced x ++ (spaced y ++ newline))))))

-- the lines of positions 3 to n: of i + 2, for each i from 1 on
abbrev pub lines_from_third : ℕ → (ℕ → List ℕ) → List ℕ
lines_from_third n line = lines_to (n - 2) (λ i. line (i + 2))

-- position i of a block of n posts, by the record of its post at the last stage
abbrev pub record_line : List ℕ → ℕ → ℕ → List ℕ
record_line s n i =
    let u = post (order s) i in
    let r = record_of (lists s) (stage_at n s) u in
    fit_line i u r.leftmost r.rightmost r.x r.y

-- the lines, or the refusal
unfoldable pub fit_or : Reply ℕ → List ℕ → List ℕ
fit_or (accepted n) s = lines_from_third n (record_line s n)
fit_or (refused number place) s = refusal_line number place

unfoldable pub fit_text : List ℕ → List ℕ
fit_text s = fit_or (check_reply s) s

-- no text is longer than this: a line has at most six numbers of five digits, five spaces, " between" and a line feed
abbrev pub longest_fit : ℕ
longest_fit = 44 * limit
