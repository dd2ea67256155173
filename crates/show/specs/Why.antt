-- What the program `why` prints, byte for byte: check's reply to the block in plain words, as one line.
use Rattle.std.specs.Prelude.{ℕ, ◌*◌, ◌-◌, List, [], ◌++◌}
use Rattle.std.proofs.Math.Option.{Option, none, some}
use Rattle.block.specs.Block.{posts}
use Rattle.lamp.specs.Given.{Reply, accepted, refused, check_reply}
use Rattle.lamp.specs.ReadBack.{refusal_of}
use Rattle.lamp.specs.declared.Refusal.{Refusal}
use Rattle.text.specs.Letters.{letters, newline, numbered}
use Rattle.reasons.specs.Reasons.{reason_of}
use Rattle.show.specs.Shown.{refusal_text}

-- accepted, with the range of x and y on the last sheet
unfoldable pub accepted_line : ℕ → List ℕ
accepted_line n =
    numbered n (letters "accepted #: the board has # posts, and on its sheet x goes from 0 to ")
    ++ (numbered (2 * n - 4) (letters "# and y from 0 to ") ++ (numbered (n - 2) (letters "#") ++ newline))

-- the words of the refusal that a number and a place tell, for a block of n posts; check tells no other
abbrev pub reason_for : ℕ → Option Refusal → List ℕ
reason_for n none = []
reason_for n (some r) = reason_of n r

unfoldable pub refused_line : ℕ → ℕ → ℕ → List ℕ
refused_line n number place = refusal_text number place ++ (letters ": " ++ (reason_for n (refusal_of number place) ++ newline))

-- a reply to a block of n posts
unfoldable pub why_line : ℕ → Reply ℕ → List ℕ
why_line n (accepted m) = accepted_line m
why_line n (refused number place) = refused_line n number place

unfoldable pub why_text : List ℕ → List ℕ
why_text s = why_line (posts s) (check_reply s)
