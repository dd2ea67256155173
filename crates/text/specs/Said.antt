-- The number that a word says, as the code holds it: no more than the most that is asked for.
use Rattle.std.specs.Prelude.{ℕ, min, cond, List, Option, Some, None}
use Rattle.text.specs.Letters.{is_number, value_of}

abbrev pub said_up_to : ℕ → List ℕ → Option ℕ
said_up_to most w = cond (is_number w) (Some (min (value_of w) most)) None
