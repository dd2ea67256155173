-- How running code holds rings: all entries one after the other, and where each list begins among them.
use Rattle.std.specs.Prelude.{ℕ, ◌+◌, ◌≤◌, ◌<◌, List, [], ◌∷◌, length, get_or}
use Rattle.std.proofs.Math.Seq.{slice}

-- the lists that begin at these places, the last place being the end of the last list
unfoldable pub held : List ℕ → List ℕ → List (List ℕ)
held [] ents = []
held (a ∷ []) ents = []
held (a ∷ b ∷ at) ents = slice a b ents ∷ held (b ∷ at) ents

-- the places rise, and stay within the entries
pub record Cuts (at ents : List ℕ) : Type 0 where
  pub rise : (u : ℕ) → u + 1 < length at → get_or at u 0 ≤ get_or at (u + 1) 0
  pub within : (u : ℕ) → u < length at → get_or at u 0 ≤ length ents
