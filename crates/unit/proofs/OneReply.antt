-- Two answers that meet a promise are told alike, and answers that are told alike are equal.
use mathlib.Core.Path.{sym, ◌∙◌}
use Rattle.lamp.proofs.ReadBack.{one_told}
use Rattle.unit.specs.Promises.{OneReply}

pub one_reply : OneReply
one_reply =
    record {
      check = λ s r q e f. one_told r q (e ∙ sym f);
      sheet = λ s k b r q after other e f. (one_told r q (e.0 ∙ sym f.0), cc (e.1, f.1));
      ends = λ s k b r q after other e f. (one_told r q (e.0 ∙ sym f.0), cc (e.1, f.1));
      post = λ s k u r q e f. one_told r q (e ∙ sym f);
    }
