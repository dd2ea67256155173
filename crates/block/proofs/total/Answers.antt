use Rattle.std.proofs.Common.{◌≡◌, ◌∙◌, rules}
use Rattle.std.specs.List.{sum_by}
use Rattle.words.proofs.Numbers.{sum_is}
use Rattle.block.proofs.total.Goals as goal

pub returns : goal.returns
returns c =
    let e : c.sum.result ≡ sum_by (λ x. x) c.args.ds.now = search rules in
    e ∙ sum_is c.args.ds.now
