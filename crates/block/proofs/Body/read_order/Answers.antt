use Rattle.std.proofs.Common.{rules}
use Rattle.block.specs.Layout.{limit}
use Rattle.block.proofs.Laws.{zeros_at}
use Rattle.block.proofs.Body.read_order.Goals as goal

pub first_bad_entry-requires : goal.first_bad_entry-requires
first_bad_entry-requires c = (search rules, search rules, zeros_at limit)
