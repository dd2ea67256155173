use native.Mathlib.Omega.{arith}
use Rattle.lamp.specs.Lamp.{stage_rows}
use Rattle.lamp.specs.Given.{nothing}
use Rattle.lamp.proofs.Tried.{none_stops}
use Rattle.unit.proofs.Calls.{stage_low, stage_high, stage_passes}
use Rattle.unit.proofs.rows.stage.Goals as goal

pub returns-then-k-lt3 : goal.returns-then-k-lt3
returns-then-k-lt3 c = stage_low _ c.args.k (omega arith)

pub returns-then-b-k : goal.returns-then-b-k
returns-then-b-k c = stage_high _ c.args.k (omega arith) (omega (arith, c.args.b.headed.is))

pub returns : goal.returns
returns c =
    let s = c.args.b.bytes.now in
    none_stops s nothing (stage_rows c.args.k) (stage_passes s c.args.k (omega arith) (omega (arith, c.args.b.headed.is)))
