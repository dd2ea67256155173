use Rattle.std.proofs.Common.{ℕ, arith}
use Rattle.engine.proofs.Told.{stage_within, names_fit, sheet_is}
use Rattle.engine.proofs.Known.{once, with_plan}
use Rattle.engine.proofs.sheet_at.Goals as goal

pub write_sheet-requires : goal.write_sheet-requires
write_sheet-requires c =
    let pre = c.requires in
    with_plan c.args.runs (hlevel once) (λ A. (
      omega (arith, pre.0.1),
      omega (arith, stage_within A pre.0.1),
      omega (arith, pre.3),
      λ (j : ℕ) l. names_fit A pre.0.0 pre.0.1 c.draw.ensures.columned j (omega (arith, l)),
    ))

pub returns-clause-sheet : goal.returns-clause-sheet
returns-clause-sheet c =
    with_plan c.args.runs (hlevel once) (λ A. sheet_is A c.requires.0.0 c.requires.0.1 c.draw.ensures.columned _ c.write_sheet.ensures)
