use mathlib.Core.Path.{sym, ap, ◌∙◌}
use Rattle.std.proofs.Common.{Err}
use Rattle.lamp.specs.Given.{reply_of}
use Rattle.lamp.proofs.BoardRows.{answer_at, position_found, rule_listed, rule_name}
use Rattle.lamp.proofs.rules.Board.position.Goals as goal

pub rule_at-requires : goal.rule_at-requires
rule_at-requires c =
    let L = c.args.self.trimmed in
    let R = c.requires.1 in
    let name = rule_name _ _ _ _ L R _ c.requires.2 c.requires.3 in
    (rule_listed _ _ _ _ L R _ c.requires.0, c.requires.2, c.requires.3, name)

pub returns-in-Ok : goal.returns-in-Ok
returns-in-Ok c =
    sym (ap (λ (f : _). reply_of (answer_at c.args.k f)) c.in-Ok.is) ∙ position_found _ _ _ _ c.args.self.trimmed _ _ c.rule_at.ensures

pub returns-in-Err-Few : goal.returns-in-Err-Few
returns-in-Err-Few c =
    let e = c.in-Err-Few.is ∙ ap Err c.in-Err-Few.field-0-is in
    sym (ap (λ (f : _). reply_of (answer_at c.args.k f)) e) ∙ position_found _ _ _ _ c.args.self.trimmed _ _ c.rule_at.ensures

pub returns-in-Err-Broken : goal.returns-in-Err-Broken
returns-in-Err-Broken c =
    let e = c.in-Err-Broken.is ∙ ap Err c.in-Err-Broken.field-0-is in
    sym (ap (λ (f : _). reply_of (answer_at c.args.k f)) e) ∙ position_found _ _ _ _ c.args.self.trimmed _ _ c.rule_at.ensures
