use Rattle.std.proofs.Common.{rules, sym, ◌∙◌}
use Rattle.judging.proofs.FirstBad.{fields_judged}
use Rattle.judging.proofs.judge.Goals as goal

pub returns-in_err-test_fields : goal.returns-in_err-test_fields
returns-in_err-test_fields c =
    let judged = fields_judged c.args.most c.args.bytes.now c.in-Some.settings (sym c.settings_of.ensures ∙ c.in-Some.is) in
    search rules

pub returns : goal.returns
returns c =
    let judged = fields_judged c.args.most c.args.bytes.now c.in-Some.settings (sym c.settings_of.ensures ∙ c.in-Some.is) in
    search rules
