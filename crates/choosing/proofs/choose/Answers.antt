use Rattle.std.proofs.Common.{rules, ◌∙◌}
use Rattle.choosing.proofs.Rows.{refused_outside, chosen_is_kept}
use Rattle.choosing.proofs.choose.Goals as goal

pub returns-in_err-new : goal.returns-in_err-new
returns-in_err-new c = let refused = c.in_err-new.ensures.err in search (rules, refused_outside _ _ refused.1, refused.0)

pub returns : goal.returns
returns c =
    let w = c.in_ok-new.field-0 in
    let asked = c.in_ok-new.ensures.ok in
    let kept = c.nearest.ensures in
    c.tell.ensures ∙ rw (kept.0, ← asked.0, ← asked.1) (chosen_is_kept w.clock w.rate _ w.in_range kept.1)
