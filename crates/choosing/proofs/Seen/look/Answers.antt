use Rattle.std.proofs.Common.{sym, ◌∙◌}
use Rattle.choosing.proofs.Rows.{nearer_seen, no_nearer}
use Rattle.choosing.proofs.Seen.look.Goals as goal

pub returns-then-is_nearer : goal.returns-then-is_nearer
returns-then-is_nearer c =
    let seen = c.see-seen in
    nearer_seen c.args.self seen.result _ seen.ensures.0 seen.ensures.1 (sym c.is_nearer.ensures ∙ c.if-is_nearer.true)

pub returns-else-is_nearer : goal.returns-else-is_nearer
returns-else-is_nearer c =
    let seen = c.see-seen in
    no_nearer c.args.self seen.result _ seen.ensures.0 seen.ensures.1 (sym c.is_nearer.ensures ∙ c.if-is_nearer.false)
