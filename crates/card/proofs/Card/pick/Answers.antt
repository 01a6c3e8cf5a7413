use Rattle.std.proofs.Common.{sym, ◌∙◌}
use Rattle.card.proofs.Laws.{picks, picks_none}
use Rattle.card.proofs.Card.pick.Goals as goal

pub returns-in-None : goal.returns-in-None
returns-in-None c = picks_none c.args.self c.requires (sym c.next_ready.ensures ∙ c.in-None.is)

pub returns-in-Some : goal.returns-in-Some
returns-in-Some c = picks c.args.self c.requires _ (sym c.next_ready.ensures ∙ c.in-Some.is)
