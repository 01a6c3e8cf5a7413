use Rattle.std.proofs.Common.{sym, ◌∙◌, []}
use Rattle.paper.specs.Card.{pick}
use Rattle.card.proofs.Laws.{picks, picks_none}
use Rattle.calling.proofs.Lines.{replies}
use Rattle.calling.proofs.pick.Goals as goal

pub returns-in-None : goal.returns-in-None
returns-in-None c =
    let p = picks_none c.args.card c.requires.0 (sym c.next_ready.ensures ∙ c.in-None.is) in
    record { text = _; replies = replies c.args.card pick _ _ [] p; wrote = c.put_pair.ensures }

pub returns-in-Some : goal.returns-in-Some
returns-in-Some c =
    let p = picks c.args.card c.requires.0 _ (sym c.next_ready.ensures ∙ c.in-Some.is) in
    record { text = _; replies = replies c.args.card pick _ _ [] p; wrote = c.put_pair-in-Some.ensures }
