use Rattle.std.proofs.Common.{[], ap, sym, ◌∙◌}
use Rattle.transmitter.specs.Held.{sends_next}
use Rattle.transmitter.proofs.Laws.{owed_with, answers, queue_empty, sends_by}
use Rattle.transmitter.proofs.Transmitter.send_next.Goals as goal

pub returns-then-self : goal.returns-then-self
unfolding sends_next
returns-then-self c =
    answers _ _ [] (owed_with c.requires _) ∙ ap (sends_next c.args.s c.args.self) (sym c.if-self.true)

pub returns-then-self-eq0 : goal.returns-then-self-eq0
returns-then-self-eq0 c =
    let t = c.args.self in
    answers _ _ [] c.requires.is
    ∙ sym (sends_by c.args.s t [] (queue_empty t c.requires c.if-self-eq0.true))
    ∙ ap (sends_next c.args.s t) (sym c.if-self.false)
