use Rattle.std.proofs.Common.{sym, ◌∙◌, true, false}
use Rattle.transmitter.proofs.Laws.{head_sent}
use Rattle.transmitter.proofs.Transmitter.send_head.Goals as goal

pub returns-then-self : goal.returns-then-self
returns-then-self c =
    rw c.if-self.true
    (head_sent c.args.s c.args.self c.requires.0 c.requires.1 true c.close_up.ensures (sym c.if-self.true ∙ c.owes_nl.ensures))

pub returns-else-self : goal.returns-else-self
returns-else-self c =
    rw c.if-self.false
    (head_sent c.args.s c.args.self c.requires.0 c.requires.1 false c.close_up.ensures (sym c.if-self.false ∙ c.owes_nl.ensures))
