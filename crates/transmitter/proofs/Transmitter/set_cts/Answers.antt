use Rattle.std.proofs.Common.{arith}
use borrow.Author.Tests.{lt-ltb, le-ltb}
use Rattle.transmitter.specs.Held.{sets_cts}
use Rattle.transmitter.proofs.Laws.{cts_with, answers}
use Rattle.transmitter.proofs.Transmitter.set_cts.Goals as goal

pub returns-then-value-gt1 : goal.returns-then-value-gt1
unfolding sets_cts
returns-then-value-gt1 c = rw (lt-ltb 1 c.args.value (omega arith)) (answers _ _ _ c.requires.is)

pub returns : goal.returns
unfolding sets_cts
returns c = rw (le-ltb 1 c.args.value c.if-value-gt1.false) (answers _ _ _ (cts_with c.requires _))
