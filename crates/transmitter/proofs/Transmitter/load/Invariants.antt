use Rattle.std.proofs.Common.{◌≡◌}
use Rattle.transmitter.proofs.Laws.{written_to}
use Rattle.transmitter.proofs.Transmitter.load.Given as goal

abbrev pub invariant-loop-i : goal.invariant-loop-i
invariant-loop-i l = l.queue ≡ written_to l.fn.self l.bytes l.i
