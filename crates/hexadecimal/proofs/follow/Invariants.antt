-- What was passed changed nothing in what is left to write.
use Rattle.hexadecimal.specs.Steps.{Reached}
use Rattle.hexadecimal.proofs.follow.Given as goal

abbrev pub invariant-loop-at : goal.invariant-loop-at
invariant-loop-at l = Reached l.piece l.fn.from l.fn.line l.fn.frame l.at l.held l.frame
