-- The bytes stored so far changed nothing in what is left to write.
use Rattle.hexadecimal.specs.Steps.{Paired}
use Rattle.hexadecimal.proofs.pairs.Given as goal

abbrev pub invariant-loop-count : goal.invariant-loop-count
invariant-loop-count l = Paired l.piece l.fn.from l.fn.frame l.count l.frame
