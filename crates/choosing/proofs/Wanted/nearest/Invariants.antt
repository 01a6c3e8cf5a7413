-- What is kept is the best of the rows so far.
use Rattle.std.proofs.Common.{take}
use Rattle.paper.specs.Rate.{divisors, rows}
use Rattle.choosing.specs.Kept.{Kept}
use Rattle.choosing.proofs.Wanted.nearest.Given as goal

abbrev pub invariant-loop-divisor : goal.invariant-loop-divisor
invariant-loop-divisor l = Kept l.initial.kept (rows (take l.divisor-index divisors)) l.kept
