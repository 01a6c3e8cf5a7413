-- What is left at the first broken FF is what is left of the bytes not passed yet.
use Rattle.std.proofs.Common.{length}
use Rattle.stream.proofs.Laws.{ScannedTo}
use Rattle.stream.proofs.first_broken.Given as goal

abbrev pub invariant-loop-behind : goal.invariant-loop-behind
invariant-loop-behind l = ScannedTo l.stream l.rest

abbrev pub decreases-loop-behind : goal.decreases-loop-behind
decreases-loop-behind l = length l.rest
