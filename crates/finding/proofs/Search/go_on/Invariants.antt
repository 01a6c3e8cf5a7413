use Rattle.std.proofs.Common.{length, None, ◌-◌}
use Rattle.finding.specs.Walk.{Follows}
use Rattle.finding.proofs.Search.go_on.Given as goal

abbrev pub invariant-loop-at : goal.invariant-loop-at
invariant-loop-at l = Follows l.piece l.fn.from l.fn.self None l.at l.search

abbrev pub decreases-loop-at : goal.decreases-loop-at
decreases-loop-at l = length l.piece - l.at
