use Rattle.std.proofs.Common.{length, ◌-◌, ◌≤◌}
use Rattle.finding.specs.Search.{beginning, outcome}
use Rattle.confirming.proofs.Passes.{Passing}
use Rattle.confirming.proofs.count.Given as goal

abbrev pub invariant-loop-count : goal.invariant-loop-count
invariant-loop-count l = record { passing : Passing l.stream l.entries l.count; few : l.count ≤ l.most }

abbrev pub decreases-loop-count : goal.decreases-loop-count
decreases-loop-count l = length (outcome beginning l.stream).entries - l.count
