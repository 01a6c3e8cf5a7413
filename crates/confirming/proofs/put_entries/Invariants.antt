use Rattle.std.proofs.Common.{length, ◌-◌}
use Rattle.finding.specs.Search.{beginning, outcome}
use Rattle.confirming.specs.Promise.{columns}
use Rattle.confirming.proofs.Passes.{Putting}
use Rattle.confirming.proofs.put_entries.Given as goal

abbrev pub invariant-loop-entry : goal.invariant-loop-entry
invariant-loop-entry l =
    Putting
    l.stream
    (columns l.initial.places l.initial.numbers l.initial.litres l.initial.judgements)
    (columns l.places l.numbers l.litres l.judgements)
    l.entries
    l.count

abbrev pub decreases-loop-entry : goal.decreases-loop-entry
decreases-loop-entry l = length (outcome beginning l.stream).entries - l.count
