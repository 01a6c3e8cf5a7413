use Rattle.std.proofs.Common.{◌-◌, length}
use Rattle.page.specs.Page.{shown}
use Rattle.serving.proofs.Loop.{Standing}
use Rattle.serving.proofs.serve.Given as goal

abbrev pub invariant-loop-spot : goal.invariant-loop-spot
invariant-loop-spot l =
    Standing l.piece l.initial.spot (record { channels = l.initial.ports; place = l.initial.place }) l.initial.frame (shown l.initial.page)
    l.spot (record { channels = l.ports; place = l.place }) l.frame (shown l.page)

abbrev pub decreases-loop-spot : goal.decreases-loop-spot
decreases-loop-spot l = length l.piece - l.spot.at
