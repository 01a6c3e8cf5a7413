use Rattle.std.proofs.Common.{◌-◌, ◌≡◌, drop}
use Rattle.paper.specs.Card.{round}
use Rattle.picking.specs.Look.{found}
use Rattle.picking.proofs.look.Given as goal

abbrev pub invariant-loop-k : goal.invariant-loop-k
invariant-loop-k l = found l.ready (round l.place) ≡ found l.ready (drop (l.k - 1) (round l.place))
