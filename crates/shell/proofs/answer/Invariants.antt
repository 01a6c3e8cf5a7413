use Rattle.std.proofs.Common.{◌-◌, ◌≡◌, ◌≤◌, length}
use Rattle.page.specs.Page.{shown}
use Rattle.printing.specs.Printed.{longest}
use Rattle.shell.proofs.Pieces.{Begun}
use Rattle.shell.proofs.answer.Given as goal

abbrev pub invariant-loop-at : goal.invariant-loop-at
invariant-loop-at g l =
    record {
      begun : Begun l.piece (record { card = l.initial.card; line = l.initial.line; frame = l.initial.frame }) l.at
          (record { card = l.card; line = l.line; frame = l.frame });
      room : longest ≤ (shown l.page).capacity;
      same : (shown l.page).capacity ≡ (shown l.initial.page).capacity;
    }

abbrev pub decreases-loop-at : goal.decreases-loop-at
decreases-loop-at g l = length l.piece - l.at
