use Rattle.std.proofs.Common.{◌-◌, ◌≡◌, ◌≤◌, length}
use Rattle.page.specs.Page.{shown}
use Rattle.sheet.specs.Lines.{longest}
use Rattle.confirmations.proofs.Pieces.{Begun}
use Rattle.confirmations.proofs.list.Given as goal

abbrev pub invariant-loop-at : goal.invariant-loop-at
invariant-loop-at g l =
    record {
      begun : Begun l.piece l.initial.search l.at l.search;
      room : longest ≤ (shown l.page).capacity;
      same : (shown l.page).capacity ≡ (shown l.initial.page).capacity;
    }

abbrev pub decreases-loop-at : goal.decreases-loop-at
decreases-loop-at g l = length l.piece - l.at
