use Rattle.std.proofs.Common.{◌≡◌, length}
use Rattle.page.specs.Page.{shown}
use Rattle.card.specs.Held.{Sound}
use Rattle.hexadecimal.specs.LineSoFar.{Fits}
use Rattle.shell.proofs.start.Given as goal

abbrev pub invariant-loop : goal.invariant-loop
invariant-loop g l =
    record {
      sound : Sound l.carried.card;
      fits : Fits l.carried.line l.frame;
      piece : length l.piece ≡ 65536;
      page : (shown l.page).capacity ≡ 65536;
    }
