use Rattle.std.proofs.Common.{◌≡◌, length}
use Rattle.page.specs.Page.{shown}
use Rattle.confirmations.specs.Carried.{GoesOn}
use Rattle.confirmations.proofs.main.Given as goal

abbrev pub invariant-loop : goal.invariant-loop
invariant-loop l = record { goes_on : GoesOn l.carried; piece : length l.piece ≡ 65536; page : (shown l.page).capacity ≡ 65536 }
