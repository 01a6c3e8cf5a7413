use Rattle.std.proofs.Common.{length, ◌-◌}
use Rattle.page.specs.Page.{shown}
use Rattle.reporting.proofs.Loop.{Standing}
use Rattle.reporting.proofs.report.Given as goal

abbrev pub invariant-loop-at : goal.invariant-loop-at
invariant-loop-at l = Standing l.piece l.initial.at l.initial.search (shown l.initial.page) l.at l.search (shown l.page)

abbrev pub decreases-loop-at : goal.decreases-loop-at
decreases-loop-at l = length l.piece - l.at
