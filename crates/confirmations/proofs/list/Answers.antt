use Rattle.std.proofs.Common.{rules, arith}
use Rattle.confirmations.proofs.Pieces.{goes_on_lem, last_line_lem, ends}
use Rattle.confirmations.proofs.list.Goals as goal

pub returns-then-reported-clause-leaves : goal.returns-then-reported-clause-leaves
returns-then-reported-clause-leaves g c =
    rw c.search-start.ensures at (last_line_lem c.loop-at.invariant.begun (search rules) c.report-reported.ensures c.if-reported.true)

pub loop-at-preserved : goal.loop-at-preserved
loop-at-preserved g c =
    record {
      begun = goes_on_lem c.loop-at.invariant.begun (search rules) c.report-reported.ensures c.if-reported.false;
      room = search rules;
      same = search rules;
    }

pub returns-clause-leaves : goal.returns-clause-leaves
returns-clause-leaves g c = rw c.search-start.ensures at (ends c.loop-at.invariant.begun (omega arith))
