use Rattle.std.proofs.Common.{arith}
use Rattle.reporting.proofs.Loop.{goes_on_lem, ends}
use Rattle.reporting.proofs.report.Goals as goal

pub loop-at-preserved : goal.loop-at-preserved
loop-at-preserved c = goes_on_lem c.loop-at.invariant c.in-Ok.ensures (omega arith) c.put_told.ensures

pub returns-in-Err : goal.returns-in-Err
returns-in-Err c = ends c.loop-at.invariant c.in-Err.ensures c.put_stop.ensures
