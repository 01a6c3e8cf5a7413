use Rattle.std.proofs.Common.{arith}
use Rattle.choosing.proofs.Rows.{no_rows, row_more, all_rows, from_the_first}
use Rattle.choosing.proofs.Wanted.nearest.Goals as goal

pub loop-divisor-init : goal.loop-divisor-init
loop-divisor-init c = no_rows c.see-kept.result

pub loop-divisor-preserved : goal.loop-divisor-preserved
loop-divisor-preserved c = row_more (omega arith) c.loop-divisor.invariant c.look_along-kept.ensures

pub returns : goal.returns
returns c = from_the_first c.see-kept.ensures.0 c.see-kept.ensures.1 (all_rows (omega arith) c.loop-divisor.invariant)
