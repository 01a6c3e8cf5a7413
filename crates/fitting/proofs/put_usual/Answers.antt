use Rattle.std.proofs.Common.{arith}
use Rattle.paper.specs.RateLines.{usual_rates}
use Rattle.page.proofs.Laws.{each_room, one_more, all_put, none_put}
use Rattle.fitting.specs.Lines.{longest_line}
use Rattle.fitting.proofs.Rates.{line_of, all_lines}
use Rattle.fitting.proofs.put_usual.Goals as goal

pub loop-rate-init : goal.loop-rate-init
loop-rate-init c = none_put (line_of c.args.clock) longest_line usual_rates _

pub put_number-requires : goal.put_number-requires
put_number-requires c = each_room (line_of c.args.clock) longest_line usual_rates c.loop-rate.invariant (omega arith) (omega arith)

pub loop-rate-preserved : goal.loop-rate-preserved
loop-rate-preserved c =
    one_more (line_of c.args.clock) longest_line usual_rates c.loop-rate.invariant 0 (omega arith) c.put_number.ensures.short c.put_number.ensures.text

pub returns : goal.returns
returns c = rw all_lines at (all_put (line_of c.args.clock) longest_line usual_rates c.loop-rate.invariant (omega arith))
