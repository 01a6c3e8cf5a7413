use Rattle.std.proofs.Common.{arith}
use lib.Seq.{take_all}
use Rattle.paper.specs.TwoBoxes.{eight}
use Rattle.paper.specs.EndingLines.{column_of}
use Rattle.page.proofs.Laws.{each_room, one_more, all_put, none_put}
use Rattle.tabling.specs.Lines.{longest_column}
use Rattle.tabling.proofs.Lines.{eight_at}
use Rattle.tabling.proofs.put_columns.Goals as goal

pub loop-second-init : goal.loop-second-init
loop-second-init c = none_put (column_of c.args.first) longest_column eight _

pub put_column-requires-clause-longest_column_in_bounds : goal.put_column-requires-clause-longest_column_in_bounds
put_column-requires-clause-longest_column_in_bounds c = each_room (column_of c.args.first) longest_column eight c.loop-second.invariant (omega arith) (omega arith)

pub loop-second-preserved : goal.loop-second-preserved
loop-second-preserved c =
    let same = eight_at c.loop-second.second (omega arith) in
    one_more (column_of c.args.first) longest_column eight c.loop-second.invariant 0 (omega arith) (rw same c.put_column.ensures.short) (rw same c.put_column.ensures.text)

pub returns : goal.returns
returns c =
    record {
      text = all_put (column_of c.args.first) longest_column eight c.loop-second.invariant (omega arith);
      short = omega (arith, rw (take_all c.loop-second.second eight (omega arith)) at c.loop-second.invariant.short);
    }
