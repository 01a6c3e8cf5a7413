use Rattle.std.proofs.Common.{arith}
use Rattle.paper.specs.TwoBoxes.{eight}
use Rattle.paper.specs.EndingLines.{table_line}
use Rattle.page.proofs.Laws.{each_room, one_more, all_put, none_put}
use Rattle.tabling.specs.Lines.{longest_line}
use Rattle.tabling.proofs.Lines.{eight_at}
use Rattle.tabling.proofs.put_lines.Goals as goal

pub loop-first-init : goal.loop-first-init
loop-first-init c = none_put table_line longest_line eight _

pub put_line-requires-clause-longest_line_in_bounds : goal.put_line-requires-clause-longest_line_in_bounds
put_line-requires-clause-longest_line_in_bounds c = each_room table_line longest_line eight c.loop-first.invariant (omega arith) (omega arith)

pub loop-first-preserved : goal.loop-first-preserved
loop-first-preserved c =
    let same = eight_at c.loop-first.first (omega arith) in
    one_more table_line longest_line eight c.loop-first.invariant 0 (omega arith) (rw same c.put_line.ensures.short) (rw same c.put_line.ensures.text)

pub returns : goal.returns
returns c = all_put table_line longest_line eight c.loop-first.invariant (omega arith)
