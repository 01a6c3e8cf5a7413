-- The columns so far are written.
use Rattle.page.specs.Page.{shown}
use Rattle.paper.specs.TwoBoxes.{eight}
use Rattle.paper.specs.EndingLines.{column_of}
use Rattle.page.proofs.Laws.{EachPut}
use Rattle.tabling.specs.Lines.{longest_column}
use Rattle.tabling.proofs.put_columns.Given as goal

abbrev pub invariant-loop-second : goal.invariant-loop-second
invariant-loop-second l = EachPut (column_of l.first) longest_column eight (shown l.fn.page) l.second (shown l.page)
