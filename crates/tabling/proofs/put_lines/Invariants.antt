-- The lines so far are written.
use Rattle.page.specs.Page.{shown}
use Rattle.paper.specs.TwoBoxes.{eight}
use Rattle.paper.specs.EndingLines.{table_line}
use Rattle.page.proofs.Laws.{EachPut}
use Rattle.tabling.specs.Lines.{longest_line}
use Rattle.tabling.proofs.put_lines.Given as goal

abbrev pub invariant-loop-first : goal.invariant-loop-first
invariant-loop-first l = EachPut table_line longest_line eight (shown l.fn.page) l.first (shown l.page)
