-- The lines so far are written.
use Rattle.page.specs.Page.{shown}
use Rattle.paper.specs.RateLines.{usual_rates}
use Rattle.page.proofs.Laws.{EachPut}
use Rattle.fitting.specs.Lines.{longest_line}
use Rattle.fitting.proofs.Rates.{line_of}
use Rattle.fitting.proofs.put_usual.Given as goal

abbrev pub invariant-loop-rate : goal.invariant-loop-rate
invariant-loop-rate l = EachPut (line_of l.clock) longest_line usual_rates (shown l.fn.page) l.rate-index (shown l.page)
