use Rattle.tabling.proofs.Lines.{line_short}
use Rattle.tabling.proofs.put_line.Goals as goal

pub returns-clause-short : goal.returns-clause-short
returns-clause-short c = line_short c.args.first c.requires.first_bound c.put_columns.ensures.short
