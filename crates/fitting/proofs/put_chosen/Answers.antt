use Rattle.std.proofs.Common.{rules, arith}
use Rattle.fitting.proofs.Words.{choice_short}
use Rattle.fitting.proofs.put_chosen.Goals as goal

pub returns-clause-short : goal.returns-clause-short
returns-clause-short c = choice_short c.args.chosen (omega arith) (omega arith) (search rules)
