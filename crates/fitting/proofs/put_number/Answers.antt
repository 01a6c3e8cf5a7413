use Rattle.std.proofs.Common.{arith}
use Rattle.page.specs.Page.{shown}
use Rattle.fitting.proofs.Rates.{number_text, number_short}
use Rattle.fitting.proofs.put_number.Goals as goal

pub returns-clause-text : goal.returns-clause-text
returns-clause-text c = number_text c.args.clock c.args.rate (omega arith) (shown c.args.page.now) c.put_decimal.ensures c.put_answer.ensures.text

pub returns-clause-short : goal.returns-clause-short
returns-clause-short c = number_short c.args.clock c.args.rate (omega arith) c.put_answer.ensures.short
