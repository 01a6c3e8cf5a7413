use borrow.Author.Rules.{rules}
use Rattle.calling.proofs.Answers.{fits}
use Rattle.calling.proofs.load.Goals as goal

pub put_load-requires : goal.put_load-requires
put_load-requires c = search (rules, fits)
